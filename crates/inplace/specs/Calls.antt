-- To be believed. A new table in the place of an old one, and whose records a call changes.
use Rattle.std.specs.Prelude.{◌||◌, Ok}
use Rattle.process.specs.Rules.{Effect, Neither, Own, Both, partner_of}
use Rattle.rendezvous.specs.Table.{process, fresh_table}
use Rattle.rendezvous.specs.Refusals.{create_verdict}
use Rattle.rendezvous.specs.Calls.{if_accepted, effect_on}
use Rattle.inplace.specs.Types.{ℕ, Bool, false, eqb, ProcessTable, Answer, Reply}

-- New, where a table t stood. Where it is refused, "No desk is made.": t stays.
unfoldable pub remake : ProcessTable → ℕ → ℕ → Reply
remake t n d = if_accepted (create_verdict n d) t (record { answer = Ok Answer.Made; table = fresh_table n d })

-- r's record is among those that an effect of process p with partner q changes
abbrev pub changed_by : ℕ → ℕ → Effect → ℕ → Bool
changed_by p q Neither r = false
changed_by p q (Own x) r = eqb r p
changed_by p q (Both x y) r = eqb r p || eqb r q

-- .. that a step of process p changes
abbrev pub stepped_by : ProcessTable → ℕ → ℕ → Bool
stepped_by t p r = changed_by p (partner_of (process t p)) (effect_on t p) r
