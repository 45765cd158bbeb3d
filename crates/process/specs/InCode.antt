-- To be believed. What the code hands on, as it holds it: an effect on two records, an outcome, the process that one is committed to. No call and no part of demand 3 rests on it.
use Rattle.std.specs.Prelude.{Option, Some, None}
use Rattle.process.specs.Types.{ℕ, Place, Process}
use Rattle.process.specs.declared.Change.{Change}
use Rattle.process.specs.Process.{if_met, if_committed, own_guard}
use Rattle.process.specs.Rules.{Effect, Neither, Own, Both}
use Rattle.alternative.specs.declared.Message.{Message}

-- an effect as the code hands it on, where anything changes: the own record, and of the partner's, where it changes too, the wake count and the signal
abbrev pub change_of : Effect → Option Change
change_of Neither = None
change_of (Own x') = Some (record { own = x'; told = None })
change_of (Both x' y') = Some (record { own = x'; told = Some (record { accepting = y'.accepting; signal = y'.signal }) })

-- the outcome at M, as a signal has it
abbrev pub outcome_of : Place → Option (ℕ × Message)
outcome_of place = if_met None (λ i m. Some (i, m)) place

-- the process that the guard at C names
abbrev pub committed_at : Process → Place → ℕ
committed_at x place = if_committed 0 (λ i j. (own_guard x i).partner) place
