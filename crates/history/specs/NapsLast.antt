-- To be believed. CR 3 of document 02: "a sleeper leaves S at its d-th own step there. Its earlier steps count as changes". So it is in every list of calls from any fresh table, told by
-- the answers alone: where a process naps, just d of its steps in a row are answered S, the one to S and d - 1 early ones, and the step after them takes it elsewhere, unless it withdraws. (That it goes to S
-- at all is rule 5's.)
use Rattle.std.specs.Prelude.{◌+◌, ◌<◌, ◌≤◌, ◌≡◌, ◌∷◌, Option, None}
use Rattle.rendezvous.specs.Table.{most_processes, fresh_table}
use Rattle.rendezvous.specs.Numbers.{Said, made, ticket, place, same, outcome, withdrawn, too_late, movers, refusal}
use Rattle.rendezvous.specs.Run.{Call, Offer, Step, Collect, Withdraw, said_to, table_after, table_after_all}
use Rattle.history.specs.Types.{ℕ, code, cond, List, [], eqb, ProcessTable}

-- the process whose call it is
abbrev pub caller_of : Call → ℕ
caller_of (Offer p gs) = p
caller_of (Step p) = p
caller_of (Collect p) = p
caller_of (Withdraw p) = p

-- How many answers S a process has got in a row, after s of them and one answer more. What changes nothing leaves the row as it is; another place, a ticket, an outcome or "withdrawn"
-- ends it (and `made` and `movers`, which answer no call of a process).
abbrev pub slept_on : ℕ → Said → ℕ
slept_on s (place letter index) = cond (eqb letter (code "S")) (s + 1) 0
slept_on s same = s
slept_on s too_late = s
slept_on s (refusal number) = s
slept_on s made = 0
slept_on s (ticket t) = 0
slept_on s (outcome i q m) = 0
slept_on s withdrawn = 0
slept_on s (movers set) = 0

-- .. of process p, over a list of calls from table t
unfoldable pub slept : ℕ → ℕ → ProcessTable → List Call → ℕ
slept p s t [] = s
slept p s t (c ∷ cs) = slept p (cond (eqb p (caller_of c)) (slept_on s (said_to t c)) s) (table_after t c) cs

-- of a table with nap length d, in which process p has got s answers S in a row
pub record NapLasts (d p : ℕ) (t : ProcessTable) (s : ℕ) : Type 0 where
  pub most : s ≤ d
  -- a nap that is begun and not over: the next own step is answered S, too
  pub goes_on : 1 ≤ s → s < d → said_to t (Step p) ≡ place (code "S") None
  -- the d-th own step at S leads elsewhere
  pub ends : s ≡ d → (letter : ℕ) × (index : Option ℕ) × (said_to t (Step p) ≡ place letter index) × (letter ≡ code "S" → ⊥)

abbrev pub NapsLast : Type 0
NapsLast = (n d : ℕ) → 2 ≤ n → n ≤ most_processes → 1 ≤ d → (calls : List Call) (p : ℕ) → NapLasts d p (table_after_all (fresh_table n d) calls) (slept p 0 (fresh_table n d) calls)
