-- To be believed. CR 5 of document 02, a rank is "0 if left out": where no guard that is offered has a rank, rule 7 keeps the first guard that matches, as in document 01. The function
-- `calls_without_ranks` carries this claim, of every list of calls. (Of rules, calls and book nothing else than this search looks at a rank.)
use Rattle.std.specs.Prelude.{◌≡◌, ◌∷◌}
use Rattle.alternative.specs.Guards.{kept_match}
use Rattle.alternative.specs.Ranks.{AllOfRank, first_match}
use Rattle.process.specs.Process.{posted_list}
use Rattle.rendezvous.specs.Types.{ℕ, List, [], Guard, ProcessTable}
use Rattle.rendezvous.specs.Table.{process, fresh_table}
use Rattle.rendezvous.specs.Run.{Call, Offer, Step, Collect, Withdraw, table_after_all}

-- no guard that the calls offer has another rank than 0
abbrev pub NoRank : Call → Type 0
NoRank (Offer p gs) = AllOfRank 0 gs
NoRank (Step p) = Unit {0}
NoRank (Collect p) = Unit {0}
NoRank (Withdraw p) = Unit {0}

abbrev pub NoRanks : List Call → Type 0
NoRanks [] = Unit {0}
NoRanks (c ∷ cs) = NoRank c × NoRanks cs

-- whoever searches whichever posted list of the table with whatever guard finds what document 01's rule 7 finds, "the first such index", or none
abbrev pub AsBefore : ProcessTable → Type 0
AsBefore t = (p : ℕ) (g : Guard) (q : ℕ) → let hs = posted_list (process t q) in kept_match p g q hs ≡ first_match p g q hs

abbrev pub CallsWithoutRanks : Type 0
CallsWithoutRanks = (n d : ℕ) (calls : List Call) → NoRanks calls → AsBefore (table_after_all (fresh_table n d) calls)
