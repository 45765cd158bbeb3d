-- Not to be believed: what inner contracts cite.
use Rattle.wire.specs.Reading.{byte}
use Rattle.process.specs.Rules.{Effect, Neither, Own}
use Rattle.process.specs.Fits.{list_fits}
use Rattle.std.specs.Prelude.{set, ◌&&◌, ◌||◌}
use Rattle.records.specs.Types.{ℕ, Bool, not, cond, List, eqb, ltb, leb, Guard, Process}
use Rattle.records.specs.Layout.{place_at, index_at, signal_at, signal_index_at, count_at, altcount_at, partners_at, posted_partners_at, own_at, posted_at}
use Rattle.records.specs.Reading.{guards_at, process_of}

-- what a rule leaves of the own record's bytes, where it changes no other: an effect as the code says it
abbrev pub own_effect : Bool → List ℕ → Effect
own_effect moved r = cond moved (Own (process_of r)) Neither

-- a tag that has an index: A, T, C and M
abbrev pub indexed : ℕ → Bool
indexed tag = (leb 2 tag && leb tag 4) || leb 10 tag

-- a tag whose word is RUNNING or SLEEPING: I, E, S and M
abbrev pub passes_by : ℕ → Bool
passes_by tag = leb tag 1 || (eqb tag 8 || leb 10 tag)

-- an open offer, by its tag and whether it is accepting
abbrev pub open_by : ℕ → Bool → Bool
open_by tag accepting = (leb 1 tag && leb tag 3) || ((leb 5 tag && leb tag 6) || (eqb tag 8 || ((eqb tag 7 || eqb tag 9) && accepting)))

-- the indexes of place and signal have a guard, and a sleeper has not slept its nap
unfoldable pub indexes_fit : ℕ → List ℕ → Bool
indexes_fit nap r =
    (not (indexed (byte r place_at)) || ltb (byte r index_at) (byte r count_at))
    && ((not (eqb (byte r place_at) 8) || ltb (byte r index_at) nap) && (eqb (byte r signal_at) 0 || ltb (byte r signal_index_at) (byte r count_at)))

-- both lists fit
abbrev pub lists_fit : ℕ → ℕ → List ℕ → Bool
lists_fit n p r = list_fits n p (byte r count_at) (guards_at r partners_at own_at) && list_fits n p (byte r altcount_at) (guards_at r posted_partners_at posted_at)

-- all that refusal 7 asks of a record but the kept index
unfoldable pub record_fits : ℕ → ℕ → ℕ → List ℕ → Bool
record_fits n nap p r = lists_fit n p r && indexes_fit nap r

-- a posted guard matches an own one that names its process, by the bytes of both
unfoldable pub match_by : ℕ → ℕ → ℕ → ℕ → ℕ → ℕ → ℕ → ℕ → Bool
match_by ownEnabled ownSends ownKind enabled partner sends kind p =
    (not (eqb ownEnabled 0) && (not (eqb enabled 0) && (eqb partner p && ((eqb ownSends 0 && not (eqb sends 0)) || (not (eqb ownSends 0) && eqb sends 0))))) && eqb ownKind kind

-- a record with another own guard k
abbrev pub with_guards : Process → List Guard → Process
with_guards x guards = record { place = x.place; signal = x.signal; transaction = x.transaction; accepting = x.accepting; count = x.count; altcount = x.altcount; guards = guards; altlist = x.altlist }

abbrev pub with_guard : Process → ℕ → Guard → Process
with_guard x k g = with_guards x (set x.guards k g)
