-- Not to be believed: what inner contracts cite.
use Rattle.wire.specs.Reading.{byte}
use Rattle.rendezvous.specs.Table.{process}
use Rattle.rendezvous.specs.WellFormed.{well_formed}
use Rattle.rendezvous.specs.Calls.{stepped}
use Rattle.process.specs.Rules.{partner_of}
use Rattle.records.specs.Layout.{place_at, index_at, kept_at, altcount_at, partners_at}
use Rattle.inplace.specs.Types.{ℕ, Bool, true, List, length, eqb, Answer}
use Rattle.inplace.specs.Layout.{table_length, count_at, record_start}
use Rattle.inplace.specs.Reading.{table_of}
use Rattle.inplace.specs.Calls.{stepped_by}
use Rattle.inplace.specs.Leaves.{Leaves}
use Rattle.std.specs.Prelude.{◌%◌, not, ◌&&◌, ◌||◌, cond, ltb, ◌+◌, ◌≤◌, ◌<◌, ◌≡◌, Some, Ok}
use Rattle.alternative.specs.Guards.{kept_match}
use Rattle.process.specs.Process.{own_guard, posted_list}

-- the kept index at C, held against the posted list of the process that the guard names, read by their bytes
unfoldable pub kept_fits : List ℕ → List ℕ → Bool
kept_fits t r = not (eqb (byte r place_at) 4) || ltb (byte r kept_at) (byte t (record_start (byte r (partners_at + byte r index_at % 8) % 32) + altcount_at))

-- a table of which process p can be stepped: 7 and 2 do not turn it away
abbrev pub Ready : List ℕ → ℕ → Type 0
Ready t p = (table_length ≤ length t) × (well_formed (table_of t) ≡ true) × (p < byte t count_at)

-- .. and stands at A, T or C, at this tag, at a guard that names q
abbrev pub Paired : List ℕ → ℕ → ℕ → ℕ → Type 0
Paired t p q tag = (p < 32) × (q < 32) × Ready t p × (byte t (record_start p + place_at) ≡ tag) × (q ≡ partner_of (process (table_of t) p))

-- a step that is not turned away: it has changed something or nothing
abbrev pub Steps : List ℕ → ℕ → List ℕ → Bool → Type 0
Steps t p t' moved = Leaves (stepped (table_of t) p) (stepped_by (table_of t) p) t t' (cond moved (Ok (Answer.Moved (process (table_of t') p).place)) (Ok Answer.Unchanged))

-- rule 7's condition, for process p at T: q accepts, and its posted guard j is the one to be kept
abbrev pub Keeps : List ℕ → ℕ → ℕ → ℕ → Type 0
Keeps t p q j =
    let x = process (table_of t) p in
    let y = process (table_of t) q in
    (y.accepting ≡ true) × (kept_match p (own_guard x (byte t (record_start p + index_at))) q (posted_list y) ≡ Some j)

-- a commit came first, by a place's tag and whether it is accepting
abbrev pub late_by : ℕ → ℕ → Bool
late_by tag accepting = eqb tag 4 || ((eqb tag 7 || eqb tag 9) && eqb accepting 0)
