-- Not to be believed: what inner contracts cite; no contract of a public function does.
use Rattle.std.specs.Prelude.{Bool, true, false, not, leb, is_some}
use Rattle.process.specs.Types.{Place, State, Process}
use Rattle.process.specs.Process.{state_of}

-- rule 6's condition: the partner's word is ALT, and its ticket is not smaller
abbrev pub held_by : State → Bool → Bool
held_by State.Running younger = false
held_by State.Sleeping younger = false
held_by State.Waiting younger = false
held_by State.Alt younger = younger

abbrev pub is_held : Process → Process → Bool
is_held x y = held_by (state_of y.place) (leb x.transaction.0 y.transaction.0)

-- whether a rule changes anything
abbrev pub changes_at : Process → Process → Place → Bool
changes_at x y (Place.Scanning i) = not (is_held x y)
changes_at x y Place.Waiting = is_some x.signal
changes_at x y Place.Idle = false
changes_at x y (Place.Met i m) = false
changes_at x y Place.Entering = true
changes_at x y (Place.Trying i) = true
changes_at x y (Place.Committed i j) = true
changes_at x y Place.Posting = true
changes_at x y Place.Opening = true
changes_at x y Place.Showing = true
changes_at x y (Place.Asleep s) = true
