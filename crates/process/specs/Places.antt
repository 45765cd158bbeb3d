-- To be believed. Document 01, "The desk and its tasks" and "Calls": for every place its letter, guard index and word, and whether an offer is open there, line by line.
use Rattle.std.specs.Prelude.{map, ◌≡◌, ◌∷◌, Option, Some, None}
use Rattle.alternative.specs.Types.{Char}
use Rattle.alternative.specs.declared.Message.{Message}
use Rattle.process.specs.Types.{ℕ, code, Bool, true, false, List, [], Place, State}
use Rattle.process.specs.Process.{letter_of, state_of, index_of, open_at}

-- what is told of a place; open offers by the wake count, 0 and 1
pub record Told : Type 0 where
  pub letter : ℕ
  pub index : Option ℕ
  pub word : State
  pub open_at0 : Bool
  pub open_at1 : Bool

abbrev pub told : Place → Told
told place = record { letter = letter_of place; index = index_of place; word = state_of place; open_at0 = open_at place true; open_at1 = open_at place false }

abbrev line : Char → Option ℕ → State → Bool → Bool → Told
line letter index word open_at0 open_at1 = record { letter = code letter; index = index; word = word; open_at0 = open_at0; open_at1 = open_at1 }

-- the eleven places, in the order of document 01's table; what A, T, C, S and M carry is any
abbrev places : ℕ → ℕ → ℕ → Message → List Place
places i j s m = Place.Idle ∷ Place.Entering ∷ Place.Met i m ∷ Place.Scanning i ∷ Place.Trying i ∷ Place.Committed i j ∷ Place.Posting ∷ Place.Opening ∷ Place.Showing ∷ Place.Asleep s ∷ Place.Waiting ∷ []

abbrev pub PlaceTable : Type 0
PlaceTable =
    (i j s : ℕ) (m : Message)
    → map told (places i j s m)
    ≡ line "I" None State.Running false false
    ∷ line "E" None State.Running true true
    ∷ line "M" None State.Running false false
    ∷ line "A" (Some i) State.Alt true true
    ∷ line "T" (Some i) State.Alt true true
    ∷ line "C" (Some i) State.Alt false false
    ∷ line "P" None State.Alt true true
    ∷ line "O" None State.Alt true true
    ∷ line "H" None State.Alt true false
    ∷ line "S" None State.Sleeping true true
    ∷ line "W" None State.Waiting true false
    ∷ []
