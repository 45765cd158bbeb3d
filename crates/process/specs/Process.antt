-- To be believed. Document 01, "The desk and its tasks", and what CR 3 of document 02 lets S carry: the words, a record and its lists, a fresh record; and from "Calls": an open offer.
use Rattle.std.specs.Prelude.{◌&&◌, ◌||◌, Option, Some, None}
use Prim.Native.String.{[] as end, ◌∷◌ as ◌then◌}
use Rattle.alternative.specs.Guards.{most_guards, blank}
use Rattle.process.specs.Types.{ℕ, code, String, Bool, false, eqb, List, [], get_or, take, replicate, Message, Guard, Place, State, Process}

-- "I idle, E entering, M met", "A scanning, T trying, C committed, P posting, O opening, H showing", "S asleep", "W waiting"
abbrev pub letter_of : Place → ℕ
letter_of Place.Idle = code "I"
letter_of Place.Entering = code "E"
letter_of (Place.Met i m) = code "M"
letter_of (Place.Scanning i) = code "A"
letter_of (Place.Trying i) = code "T"
letter_of (Place.Committed i j) = code "C"
letter_of Place.Posting = code "P"
letter_of Place.Opening = code "O"
letter_of Place.Showing = code "H"
letter_of (Place.Asleep s) = code "S"
letter_of Place.Waiting = code "W"

-- at one of the places that have these letters
abbrev is_one_of : String → ℕ → Bool
is_one_of end letter = false
is_one_of (c then cs) letter = eqb letter (code c) || is_one_of cs letter

abbrev pub is_at : String → Place → Bool
is_at letters place = is_one_of letters (letter_of place)

abbrev pub is_idle : Place → Bool
is_idle place = eqb (letter_of place) (code "I")

-- "Others read a word that follows from the place"
abbrev pub state_of : Place → State
state_of Place.Idle = State.Running
state_of Place.Entering = State.Running
state_of (Place.Met i m) = State.Running
state_of (Place.Scanning i) = State.Alt
state_of (Place.Trying i) = State.Alt
state_of (Place.Committed i j) = State.Alt
state_of Place.Posting = State.Alt
state_of Place.Opening = State.Alt
state_of Place.Showing = State.Alt
state_of (Place.Asleep s) = State.Sleeping
state_of Place.Waiting = State.Waiting

-- What a place carries: at A and T the index of a guard, at C that and the kept index, at S how many own steps were made there (CR 3 of document 02), at M "an outcome (a guard index with a message)", at the others nothing.
abbrev pub carried {ℓ} : {A : Type ℓ} → A → (ℕ → A) → (ℕ → ℕ → A) → (ℕ → A) → (ℕ → Message → A) → Place → A
carried other index kept steps outcome (Place.Scanning i) = index i
carried other index kept steps outcome (Place.Trying i) = index i
carried other index kept steps outcome (Place.Committed i j) = kept i j
carried other index kept steps outcome (Place.Asleep s) = steps s
carried other index kept steps outcome (Place.Met i m) = outcome i m
carried other index kept steps outcome Place.Idle = other
carried other index kept steps outcome Place.Entering = other
carried other index kept steps outcome Place.Posting = other
carried other index kept steps outcome Place.Opening = other
carried other index kept steps outcome Place.Showing = other
carried other index kept steps outcome Place.Waiting = other

-- "A, T and C carry the index of a guard."
abbrev pub index_of : Place → Option ℕ
index_of place = carried None Some (λ i j. Some i) (λ s. None) (λ i m. None) place

-- C alone, and M alone
abbrev pub if_committed {ℓ} : {A : Type ℓ} → A → (ℕ → ℕ → A) → Place → A
if_committed other committed place = carried other (λ i. other) committed (λ s. other) (λ i m. other) place

abbrev pub if_met {ℓ} : {A : Type ℓ} → A → (ℕ → Message → A) → Place → A
if_met other met place = carried other (λ i. other) (λ i j. other) (λ s. other) met place

-- a process's own list and its posted list, and guard i of each
abbrev pub own_list : Process → List Guard
own_list x = take x.count x.guards

abbrev pub posted_list : Process → List Guard
posted_list x = take x.altcount x.altlist

abbrev pub own_guard : Process → ℕ → Guard
own_guard x i = get_or (own_list x) i blank

abbrev pub posted_guard : Process → ℕ → Guard
posted_guard x i = get_or (posted_list x) i blank

-- what stands outside a table: a process at I with empty lists, which no call acts on
abbrev pub nobody : Process
nobody = record { place = Place.Idle; signal = None; transaction = record { 0 = 0 }; accepting = false; count = 0; altcount = 0; guards = []; altlist = [] }

-- "A fresh desk has every party at I, own and posted lists empty, wake counts 1, no signals, every party's ticket .. 0."
abbrev pub fresh_process : Process
fresh_process = let blanks = replicate most_guards blank in record { place = Place.Idle; signal = None; transaction = record { 0 = 0 }; accepting = false; count = 0; altcount = 0; guards = blanks; altlist = blanks }

-- "On any desk, reached or damaged, the open offers are those of parties at E, A, T, P, O or S, or at H or W with wake count 0."
abbrev pub open_at : Place → Bool → Bool
open_at place accepting = is_at "EATPOS" place || (is_at "HW" place && accepting)

abbrev pub is_open : Process → Bool
is_open x = open_at x.place x.accepting
