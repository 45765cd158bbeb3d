-- To be believed. That a table is read back from its bytes: `reads_back` carries it of any table that is held, and `encode` of every table of the code. `guard_as_bytes`, `head_as_bytes` and `nap_as_bytes` carry the bytes of a guard, of a head and of a sleeper.
use Rattle.std.specs.Prelude.{◌^◌, ◌<◌, ◌≡◌, ◌∷◌, ◌++◌, Option, Some, None}
use Rattle.alternative.specs.Guards.{most_guards}
use Rattle.process.specs.Process.{if_met}
use Rattle.rendezvous.specs.Table.{most_processes}
use Rattle.wire.specs.Types.{ℕ, true, List, [], length, T, Float, binary32, w32, SFits, Message, Action, Guard}
use Rattle.wire.specs.Types.{Place, Process, Head, ProcessTable}
use Rattle.wire.specs.Layout.{table_length}
use Rattle.wire.specs.Reading.{guard_of, place_of, head_of, table_of}
use Rattle.wire.specs.Writing.{guard_bytes, place_bytes, head_bytes, bytes_of}
use Rattle.std.specs.Float.Ieee as ieee

-- a ticket of 32 bits, a total of 64, a signed number of 32 bits, an f32, as the code's types have them
abbrev Ticket : ℕ → Type 0
Ticket x = x < 2 ^ 32

abbrev Total : ℕ → Type 0
Total x = x < 2 ^ 64

abbrev pub Single : Float → Type 0
Single x = T (ieee.fits binary32 x)

abbrev pub MessageHeld : Message → Type 0
MessageHeld Message.Nothing = Unit {0}
MessageHeld (Message.Whole z) = SFits w32 z
MessageHeld (Message.Reading x) = Single x
MessageHeld (Message.Limit low high) = Single low × Single high

abbrev pub ActionHeld : Action → Type 0
ActionHeld Action.Receive = Unit {0}
ActionHeld (Action.Send m) = MessageHeld m

abbrev pub SignalHeld : Option (ℕ × Message) → Type 0
SignalHeld None = Unit {0}
SignalHeld (Some (i, m)) = MessageHeld m

abbrev pub PlaceHeld : Place → Type 0
PlaceHeld place = MessageHeld (if_met Message.Nothing (λ i m. m) place)

abbrev pub Each : {A : Type 0} → (A → Type 0) → List A → Type 0
Each P [] = Unit {0}
Each P (x ∷ xs) = P x × Each P xs

pub record GuardsHeld (gs : List Guard) : Type 0 where
  pub slots : length gs ≡ most_guards
  pub each : Each (λ g. ActionHeld g.action) gs

pub record ProcessHeld (x : Process) : Type 0 where
  pub place : PlaceHeld x.place
  pub signal : SignalHeld x.signal
  pub ticket : Ticket x.transaction.0
  pub own : GuardsHeld x.guards
  pub posted : GuardsHeld x.altlist

pub record HeadHeld (h : Head) : Type 0 where
  pub next : Ticket h.next.0
  pub meetings : Total h.meetings
  pub withdrawn : Total h.withdrawn

-- a table that the code's types can hold
pub record Held (t : ProcessTable) : Type 0 where
  pub head : HeadHeld t.head
  pub records : length t.processes ≡ most_processes
  pub each : Each ProcessHeld t.processes

-- a table's bytes are as many as they should be, and are read as that table, whatever follows them
pub record Faithful (t : ProcessTable) : Type 0 where
  pub long : length (bytes_of t) ≡ table_length
  pub read_back : (rest : List ℕ) → table_of (bytes_of t ++ rest) ≡ t

abbrev pub ReadsBack : Type 0
ReadsBack = (t : ProcessTable) → Held t → Faithful t

-- The bytes of one guard, in their order: enabled, to partner 7, of kind 9, of rank 5, sending nothing. They are read as that guard.
abbrev a_guard : Guard
a_guard = record { enabled = true; partner = 7; kind = 9; rank = 5; action = Action.Send Message.Nothing }

abbrev its : List ℕ
its = 1 ∷ 7 ∷ 9 ∷ 5 ∷ 1 ∷ 0 ∷ 0 ∷ 0 ∷ 0 ∷ 0 ∷ 0 ∷ 0 ∷ 0 ∷ 0 ∷ []

abbrev pub GuardAsBytes : Type 0
GuardAsBytes = (guard_bytes a_guard ≡ its) × (guard_of its ≡ a_guard)

-- The bytes of one head, in their order: 7 processes, naps of 9 steps, the next ticket 3, and totals no two bytes of which are the same. They are read as that head.
abbrev a_head : Head
a_head = record { n = 7; nap = 9; next = record { 0 = 3 }; meetings = 0x0807_0605_0403_0201; withdrawn = 0x100f_0e0d_0c0b_0a09 }

abbrev heads_own : List ℕ
heads_own = 7 ∷ 9 ∷ 3 ∷ 0 ∷ 0 ∷ 0 ∷ 1 ∷ 2 ∷ 3 ∷ 4 ∷ 5 ∷ 6 ∷ 7 ∷ 8 ∷ 9 ∷ 10 ∷ 11 ∷ 12 ∷ 13 ∷ 14 ∷ 15 ∷ 16 ∷ []

abbrev pub HeadAsBytes : Type 0
HeadAsBytes = (head_bytes a_head ≡ heads_own) × (head_of heads_own ≡ a_head)

-- The bytes of one place: asleep, after 5 steps there. They are read as that place.
abbrev a_sleepers_own : List ℕ
a_sleepers_own = 8 ∷ 5 ∷ 0 ∷ 0 ∷ 0 ∷ 0 ∷ 0 ∷ 0 ∷ 0 ∷ 0 ∷ 0 ∷ 0 ∷ []

abbrev pub NapAsBytes : Type 0
NapAsBytes = (place_bytes (Place.Asleep 5) ≡ a_sleepers_own) × (place_of a_sleepers_own ≡ Place.Asleep 5)
