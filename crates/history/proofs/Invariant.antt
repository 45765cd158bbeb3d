-- What holds of each process, and of each two, on every table that is reached.
use Rattle.std.specs.Prelude.{Option, Some, None}
use Prim.Native.Nat.{ℕ, ◌+◌, ◌*◌, ◌≤◌, ◌<◌}
use mathlib.Core.Path.{◌≡◌}
use mathlib.Core.List.{List}
use mathlib.Core.Bool.{Bool, true, false}
use lib.ListN.{get_or, length}
use lib.Dec.{ltb}
use Rattle.alternative.specs.declared.Guard.{Guard}
use Rattle.alternative.specs.Guards.{blank, guards_match}
use Rattle.process.specs.declared.Place.{Place}
use Rattle.process.specs.declared.State.{State}
use Rattle.process.specs.declared.Process.{Process}
use Rattle.rendezvous.specs.declared.Head.{Head}
use Rattle.rendezvous.specs.declared.ProcessTable.{ProcessTable}
use Rattle.process.specs.Process.{state_of, index_of, carried, if_committed, own_list, posted_list, own_guard, is_idle, is_open}
use Rattle.rendezvous.specs.Table.{most_processes, process, count_below}
use Rattle.process.specs.Fits.{list_fits, signal_fits}
use Rattle.history.proofs.View.{View}
use Rattle.alternative.specs.declared.Message.{Message}

-- the offer is open and its scan is past guard k
abbrev pub Past : Place → Bool → ℕ → Type 0
Past Place.Idle accepting k = ⊥
Past Place.Entering accepting k = ⊥
Past (Place.Scanning i) accepting k = k < i
Past (Place.Trying i) accepting k = k < i
Past (Place.Committed i j) accepting k = ⊥
Past Place.Posting accepting k = Unit {0}
Past Place.Opening accepting k = Unit {0}
Past Place.Showing accepting k = accepting ≡ true
Past (Place.Asleep s) accepting k = ⊥
Past Place.Waiting accepting k = accepting ≡ true
Past (Place.Met i m) accepting k = ⊥

-- at T at guard k
abbrev pub Tries : Place → ℕ → Type 0
Tries Place.Idle k = ⊥
Tries Place.Entering k = ⊥
Tries (Place.Scanning i) k = ⊥
Tries (Place.Trying i) k = i ≡ k
Tries (Place.Committed i j) k = ⊥
Tries Place.Posting k = ⊥
Tries Place.Opening k = ⊥
Tries Place.Showing k = ⊥
Tries (Place.Asleep s) k = ⊥
Tries Place.Waiting k = ⊥
Tries (Place.Met i m) k = ⊥

-- at C with guard a and kept index b
abbrev pub Commits : Place → ℕ → ℕ → Type 0
Commits pl a b = if_committed ⊥ (λ i j. (i ≡ a) × (j ≡ b)) pl

-- at H or W
abbrev pub Shows : Place → Type 0
Shows Place.Idle = ⊥
Shows Place.Entering = ⊥
Shows (Place.Scanning i) = ⊥
Shows (Place.Trying i) = ⊥
Shows (Place.Committed i j) = ⊥
Shows Place.Posting = ⊥
Shows Place.Opening = ⊥
Shows Place.Showing = Unit {0}
Shows (Place.Asleep s) = ⊥
Shows Place.Waiting = Unit {0}
Shows (Place.Met i m) = ⊥

-- a place whose word rule 3 goes by, and W, which rule 4 goes by
abbrev pub QuietState : State → Type 0
QuietState State.Running = Unit {0}
QuietState State.Sleeping = Unit {0}
QuietState State.Alt = ⊥
QuietState State.Waiting = ⊥

abbrev pub Quiet : Place → Type 0
Quiet pl = QuietState (state_of pl)

abbrev pub WaitingState : State → Type 0
WaitingState State.Running = ⊥
WaitingState State.Sleeping = ⊥
WaitingState State.Alt = ⊥
WaitingState State.Waiting = Unit {0}

abbrev pub Waits : Place → Type 0
Waits pl = WaitingState (state_of pl)

-- guard i of a list is enabled, and so it is there
abbrev pub On : List Guard → ℕ → Type 0
On gs i = (get_or gs i blank).enabled ≡ true

-- the guard that a place carries, if it carries one, is enabled
abbrev pub OnAt : List Guard → Option ℕ → Type 0
OnAt gs (Some i) = On gs i
OnAt gs None = Unit {0}

-- wake count 1 and no signal
abbrev pub Calm : Bool → Option (ℕ × Message) → Type 0
Calm accepting signal = (accepting ≡ false) × (signal ≡ None)

-- at H or W the own list gs is posted as hs, and a signal comes after the wake count is 1
pub record Shown (gs hs : List Guard) (accepting : Bool) (signal : Option (ℕ × Message)) : Type 0 where
  pub posted : hs ≡ gs
  pub deaf : accepting ≡ true → signal ≡ None

-- what a place says of the own list gs, the posted list hs, the wake count and the signal
abbrev pub Fine : Place → List Guard → List Guard → Bool → Option (ℕ × Message) → Type 0
Fine Place.Idle gs hs accepting signal = Calm accepting signal
Fine Place.Entering gs hs accepting signal = Calm accepting signal
Fine (Place.Scanning i) gs hs accepting signal = Calm accepting signal
Fine (Place.Trying i) gs hs accepting signal = Calm accepting signal
Fine (Place.Committed i j) gs hs accepting signal = Calm accepting signal
Fine Place.Posting gs hs accepting signal = Calm accepting signal
Fine Place.Opening gs hs accepting signal = Calm accepting signal × (hs ≡ gs)
Fine Place.Showing gs hs accepting signal = Shown gs hs accepting signal
Fine (Place.Asleep s) gs hs accepting signal = Calm accepting signal
Fine Place.Waiting gs hs accepting signal = Shown gs hs accepting signal
Fine (Place.Met i m) gs hs accepting signal = Calm accepting signal

-- of process p with record x, in a table with head h
pub record Alone (h : Head) (p : ℕ) (x : Process) : Type 0 where
  pub fine : Fine x.place (own_list x) (posted_list x) x.accepting x.signal
  pub own : list_fits h.n p x.count x.guards ≡ true
  pub on : OnAt (own_list x) (index_of x.place)
  -- one that is not at I is a process of the table, with a ticket that was given out
  pub there : is_idle x.place ≡ false → p < h.n
  pub given : is_idle x.place ≡ false → x.transaction.0 < h.next.0

-- a process that another has committed to, and that does not know it yet
pub record Bound (y : Process) : Type 0 where
  pub shows : Shows y.place
  pub woken : y.accepting ≡ false
  pub deaf : y.signal ≡ None

-- of two processes p and q with records x and y
pub record Paired (p q : ℕ) (x y : Process) : Type 0 where
  -- of two matching guards of open offers not both are past,
  pub past : (k l : ℕ) → guards_match p (own_guard x k) q (own_guard y l) ≡ true → Past x.place x.accepting k → Past y.place y.accepting l → ⊥
  -- if one is tried and the other past, that other waits, and not both are tried
  pub tries : (k l : ℕ) → guards_match p (own_guard x k) q (own_guard y l) ≡ true → Tries x.place k → Past y.place y.accepting l → Waits y.place
  pub never : (k l : ℕ) → guards_match p (own_guard x k) q (own_guard y l) ≡ true → Tries x.place k → Tries y.place l → ⊥
  -- a commit binds the partner on matching guards, and no two commit to one
  pub bound : (i j : ℕ) → Commits x.place i j → (own_guard x i).partner ≡ q → Bound y × (guards_match p (own_guard x i) q (own_guard y j) ≡ true)
  pub single : (i j k l : ℕ) → Commits x.place i j → Commits y.place k l → (own_guard x i).partner ≡ (own_guard y k).partner → ⊥
  -- tickets differ
  pub differ : is_idle x.place ≡ false → is_idle y.place ≡ false → x.transaction.0 ≡ y.transaction.0 → ⊥

pub record Inv (h : Head) (v : View) : Type 0 where
  pub alone : (p : ℕ) → Alone h p (v p)
  pub paired : (p q : ℕ) → (p ≡ q → ⊥) → Paired p q (v p) (v q)

-- the steps made at S are fewer than d, and the index of an outcome has a guard in a list of count guards
abbrev pub PlaceFormed : ℕ → ℕ → Place → Type 0
PlaceFormed d count place = carried (Unit {0}) (λ i. Unit {0}) (λ i j. Unit {0}) (λ s. ltb s d ≡ true) (λ i m. ltb i count ≡ true) place

-- Of the record x of process p, in a table of n with nap length d: the posted list, the signal, the steps at S and the outcome are as refusal 7 asks.
pub record Formed (n d p : ℕ) (x : Process) : Type 0 where
  pub posted : list_fits n p x.altcount x.altlist ≡ true
  pub signal : signal_fits x.count x.signal ≡ true
  pub place : PlaceFormed d x.count x.place

abbrev pub AllFormed : ℕ → ℕ → View → Type 0
AllFormed n d v = (p : ℕ) → Formed n d p (v p)

-- the open offers below n, and that each ticket given out is accounted for: its offer has met, is withdrawn or is open
abbrev pub open_in : View → ℕ → ℕ
open_in v n = count_below (λ p. is_open (v p)) n

abbrev pub Totalled : Head → View → Type 0
Totalled h v = 2 * h.meetings + h.withdrawn + open_in v h.n ≡ h.next.0

-- a table from which every list of calls goes well
pub record Good (t : ProcessTable) : Type 0 where
  pub long : length t.processes ≡ most_processes
  pub least : 2 ≤ t.head.n
  pub most : t.head.n ≤ most_processes
  pub naps : 1 ≤ t.head.nap
  pub inv : Inv t.head (process t)
  pub formed : AllFormed t.head.n t.head.nap (process t)
  pub totals : Totalled t.head (process t)
