-- To be believed. A call of one process in two parts, for code that keeps a table in its place: the call's act, from what it reads of the table, and how that is carried out.
-- It reads what the form test has found of the records, the head h, the record x of process p, and for a step the record y of the partner q.
use Rattle.std.specs.Prelude.{◌+◌, ◌≡◌, Result, Ok, Err, ⊤, Option, Some, None, is_some}
use Rattle.process.specs.declared.{Told.Told, Change.Change}
use Rattle.process.specs.Process.{own_guard}
use Rattle.process.specs.Rules.{changed, at_place, rule, partner_of}
use Rattle.process.specs.InCode.{change_of, outcome_of}
use Rattle.rendezvous.specs.declared.Act.{Act}
use Rattle.rendezvous.specs.Types.{ℕ, Bool, true, false, cond, List, set, GuardList, Place, Process, Head, ProcessTable, Refusal, Answer}
use Rattle.rendezvous.specs.Types.{Reply}
use Rattle.rendezvous.specs.Table.{process, with_next, with_withdrawal}
use Rattle.rendezvous.specs.WellFormed.{well_formed}
use Rattle.rendezvous.specs.Forms.{Form, form_end}
use Rattle.rendezvous.specs.Refusals.{process_tests, offer_tests, withdraw_tests}
use Rattle.rendezvous.specs.Calls.{entering, offer_list, head_after, step, collect, commit_came_first, given_up, withdraw}
use Rattle.alternative.specs.declared.Message.{Message}

-- an act that tells the partner nothing
abbrev pub alone : Result Answer Refusal → Head → Process → Act
alone answer h own = record { answer = answer; head = h; own = own; told = None }

-- A refusal "returns its number and the desk received": the head and the record stay as they were read.
abbrev pub unless_refused : Result ⊤ Refusal → Head → Process → Act → Act
unless_refused (Ok tt) h x act = act
unless_refused (Err refusal) h x act = alone (Err refusal) h x

-- Offer. "The list is copied, the next ticket is given, the place becomes E."
unfoldable pub offer_act : Form → Head → ℕ → Process → GuardList → Act
offer_act form h p x list =
    unless_refused (offer_tests (form_end form h) h p list x.place) h x (alone (Ok (Answer.Offered h.next)) (with_next h (h.next.0 + 1)) (entering x h.next list))

-- Step. It "moves one party by one rule and says the new place, or says that nothing changed."; CR 6: a commit counts
abbrev pub moved_act : Head → Process → Option Change → Act
moved_act h x None = alone (Ok Answer.Unchanged) h x
moved_act h x (Some c) = record { answer = Ok (Answer.Moved c.own.place); head = cond (is_some c.told) (head_after h c.own.place) h; own = c.own; told = c.told }

unfoldable pub step_act : Form → Head → ℕ → Process → ℕ → Process → Act
step_act form h p x q y = unless_refused (process_tests (form_end form h) h.n p (Ok tt)) h x (moved_act h x (change_of (rule h.nap p x q y)))

-- Collect. It "takes a party at M, gives its outcome's guard index, the partner that this guard of its list names, and the outcome's message .., removes the outcome
-- and sets I."; 13: "a collection from a party that is not at M"
abbrev pub collected_act : Head → Process → Option (ℕ × Message) → Act
collected_act h x (Some (i, m)) = alone (Ok (Answer.Collected i (own_guard x i).partner m)) h (at_place x Place.Idle)
collected_act h x None = alone (Err Refusal.NotMet) h x

unfoldable pub collect_act : Form → Head → ℕ → Process → Act
collect_act form h p x = unless_refused (process_tests (form_end form h) h.n p (Ok tt)) h x (collected_act h x (outcome_of x.place))

-- Withdraw. "At C, or at H or W with wake count 1, a commit came first: the answer is "too late" and nothing changes. Elsewhere the wake count becomes 1, the party goes to I, and the
-- answer is "withdrawn"."; CR 6: this one counts
abbrev pub withdrawn_or_late_act : Head → Process → Bool → Act
withdrawn_or_late_act h x true = alone (Ok Answer.TooLate) h x
withdrawn_or_late_act h x false = alone (Ok Answer.Withdrawn) (with_withdrawal h) (given_up x)

unfoldable pub withdraw_act : Form → Head → ℕ → Process → Act
withdraw_act form h p x = unless_refused (withdraw_tests (form_end form h) h.n p x.place) h x (withdrawn_or_late_act h x (commit_came_first x.place x.accepting))

-- the records after the partner q is told something, or nothing
abbrev pub told_to : ProcessTable → ℕ → Option Told → List Process
told_to t q (Some told) = set t.processes q (changed (process t q) (process t q).place told.signal told.accepting)
told_to t q None = t.processes

-- How an act of p is carried out: the table with the act's head, with what the partner q is told, if anything, and with the own record.
unfoldable pub done : ProcessTable → ℕ → ℕ → Act → Reply
done t p q act = record {
  answer = act.answer;
  table = record {
    head = act.head;
    processes = set (told_to t q act.told) p act.own;
  };
}

-- a form that tells at its end whether the table is well-formed
abbrev pub FormOf : ProcessTable → Form → Type 0
FormOf t form = form_end form t.head ≡ well_formed t

-- Carried out on the table that was read, the act is the call. An offer, a collection and a withdrawal tell no partner: q may be any.
pub record ActsAreCalls (t : ProcessTable) (form : Form) : Type 0 where
  pub offers : (p q : ℕ) (list : GuardList) → done t p q (offer_act form t.head p (process t p) list) ≡ offer_list t p list
  pub steps : (p : ℕ) → let x = process t p in let q = partner_of x in done t p q (step_act form t.head p x q (process t q)) ≡ step t p
  pub collects : (p q : ℕ) → done t p q (collect_act form t.head p (process t p)) ≡ collect t p
  pub withdraws : (p q : ℕ) → done t p q (withdraw_act form t.head p (process t p)) ≡ withdraw t p

abbrev pub AllActsAreCalls : Type 0
AllActsAreCalls = (t : ProcessTable) (form : Form) → FormOf t form → ActsAreCalls t form
