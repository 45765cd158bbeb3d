-- To be believed. Document 01, "Calls", and CRs 1, 3 and 6 of document 02: what each call answers, and the table that it hands back.
use Rattle.std.specs.Prelude.{◌+◌, ◌≡◌, ◌&&◌, ◌||◌, Result, Ok, Err, ⊤}
use Rattle.alternative.specs.Guards.{slots, lent}
use Rattle.process.specs.Process.{is_at, if_met, own_guard}
use Rattle.process.specs.Rules.{Effect, Neither, Own, Both, changed, at_place, rule, partner_of}
use Rattle.rendezvous.specs.Types.{ℕ, Bool, true, false, not, cond, List, take, Guard, GuardList, TransactionId, Place, Process, Head, ProcessTable, Refusal, Answer, Reply}
use Rattle.rendezvous.specs.Table.{process, put, with_head, with_next, with_meeting, with_withdrawal, fresh_table}
use Rattle.rendezvous.specs.Refusals.{create_verdict, process_verdict, offer_verdict, withdraw_verdict}

-- A refusal "returns its number and the desk received, bit for bit."
abbrev pub refused : Refusal → ProcessTable → Reply
refused refusal t = record { answer = Err refusal; table = t }

abbrev pub if_accepted : Result ⊤ Refusal → ProcessTable → Reply → Reply
if_accepted (Ok tt) t reply = reply
if_accepted (Err refusal) t reply = refused refusal t

-- New; CR 3: "A desk is now made with a nap length d". Where it is refused, "No desk is made.": beside the refusal stands the table of no process, on which every call is refused by 7.
unfoldable pub create : ℕ → ℕ → Reply
create n d = if_accepted (create_verdict n d) (fresh_table 0 0) (record { answer = Ok Answer.Made; table = fresh_table n d })

-- Offer, of a list given by value. "The list is copied, the next ticket is given, the place becomes E."
unfoldable pub entering : Process → TransactionId → GuardList → Process
entering x ticket list = let guards = slots (take list.count list.guards) in record { place = Place.Entering; signal = x.signal; transaction = ticket; accepting = x.accepting; count = list.count; altcount = x.altcount; guards = guards; altlist = x.altlist }

unfoldable pub offered : ProcessTable → ℕ → GuardList → Reply
offered t p list =
    let ticket = t.head.next in
    record { answer = Ok (Answer.Offered ticket); table = with_head (put t p (entering (process t p) ticket list)) (with_next t.head (ticket.0 + 1)) }

unfoldable pub offer_list : ProcessTable → ℕ → GuardList → Reply
offer_list t p list = if_accepted (offer_verdict t p list) t (offered t p list)

-- It "lends a guard list as the task holds it in its own memory", of any length.
abbrev pub offer : ProcessTable → ℕ → List Guard → Reply
offer t p gs = offer_list t p (lent gs)

-- Step. It "moves one party by one rule and says the new place, or says that nothing changed."
unfoldable pub effect_on : ProcessTable → ℕ → Effect
effect_on t p = let x = process t p in rule t.head.nap p x (partner_of x) (process t (partner_of x))

-- CR 6, meetings are the history's "commits": of the two rules that change both records, 7 is the commit, and leads to C
abbrev pub head_after : Head → Place → Head
head_after h place = cond (is_at "C" place) (with_meeting h) h

abbrev pub applied : ProcessTable → ℕ → ℕ → Effect → Reply
applied t p q Neither = record { answer = Ok Answer.Unchanged; table = t }
applied t p q (Own x) = record { answer = Ok (Answer.Moved x.place); table = put t p x }
applied t p q (Both x y) = record { answer = Ok (Answer.Moved x.place); table = with_head (put (put t q y) p x) (head_after t.head x.place) }

unfoldable pub stepped : ProcessTable → ℕ → Reply
stepped t p = applied t p (partner_of (process t p)) (effect_on t p)

unfoldable pub step : ProcessTable → ℕ → Reply
step t p = if_accepted (process_verdict t p) t (stepped t p)

-- Collect. It "takes a party at M, gives its outcome's guard index, the partner that this guard of its list names, and the outcome's message .., removes the outcome and sets I."; 13: "a collection from a party that is not at M"
abbrev pub collected : ProcessTable → ℕ → Process → Place → Reply
collected t p x place = if_met (refused Refusal.NotMet t)
    (λ i m. record { answer = Ok (Answer.Collected i (own_guard x i).partner m); table = put t p (at_place x Place.Idle) }) place

unfoldable pub collect : ProcessTable → ℕ → Reply
collect t p = let x = process t p in if_accepted (process_verdict t p) t (collected t p x x.place)

-- Withdraw, CR 1. "At C, or at H or W with wake count 1, a commit came first: the answer is "too late" and nothing changes." ..
abbrev pub commit_came_first : Place → Bool → Bool
commit_came_first place accepting = is_at "C" place || (is_at "HW" place && not accepting)

-- .. "Elsewhere the wake count becomes 1, the party goes to I, and the answer is "withdrawn".": at wake count 1 a process is not accepting
abbrev pub given_up : Process → Process
given_up x = changed x Place.Idle x.signal false

-- CR 6: one that is answered "withdrawn" counts
abbrev pub withdrawn_or_late : ProcessTable → ℕ → Process → Bool → Reply
withdrawn_or_late t p x true = record { answer = Ok Answer.TooLate; table = t }
withdrawn_or_late t p x false = record { answer = Ok Answer.Withdrawn; table = with_head (put t p (given_up x)) (with_withdrawal t.head) }

unfoldable pub withdraw : ProcessTable → ℕ → Reply
withdraw t p = let x = process t p in if_accepted (withdraw_verdict t p) t (withdrawn_or_late t p x (commit_came_first x.place x.accepting))

-- "no task's step would change the desk"
abbrev pub Quiescent : ProcessTable → Type 0
Quiescent t = (p : ℕ) → (step t p).table ≡ t
