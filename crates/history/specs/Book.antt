-- To be believed. Document 01, "The plain book", and what CR 1 of document 02 says of it.
use Rattle.std.specs.Prelude.{◌∷◌, ◌++◌, Option, Some, None, slice_get}
use Rattle.alternative.specs.Guards.{kept_match}
use Rattle.alternative.specs.Exchange.{sent_by}
use Rattle.rendezvous.specs.Numbers.{Said, made, ticket, place, same, outcome, withdrawn, too_late, movers, refusal}
use Rattle.rendezvous.specs.Run.{Call, Offer, Step, Collect, Withdraw}
use Rattle.history.specs.Types.{ℕ, suc, code, Bool, true, false, cond, List, [], eqb, Message, Action, Guard}

-- "For each party it has an open offer (ticket and guard list) or none, and a due outcome (guard index, partner, message) or none. It also has a next ticket and the
-- meetings so far": a meeting has "both tickets, p, i, q, j and the sending guard's message".
pub record Transaction : Type 0 where
  pub id : ℕ
  pub guards : List Guard

pub record Due : Type 0 where
  pub index : ℕ
  pub partner : ℕ
  pub message : Message

pub record Rendezvous : Type 0 where
  pub id_p : ℕ
  pub id_q : ℕ
  pub p : ℕ
  pub i : ℕ
  pub q : ℕ
  pub j : ℕ
  pub message : Message

-- a withdrawal "takes a moment of its own in the run of whole meetings": the party, and the ticket of its offer
pub record Withdrawal : Type 0 where
  pub p : ℕ
  pub id : ℕ

-- the run of whole meetings: each moment of it is a meeting or a withdrawal
pub data Moment : Type 0 where
  Joined : Rendezvous → Moment
  Withdrew : Withdrawal → Moment

pub record History : Type 0 where
  pub next : ℕ
  pub opened : ℕ → Option Transaction
  pub due : ℕ → Option Due
  pub run : List Moment

-- "At first the next ticket is 0 and the rest is empty."
abbrev pub empty_history : History
empty_history = record { next = 0; opened = λ p. None; due = λ p. None; run = [] }

-- "It is fed each call's arguments other than the desk, whether the call was refused, and the place that a step answers; it sees nothing of the desk." And whether a withdrawal is "answered "withdrawn""
pub data Seen : Type 0 where
  refused : Seen
  accepted : Seen
  at : ℕ → Option ℕ → Seen
  taken_back : Seen

abbrev pub seen : Said → Seen
seen (refusal number) = refused
seen (place letter index) = at letter index
seen made = accepted
seen (ticket t) = accepted
seen same = accepted
seen (outcome i q m) = accepted
seen withdrawn = taken_back
seen too_late = accepted
seen (movers set) = accepted

-- "Where an entry lacks what it needs, the book is stuck": none.
abbrev pub ◌>>=◌ : {A B : Type 0} → Option A → (A → Option B) → Option B
◌>>=◌ None f = None
◌>>=◌ (Some a) f = f a

-- what the book has for each process, with another entry for p
abbrev pub entered_for : {A : Type 0} → ℕ → A → (ℕ → A) → ℕ → A
entered_for p a old = λ q. cond (eqb q p) a (old q)

-- "Accepted offer by p, who must have neither an open offer nor a due outcome: it becomes p's open offer under the next ticket, which then grows by 1."
abbrev offering : History → ℕ → List Guard → Option Transaction → Option Due → Option History
offering b p gs None None = Some (record { next = suc b.next; opened = entered_for p (Some (record { id = b.next; guards = gs })) b.opened; due = b.due; run = b.run })
offering b p gs None (Some d) = None
offering b p gs (Some o) d = None

-- "the sending guard's message": of the two guards' actions
abbrev pub senders_message : Action → Action → Message
senders_message (Action.Send m) other = m
senders_message Action.Receive other = sent_by other

-- "that message, or nothing for the message if guard i sends"
abbrev pub due_message : Action → Message → Message
due_message (Action.Send k) m = Message.Nothing
due_message Action.Receive m = m

-- "A meeting is entered: .. Both offers close. Due for p are i, q and that message ..; for q likewise j and p.": g is guard i of p's offer, h guard j of q's
unfoldable pub with_rendezvous : History → ℕ → ℕ → Transaction → Guard → ℕ → Transaction → Guard → History
with_rendezvous b p i mine g j theirs h =
    let q = g.partner in
    let m = senders_message g.action h.action in
    record {
      next = b.next;
      opened = entered_for p None (entered_for q None b.opened);
      due = entered_for p (Some (record { index = i; partner = q; message = due_message g.action m }))
          (entered_for q (Some (record { index = j; partner = p; message = due_message h.action m })) b.due);
      run = b.run ++ (Joined (record { id_p = mine.id; id_q = theirs.id; p = p; i = i; q = q; j = j; message = m }) ∷ []);
    }

-- "guard i of p's open offer names q, and j is the index that rule 7's search keeps, with q's open list as the posted one"
unfoldable pub committing : History → ℕ → ℕ → Option History
committing b p i = do
  mine ← b.opened p
  g ← slice_get mine.guards i
  theirs ← b.opened g.partner
  j ← kept_match p g g.partner theirs.guards
  h ← slice_get theirs.guards j
  Some (with_rendezvous b p i mine g j theirs h)

-- "Step of p answered C with index i, the commit"; "Any other step ..: nothing changes.": whether the letter is C, and the index
abbrev pub stepping : History → ℕ → Bool → Option ℕ → Option History
stepping b p true (Some i) = committing b p i
stepping b p true None = None
stepping b p false index = Some b

-- "Accepted collection from p: p's due outcome is given and removed."
abbrev collecting : History → ℕ → Option Due → Option History
collecting b p None = None
collecting b p (Some d) = Some (record { next = b.next; opened = b.opened; due = entered_for p None b.due; run = b.run })

-- A withdrawal of p "answered "withdrawn" closes the party's open offer in the book and takes a moment of its own in the run".
abbrev withdrawing : History → ℕ → Option Transaction → Option History
withdrawing b p None = None
withdrawing b p (Some o) = Some (record { next = b.next; opened = entered_for p None b.opened; due = b.due; run = b.run ++ (Withdrew (record { p = p; id = o.id }) ∷ []) })

-- the book after a call; "every refused call: nothing changes"; of withdrawals, "any other leaves the book as it was". An answer that no such call gives leaves the book stuck.
unfoldable pub enter : History → Call → Seen → Option History
enter b c refused = Some b
enter b (Offer p gs) accepted = offering b p gs (b.opened p) (b.due p)
enter b (Offer p gs) (at letter index) = None
enter b (Offer p gs) taken_back = None
enter b (Step p) accepted = Some b
enter b (Step p) (at letter index) = stepping b p (eqb letter (code "C")) index
enter b (Step p) taken_back = None
enter b (Collect p) accepted = collecting b p (b.due p)
enter b (Collect p) (at letter index) = None
enter b (Collect p) taken_back = None
enter b (Withdraw p) accepted = Some b
enter b (Withdraw p) (at letter index) = None
enter b (Withdraw p) taken_back = withdrawing b p (b.opened p)
