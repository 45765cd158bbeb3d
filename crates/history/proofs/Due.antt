-- How a book goes with a table: the same next ticket and open offers, and each outcome of a rendezvous due from its commit to its collection.
use Rattle.std.specs.Prelude.{Option, Some, None}
use Prim.Native.Nat.{ℕ}
use mathlib.Core.Path.{◌≡◌, refl, sym, ◌∙◌, subst, fun_ext}
use mathlib.Core.Bool.{Bool, true, false, cond, true≢false}
use mathlib.Core.List.{List}
use lib.ListN.{get_or}
use Rattle.alternative.specs.declared.Guard.{Guard}
use Rattle.alternative.specs.Guards.{blank}
use Rattle.alternative.specs.Exchange.{sent_by, received_by}
use Rattle.process.specs.declared.Place.{Place}
use Rattle.process.specs.declared.Process.{Process}
use Rattle.rendezvous.specs.declared.ProcessTable.{ProcessTable}
use Rattle.process.specs.Process.{carried, own_list, own_guard, open_at, is_open}
use Rattle.rendezvous.specs.Table.{process}
use Rattle.process.proofs.PlaceCases.{both-carried}
use Rattle.history.specs.Book.{Transaction, Due, History}
use Rattle.history.specs.Tables.{offer_by}
use Rattle.history.specs.NothingLost.{is_owed, is_due}
use Rattle.history.proofs.View.{View, upd, entered-each}
use Rattle.history.proofs.Once.{Once}
use Rattle.history.proofs.Awaited.{Awaited}
use Rattle.alternative.specs.declared.Message.{Message}

-- the open offer of a process with record x
abbrev pub open_of : Process → Option Transaction
open_of x = cond (is_open x) (Some (offer_by x)) None

-- the lists that the processes offer
abbrev pub lists_of : View → ℕ → List Guard
lists_of v p = own_list (v p)

-- due by the commit of p with guard i, which is g, to guard j of the process that g names: rule 9 will say the same
pub record Pledged (lists : ℕ → List Guard) (due : ℕ → Option Due) (p i : ℕ) (g : Guard) (j : ℕ) : Type 0 where
  pub mine : due p ≡ Some (record { index = i; partner = g.partner; message = received_by g.action (get_or (lists g.partner) j blank).action })
  pub theirs : due g.partner ≡ Some (record { index = j; partner = p; message = sent_by g.action })

-- due by the place of p, whose own list is gs; at the other places nothing is asked
abbrev pub DueAt : (ℕ → List Guard) → (ℕ → Option Due) → ℕ → List Guard → Place → Type 0
DueAt lists due p gs place = carried (Unit {0}) (λ i. Unit {0}) (λ i j. Pledged lists due p i (get_or gs i blank) j) (λ s. Unit {0})
    (λ i m. due p ≡ Some (record { index = i; partner = (get_or gs i blank).partner; message = m })) place

-- due by a signal
abbrev pub DueBy : List Guard → Option (ℕ × Message) → Option Due → Type 0
DueBy gs None d = Unit {0}
DueBy gs (Some (j, m)) d = d ≡ Some (record { index = j; partner = (get_or gs j blank).partner; message = m })

-- a book and process p with record x, among lists of the processes
pub record Agrees (lists : ℕ → List Guard) (b : History) (p : ℕ) (x : Process) : Type 0 where
  pub offer : open_of x ≡ b.opened p
  pub owed : is_due (b.due p) ≡ is_owed x.place x.accepting
  pub at : DueAt lists b.due p (own_list x) x.place
  pub told : DueBy (own_list x) x.signal (b.due p)

pub record InStepOf (next : ℕ) (v : View) (b : History) : Type 0 where
  pub counts : b.next ≡ next
  pub each : (p : ℕ) → Agrees (lists_of v) b p (v p)
  pub once : Once b.next b.opened b.run
  -- a fact of the table alone, which goes with the book from call to call
  pub awaited : Awaited v

abbrev pub InStep : ProcessTable → History → Type 0
InStep t b = InStepOf t.head.next.0 (process t) b

-- nothing is due
pub none-due : (d : Option Due) → is_due d ≡ false → d ≡ None
none-due None e = refl
none-due (Some d) e = absurd (true≢false e)

-- nothing is due to one with an open offer
pub open-unowed : (pl : Place) (accepting : Bool) → open_at pl accepting ≡ true → is_owed pl accepting ≡ false
open-unowed Place.Idle a o = refl
open-unowed Place.Entering a o = refl
open-unowed (Place.Scanning i) a o = refl
open-unowed (Place.Trying i) a o = refl
open-unowed (Place.Committed i j) a o = absurd (true≢false (sym o))
open-unowed Place.Posting a o = refl
open-unowed Place.Opening a o = refl
open-unowed Place.Showing a o = rw o refl
open-unowed (Place.Asleep s) a o = refl
open-unowed Place.Waiting a o = rw o refl
open-unowed (Place.Met i m) a o = absurd (true≢false (sym o))

-- what the book has for a process at a place
module _ {lists : ℕ → List Guard} {b : History} {p : ℕ} {x : Process} (a : Agrees lists b p x) {place : Place} (e : x.place ≡ place) where
  pub offer-at : cond (open_at place x.accepting) (Some (offer_by x)) None ≡ b.opened p
  offer-at = subst (λ (l : Place). cond (open_at l x.accepting) (Some (offer_by x)) None ≡ b.opened p) e a.offer

  pub owed-at : is_due (b.due p) ≡ is_owed place x.accepting
  owed-at = subst (λ (l : Place). is_due (b.due p) ≡ is_owed l x.accepting) e a.owed

  pub due-at : DueAt lists b.due p (own_list x) place
  due-at = subst (λ (l : Place). DueAt lists b.due p (own_list x) l) e a.at

-- what a change at other processes leaves of what is due to p, if it leaves alone the process that p has committed to
module _ (lists lists' : ℕ → List Guard) (due due' : ℕ → Option Due) (p : ℕ) (same : due' p ≡ due p) where
  at_other : (gs : List Guard) (place : Place)
      → ((i j : ℕ) → place ≡ Place.Committed i j → (lists' (get_or gs i blank).partner ≡ lists (get_or gs i blank).partner) × (due' (get_or gs i blank).partner ≡ due (get_or gs i blank).partner))
      → DueAt lists due p gs place → DueAt lists' due' p gs place
  at_other gs place h = both-carried (λ (a b : Type 0). a → b) _ _ _ _ _ _ _ _ _ _ place (λ d. tt) (λ i e d. tt)
      (λ i j e d. let r = h i j e in record { mine = rw (same, r.0) d.mine; theirs = r.1 ∙ d.theirs }) (λ s e d. tt) (λ i m e d. same ∙ d)

pub agrees-other : (lists lists' : ℕ → List Guard) (b b' : History) (p : ℕ) (x : Process) → b'.opened p ≡ b.opened p → b'.due p ≡ b.due p
    → ((i j : ℕ) → x.place ≡ Place.Committed i j → (lists' (own_guard x i).partner ≡ lists (own_guard x i).partner) × (b'.due (own_guard x i).partner ≡ b.due (own_guard x i).partner))
    → Agrees lists b p x → Agrees lists' b' p x
agrees-other lists lists' b b' p x o d h a = record {
  offer = a.offer ∙ sym o;
  owed = rw d a.owed;
  at = at_other lists lists' b.due b'.due p d (own_list x) x.place h a.at;
  told = rw d a.told;
}

-- new records with the lists of the old
pub lists-same : (v : View) (p : ℕ) (x : Process) → own_list x ≡ own_list (v p) → lists_of (upd v p x) ≡ lists_of v
lists-same v p x e = fun_ext (entered-each (λ q y. own_list y ≡ own_list (v q)) v p x e (λ q _. refl))

-- two new records, with the lists of the old
upd-two : (F : ℕ → Process → Type 0) (v : View) (p q : ℕ) (x y : Process) → F p x → F q y → ((r : ℕ) → (r ≡ p → ⊥) → (r ≡ q → ⊥) → F r (v r)) → (r : ℕ) → F r (upd (upd v q y) p x r)
upd-two F v p q x y a c d = entered-each F (upd v q y) p x a (λ r rp. entered-each (λ r z. (r ≡ p → ⊥) → F r z) v q y (λ _. c) (λ r rq rp. d r rp rq) r rp)

pub each_two : (v : View) (b : History) (p q : ℕ) (x y : Process) → own_list x ≡ own_list (v p) → own_list y ≡ own_list (v q)
    → Agrees (lists_of v) b p x → Agrees (lists_of v) b q y → ((r : ℕ) → (r ≡ p → ⊥) → (r ≡ q → ⊥) → Agrees (lists_of v) b r (v r))
    → (r : ℕ) → Agrees (lists_of (upd (upd v q y) p x)) b r (upd (upd v q y) p x r)
each_two v b p q x y l m a c d = rw same (upd-two (Agrees (lists_of v) b) v p q x y a c d)
  where
    same : lists_of (upd (upd v q y) p x) ≡ lists_of v
    same = fun_ext (upd-two (λ r z. own_list z ≡ own_list (v r)) v p q x y l m (λ r _ _. refl))
