-- A move of one process that keeps what holds of each process and of each two: what its new record has to give.
use Rattle.std.specs.Prelude.{Option}
use Prim.Native.Nat.{ℕ}
use mathlib.Core.Path.{◌≡◌, refl, sym, ◌∙◌}
use mathlib.Core.Bool.{Bool, true, false}
use mathlib.Core.Logic.{◌⊎◌, inl, inr}
use Rattle.alternative.specs.Guards.{guards_match}
use Rattle.process.specs.declared.Place.{Place}
use Rattle.process.specs.declared.Process.{Process}
use Rattle.process.specs.Process.{index_of, own_list, posted_list, own_guard, is_idle}
use Rattle.process.specs.Rules.{changed}
use Rattle.process.specs.Fits.{list_fits}
use Rattle.rendezvous.specs.declared.Head.{Head}
use Rattle.history.proofs.View.{View, upd, entered-each, upd-pair}
use Rattle.history.proofs.Invariant.{Past, Tries, Commits, Waits, Shows, OnAt, Fine, Alone, Bound, Paired, Inv}
use Rattle.history.proofs.Matches.{match-comm}
use Rattle.history.proofs.Places.{waits-elim}
use Rattle.alternative.specs.declared.Message.{Message}

-- another process has committed to p
pub record Held (v : View) (p : ℕ) : Type 0 where
  pub by : ℕ
  pub at : ℕ
  pub kept : ℕ
  pub other : by ≡ p → ⊥
  pub there : Commits (v by).place at kept
  pub names : (own_guard (v by) at).partner ≡ p

-- the process is past guard l, or tries it
pub data Near (x : Process) (l : ℕ) : Type 0 where
  past : Past x.place x.accepting l → Near x l
  trying : Tries x.place l → Near x l

-- what a new commit of p with guard i and kept index j needs
pub record Committing (v : View) (p i j : ℕ) : Type 0 where
  pub to : (r : ℕ) → (r ≡ p → ⊥) → (own_guard (v p) i).partner ≡ r → Bound (v r) × (guards_match p (own_guard (v p) i) r (own_guard (v r) j) ≡ true)
  pub only : (r k l : ℕ) → (r ≡ p → ⊥) → Commits (v r).place k l → (own_guard (v p) i).partner ≡ (own_guard (v r) k).partner → ⊥

-- The new record x of p, which was at pl: it passes no guard that a near one of another process matches, tries one only of a process that waits, leaves W only by giving up
-- its past guards, commits rightly, stays bound to a process that has committed to it, and leaves I only by an offer.
pub record Tame (v : View) (p : ℕ) (pl : Place) (x : Process) : Type 0 where
  pub passes : (k r l : ℕ) → (r ≡ p → ⊥) → guards_match p (own_guard (v p) k) r (own_guard (v r) l) ≡ true → Near (v r) l → Past x.place x.accepting k → Past pl (v p).accepting k
  pub tries : (k r l : ℕ) → (r ≡ p → ⊥) → guards_match p (own_guard (v p) k) r (own_guard (v r) l) ≡ true → Tries x.place k → Tries pl k ⊎ Waits (v r).place
  pub waits : (k : ℕ) → Past x.place x.accepting k → Waits pl → Waits x.place
  pub commits : (i j : ℕ) → Commits x.place i j → Commits pl i j ⊎ Committing v p i j
  pub bound : Held v p → Bound x
  pub busy : is_idle x.place ≡ false → is_idle pl ≡ false

pub put_inv : {head : Head} (v : View) (p : ℕ) (x : Process) → Inv head v → Alone head p x
    → ((r : ℕ) → (r ≡ p → ⊥) → Paired p r x (v r)) → ((r : ℕ) → (r ≡ p → ⊥) → Paired r p (v r) x) → Inv head (upd v p x)
put_inv {head} v p x inv s a b = record { alone = entered-each (Alone head) v p x s (λ q _. inv.alone q); paired = upd-pair Paired v p x inv.paired a b }

-- the totals do not matter to it
pub recounted : {h : Head} {v : View} → Inv h v → (meetings withdrawn : ℕ) → Inv (record { n = h.n; nap = h.nap; next = h.next; meetings = meetings; withdrawn = withdrawn }) v
recounted inv meetings withdrawn = record {
  alone = λ p. let a = inv.alone p in record { fine = a.fine; own = a.own; on = a.on; there = a.there; given = a.given };
  paired = inv.paired;
}

module _ {head : Head} (v : View) (inv : Inv head v) (p : ℕ) where
  pub held : Held v p → Bound (v p)
  held h = ((inv.paired h.by p h.other).bound h.at h.kept h.there h.names).0

  module _ (pl : Place) (e : (v p).place ≡ pl) where
    -- no process has committed to one that is not at H or W
    pub free : (x : Process) → (Shows pl → ⊥) → Held v p → Bound x
    free x hides h = absurd (hides (rw e at (held h).shows))

    -- the new record and another process, in either order
    module _ (x : Process) (same : own_list x ≡ own_list (v p)) (id : x.transaction ≡ (v p).transaction) (t : Tame v p pl x) where
      tame-out : (r : ℕ) → (r ≡ p → ⊥) → Paired p r x (v r)
      tame-out r ne =
          record {
            past = λ k l f g h. o.past k l (rw same at f) (rw e (t.passes k r l ne (rw same at f) (past h) g)) h;
            tries = λ k l f g h. tries k l (rw same at f) h (t.tries k r l ne (rw same at f) g);
            never = λ k l f g h. never k l (rw same at f) h (t.tries k r l ne (rw same at f) g);
            bound = λ i j c m. rw same (bound i j (rw same at m) (t.commits i j c));
            single = λ i j k l c d m. single i j k l d (rw same at m) (t.commits i j c);
            differ = λ b c z. o.differ (rw e (t.busy b)) c (rw id at z);
          }
        where
          o : Paired p r (v p) (v r)
          o = inv.paired p r (λ f. ne (sym f))

          tries : (k l : ℕ) → guards_match p (own_guard (v p) k) r (own_guard (v r) l) ≡ true → Past (v r).place (v r).accepting l → Tries pl k ⊎ Waits (v r).place → Waits (v r).place
          tries k l f h (inl a) = o.tries k l f (rw e a) h
          tries k l f h (inr b) = b

          never : (k l : ℕ) → guards_match p (own_guard (v p) k) r (own_guard (v r) l) ≡ true → Tries (v r).place l → Tries pl k ⊎ Waits (v r).place → ⊥
          never k l f h (inl a) = o.never k l f (rw e a) h
          never k l f h (inr b) = waits-elim (λ at. Tries at l → ⊥) (λ a. a) (v r).place b h

          bound : (i j : ℕ) → (own_guard (v p) i).partner ≡ r → Commits pl i j ⊎ Committing v p i j → Bound (v r) × (guards_match p (own_guard (v p) i) r (own_guard (v r) j) ≡ true)
          bound i j m (inl c) = o.bound i j (rw e c) m
          bound i j m (inr c) = c.to r ne m

          single : (i j k l : ℕ) → Commits (v r).place k l → (own_guard (v p) i).partner ≡ (own_guard (v r) k).partner → Commits pl i j ⊎ Committing v p i j → ⊥
          single i j k l d m (inl c) = o.single i j k l (rw e c) d m
          single i j k l d m (inr c) = c.only r k l ne d m

      tame-in : (r : ℕ) → (r ≡ p → ⊥) → Paired r p (v r) x
      tame-in r ne =
          let o = inv.paired r p ne in
          let w = tame-out r ne in
          record {
            past = λ k l f g h. w.past l k (match-comm _ _ _ _ ∙ f) h g;
            tries = λ k l f g h. t.waits l h (rw e at (o.tries k l (rw same at f) g (rw e (t.passes l r k ne (rw same at (match-comm _ _ _ _ ∙ f)) (trying g) h))));
            never = λ k l f g h. w.never l k (match-comm _ _ _ _ ∙ f) h g;
            bound = λ i j c m. (t.bound (record { by = r; at = i; kept = j; other = ne; there = c; names = m }), rw same (o.bound i j c m).1);
            single = λ i j k l c d m. w.single k l i j d c (sym m);
            differ = λ b c z. w.differ c b (sym z);
          }

      pub tame : Fine x.place (own_list x) (posted_list x) x.accepting x.signal → list_fits head.n p x.count x.guards ≡ true → OnAt (own_list x) (index_of x.place) → Inv head (upd v p x)
      tame f own on = put_inv v p x inv (record {
        fine = f;
        own = own;
        on = on;
        there = λ b. (inv.alone p).there (rw e (t.busy b));
        given = λ b. rw id ((inv.alone p).given (rw e (t.busy b)));
      }) tame-out tame-in

    -- a move that leaves the lists alone
    pub moves : (place : Place) (signal : Option (ℕ × Message)) (accepting : Bool) → let x = changed (v p) place signal accepting in
        Fine place (own_list (v p)) (posted_list (v p)) accepting signal → OnAt (own_list (v p)) (index_of place) → Tame v p pl x → Inv head (upd v p x)
    moves place signal accepting f on t = tame _ refl refl t f (inv.alone p).own on
