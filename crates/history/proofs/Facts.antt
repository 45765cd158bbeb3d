-- What the invariant says of a process at its place, of the guard that it is at, and of the process that it has committed to.
use Rattle.std.specs.Prelude.{Some, None}
use Prim.Native.Nat.{ℕ}
use mathlib.Core.Path.{◌≡◌, refl, sym, ◌∙◌, subst}
use mathlib.Core.Bool.{true, false≢true}
use Rattle.alternative.specs.Guards.{guards_match}
use Rattle.process.specs.declared.Place.{Place}
use Rattle.process.specs.declared.Process.{Process}
use Rattle.process.specs.Process.{index_of, own_list, posted_list, own_guard, open_at, is_open}
use Rattle.rendezvous.specs.declared.Head.{Head}
use Rattle.history.proofs.View.{View}
use Rattle.history.proofs.Invariant.{Commits, Shows, On, OnAt, Shown, Fine, Bound, Inv}
use Rattle.history.proofs.Matches.{NamesOther, fits-names}
use Rattle.history.proofs.Places.{shows-elim, commits-elim, accepting-shows, open-silent}

module _ {head : Head} (v : View) (inv : Inv head v) (p : ℕ) where
  pub fine : (pl : Place) → (v p).place ≡ pl → Fine pl (own_list (v p)) (posted_list (v p)) (v p).accepting (v p).signal
  fine pl e = rw e at (inv.alone p).fine

  -- the guard that a process is at is enabled, and names another process
  pub at_on : (i : ℕ) → index_of (v p).place ≡ Some i → On (own_list (v p)) i
  at_on i e = subst (OnAt (own_list (v p))) e (inv.alone p).on

  pub at_names : (i : ℕ) → index_of (v p).place ≡ Some i → NamesOther head.n p (own_guard (v p) i)
  at_names i e = fits-names head.n p (v p).count (v p).guards (inv.alone p).own i (at_on i e)

  -- what a process shows, and that one which is still accepting does
  pub shown : Shows (v p).place → Shown (own_list (v p)) (posted_list (v p)) (v p).accepting (v p).signal
  shown s = shows-elim
      (λ at. Fine at (own_list (v p)) (posted_list (v p)) (v p).accepting (v p).signal → Shown (own_list (v p)) (posted_list (v p)) (v p).accepting (v p).signal)
      (λ f. f) (λ f. f) (v p).place s (inv.alone p).fine

  pub accepts : (v p).accepting ≡ true → Shows (v p).place
  accepts = accepting-shows (v p).place _ _ _ _ (inv.alone p).fine

  -- an open offer has no signal
  pub silent : is_open (v p) ≡ true → (v p).signal ≡ None
  silent = open-silent (v p).place _ _ _ _ (inv.alone p).fine

  -- a process committed to is bound, on guards that match
  pub commit-binds : (i j : ℕ) → (v p).place ≡ Place.Committed i j → let q = (own_guard (v p) i).partner in Bound (v q) × (guards_match p (own_guard (v p) i) q (own_guard (v q) j) ≡ true)
  commit-binds i j e = (inv.paired p _ (at_names i (rw e refl)).other).bound i j (rw e (refl, refl)) refl

-- so no process has committed to one that does not show its list
pub unbound : {head : Head} (v : View) (inv : Inv head v) (p : ℕ) (pl : Place) → (v p).place ≡ pl → (Shows pl → ⊥) → (r i j : ℕ) → (v r).place ≡ Place.Committed i j → (own_guard (v r) i).partner ≡ p → ⊥
unbound v inv p pl e hides r i j c z = hides (rw (z, e) at (commit-binds v inv r i j c).0.shows)

-- one with an open offer is neither bound nor committed
pub open-unbound : (x : Process) → is_open x ≡ true → Bound x → ⊥
open-unbound x o b = false≢true (sym b.woken ∙ shows-elim (λ at. open_at at x.accepting ≡ true → x.accepting ≡ true) (λ a. a) (λ a. a) x.place b.shows o)

pub open-uncommitted : (x : Process) → is_open x ≡ true → (i j : ℕ) → Commits x.place i j → ⊥
open-uncommitted x o i j c = commits-elim (λ at. open_at at x.accepting ≡ true → ⊥) (λ k l. false≢true) x.place i j c o
