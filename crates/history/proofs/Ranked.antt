-- The guard that a rendezvous keeps has the greatest rank of those that match: the book enters no other.
use Rattle.std.specs.Prelude.{Option, Some, None, slice_get}
use Prim.Native.Nat.{ℕ}
use Prim.Native.Char.{code}
use mathlib.Core.Path.{◌≡◌, refl, sym, ◌∙◌, ap, subst}
use mathlib.Core.Bool.{Bool, true, false, false≢true}
use mathlib.Core.List.{List, [], ◌∷◌, ◌++◌}
use lib.Dec.{eqb}
use Rattle.alternative.specs.declared.Guard.{Guard}
use Rattle.alternative.specs.Guards.{kept_match}
use Rattle.alternative.proofs.Decided.{ranks-decide}
use Rattle.rendezvous.specs.Run.{Call, Offer, Step, Collect, Withdraw}
use Rattle.history.specs.Book.{Transaction, Due, Rendezvous, Moment, Joined, History, Seen, refused, accepted, at, taken_back, with_rendezvous, committing, stepping, enter}
use Rattle.history.specs.Machine.{Machine, EachCall}
use Rattle.history.specs.GreatestRankKept.{JoinsGreatest, EntryOfGreatestRank, GreatestRankKept}

-- a list is no longer than itself, and what follows the same list is the same
no_longer : (ms : List Moment) (m : Moment) → ms ≡ ms ++ (m ∷ []) → ⊥
no_longer [] m e = false≢true cc
no_longer (n ∷ ms) m e = no_longer ms m cc

last-same : (ms : List Moment) (m n : Moment) → ms ++ (m ∷ []) ≡ ms ++ (n ∷ []) → m ≡ n
last-same [] m n e = cc
last-same (k ∷ ms) m n e = last-same ms m n cc

some_same : (x y : History) → Some x ≡ Some y → x ≡ y
some_same x y e = cc

joined_same : (r s : Rendezvous) → Joined r ≡ Joined s → r ≡ s
joined_same r s e = cc

-- the book after an entry, whose run grows by one rendezvous
module _ (b : History) (after : History) (r : Rendezvous) (grows : after.run ≡ b.run ++ (Joined r ∷ [])) where
  -- an entry that lacks what it needs, that leaves the run, or that is a withdrawal, is none
  stuck : None ≡ Some after → JoinsGreatest b r
  stuck e = absurd (false≢true cc)

  stays : (x : History) → x.run ≡ b.run → Some x ≡ Some after → JoinsGreatest b r
  stays x same e = let is = some_same x after e in absurd (no_longer b.run (Joined r) (sym same ∙ (rw (← is) at grows)))

  withdraws : (x : History) (m : Moment) → x.run ≡ b.run ++ (m ∷ []) → (m ≡ Joined r → ⊥) → Some x ≡ Some after → JoinsGreatest b r
  withdraws x m same other e = let is = some_same x after e in absurd (other (last-same b.run m (Joined r) (sym same ∙ (rw (← is) at grows))))

  -- the entry of a commit keeps what the search finds
  module _ (p i : ℕ) (e : committing b p i ≡ Some after) where
    found : (mine : Transaction) (g : Guard) (theirs : Transaction) (j : ℕ) → b.opened p ≡ Some mine → slice_get mine.guards i ≡ Some g → b.opened g.partner ≡ Some theirs
        → kept_match p g g.partner theirs.guards ≡ Some j → (o : Option Guard) → slice_get theirs.guards j ≡ o → JoinsGreatest b r
    unfolding committing with_rendezvous
    found mine g theirs j own mine_at other f None there = stuck (rw (own, mine_at, other, f, there) at e)
    found mine g theirs j own mine_at other f (Some h) there =
        let entry : with_rendezvous b p i mine g j theirs h ≡ after = some_same _ _ (rw (own, mine_at, other, f, there) at e) in
        subst (JoinsGreatest b) (joined_same _ r (last-same b.run _ (Joined r) (ap (λ (x : History). x.run) entry ∙ grows)))
        (record { mine = mine; theirs = theirs; g = g; mine_open = own; theirs_open = other; mine_guard = mine_at; kept = ranks-decide.kept p g g.partner theirs.guards j f })

    searched : (mine : Transaction) (g : Guard) (theirs : Transaction) → b.opened p ≡ Some mine → slice_get mine.guards i ≡ Some g → b.opened g.partner ≡ Some theirs
        → (f : Option ℕ) → kept_match p g g.partner theirs.guards ≡ f → JoinsGreatest b r
    unfolding committing
    searched mine g theirs own mine_at other None f = stuck (rw (own, mine_at, other, f) at e)
    searched mine g theirs own mine_at other (Some j) f = found mine g theirs j own mine_at other f _ refl

    partner : (mine : Transaction) (g : Guard) → b.opened p ≡ Some mine → slice_get mine.guards i ≡ Some g → (o : Option Transaction) → b.opened g.partner ≡ o → JoinsGreatest b r
    unfolding committing
    partner mine g own mine_at None other = stuck (rw (own, mine_at, other) at e)
    partner mine g own mine_at (Some theirs) other = searched mine g theirs own mine_at other _ refl

    guard : (mine : Transaction) → b.opened p ≡ Some mine → (o : Option Guard) → slice_get mine.guards i ≡ o → JoinsGreatest b r
    unfolding committing
    guard mine own None mine_at = stuck (rw (own, mine_at) at e)
    guard mine own (Some g) mine_at = partner mine g own mine_at _ refl

    offer : (o : Option Transaction) → b.opened p ≡ o → JoinsGreatest b r
    unfolding committing
    offer None own = stuck (rw own at e)
    offer (Some mine) own = guard mine own _ refl

  stepped : (p : ℕ) (commits : Bool) (index : Option ℕ) → stepping b p commits index ≡ Some after → JoinsGreatest b r
  stepped p true (Some i) e = offer p i e _ refl
  stepped p true None e = stuck e
  stepped p false index e = stays b refl e

  offered : (p : ℕ) (gs : List Guard) (o : Option Transaction) (d : Option Due) → b.opened p ≡ o → b.due p ≡ d → enter b (Offer p gs) accepted ≡ Some after → JoinsGreatest b r
  unfolding enter
  offered p gs None None f g e = stays _ refl (rw (f, g) at e)
  offered p gs None (Some d) f g e = stuck (rw (f, g) at e)
  offered p gs (Some o) d f g e = stuck (rw f at e)

  collected : (p : ℕ) (d : Option Due) → b.due p ≡ d → enter b (Collect p) accepted ≡ Some after → JoinsGreatest b r
  unfolding enter
  collected p None f e = stuck (rw f at e)
  collected p (Some d) f e = stays _ refl (rw f at e)

  withdrawn : (p : ℕ) (o : Option Transaction) → b.opened p ≡ o → enter b (Withdraw p) taken_back ≡ Some after → JoinsGreatest b r
  unfolding enter
  withdrawn p None f e = stuck (rw f at e)
  withdrawn p (Some o) f e = withdraws _ _ refl (λ z. false≢true cc) (rw f at e)

  entered : (c : Call) (s : Seen) → enter b c s ≡ Some after → JoinsGreatest b r
  unfolding enter
  entered c refused e = stays b refl e
  entered (Offer p gs) accepted e = offered p gs _ _ refl refl e
  entered (Offer p gs) (at letter index) e = stuck e
  entered (Offer p gs) taken_back e = stuck e
  entered (Step p) accepted e = stays b refl e
  entered (Step p) (at letter index) e = stepped p (eqb letter (code "C")) index e
  entered (Step p) taken_back e = stuck e
  entered (Collect p) accepted e = collected p _ refl e
  entered (Collect p) (at letter index) e = stuck e
  entered (Collect p) taken_back e = stuck e
  entered (Withdraw p) accepted e = stays b refl e
  entered (Withdraw p) (at letter index) e = stuck e
  entered (Withdraw p) taken_back e = withdrawn p _ refl e

each-entry : (m : Machine) (s : m.State) (b : History) (calls : List Call) → EachCall m EntryOfGreatestRank s b calls
unfolding EachCall
each-entry m s b [] = tt
each-entry m s b (c ∷ cs) = λ after e. ((λ r grows. entered b after r grows c _ e), each-entry m _ after cs)

pub greatest-rank-kept : GreatestRankKept
greatest-rank-kept n d least most naps calls = each-entry _ _ _ calls
