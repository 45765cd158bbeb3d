-- What a match of two guards says, what the two searches in a list of guards find, and what a list that fits says of its guards.
use Rattle.std.specs.Prelude.{Option, Some, None, slice_get}
use Prim.Native.Nat.{ℕ, zero, suc, ◌+◌, ◌-◌, ◌≤◌, ◌<◌}
use mathlib.Core.Path.{◌≡◌, refl, sym, ap, subst}
use mathlib.Core.List.{List, [], ◌∷◌}
use mathlib.Core.Bool.{Bool, true, false, not, ◌&&◌, false≢true}
use native.Mathlib.Omega.{arith}
use lib.ListN.{get_or, take, drop}
use lib.Seq.{get_or-drop}
use lib.Dec.{eqb, leb}
use borrow.Author.Tests.{eqb-true, eqb-false, eq-eqb, ne_eqb, ltb-true, not-true}
use Rattle.alternative.specs.declared.Action.{Action}
use Rattle.alternative.specs.declared.Guard.{Guard}
use Rattle.alternative.specs.Guards.{most_guards, blank, opposite, plain_match, guards_match, any_guard, offers_match, kept_match, next_enabled}
use Rattle.process.specs.Fits.{all_guards, partner_fits, list_fits}
use Rattle.alternative.proofs.Kept.{kept-view}
use Rattle.alternative.proofs.Search.{first-view, any_none}
use Rattle.alternative.proofs.Tests.{and_parts}
use Rattle.history.proofs.Invariant.{On}

-- what a match says
pub record Match (p : ℕ) (g : Guard) (q : ℕ) (h : Guard) : Type 0 where
  pub here : g.enabled ≡ true
  pub there : h.enabled ≡ true
  pub to : g.partner ≡ q
  pub back : h.partner ≡ p
  pub one-sends : opposite g.action h.action ≡ true

pub match : {p : ℕ} {g : Guard} {q : ℕ} {h : Guard} → guards_match p g q h ≡ true → Match p g q h
unfolding guards_match
match {p} {g} {q} {h} e =
    let a = and_parts g.enabled _ (and_parts (plain_match p g q h) _ e).0 in
    let b = and_parts h.enabled _ a.1 in
    let c = and_parts (eqb g.partner q) _ b.1 in
    let d = and_parts (eqb h.partner p) _ c.1 in
    record { here = a.0; there = b.0; to = eqb-true _ _ c.0; back = eqb-true _ _ d.0; one-sends = d.1 }

opposite-comm : (a b : Action) → opposite a b ≡ opposite b a
opposite-comm Action.Receive Action.Receive = refl
opposite-comm Action.Receive (Action.Send m) = refl
opposite-comm (Action.Send m) Action.Receive = refl
opposite-comm (Action.Send m) (Action.Send k) = refl

eqb_comm : (a b : ℕ) → eqb a b ≡ eqb b a
eqb_comm a b = go (eqb a b) refl
  where
    go : (t : Bool) → eqb a b ≡ t → t ≡ eqb b a
    go true e = sym (eq-eqb b a (sym (eqb-true a b e)))
    go false e = sym (ne_eqb b a (λ f. eqb-false a b e (sym f)))

and-swap : (a b c : Bool) → (a && (b && c)) ≡ (b && (a && c))
and-swap true b c = refl
and-swap false true c = refl
and-swap false false c = refl

-- matching is symmetric
plain-comm : (p : ℕ) (g : Guard) (q : ℕ) (h : Guard) → plain_match p g q h ≡ plain_match q h p g
plain-comm p g q h = rw (opposite-comm g.action h.action, and-swap (eqb g.partner q) (eqb h.partner p) _) (and-swap g.enabled h.enabled _)

pub match-comm : (p : ℕ) (g : Guard) (q : ℕ) (h : Guard) → guards_match p g q h ≡ guards_match q h p g
unfolding guards_match
match-comm p g q h = rw (eqb_comm g.kind h.kind) (ap (λ (b : Bool). b && eqb h.kind g.kind) (plain-comm p g q h))

-- what rule 7's search says: the guard that it finds matches, and where it finds none, none does
abbrev pub Searched : ℕ → Guard → ℕ → List Guard → Option ℕ → Type 0
Searched p g q hs (Some j) = guards_match p g q (get_or hs j blank) ≡ true
Searched p g q hs None = (k : ℕ) → guards_match p g q (get_or hs k blank) ≡ true → ⊥

pub searched : (p : ℕ) (g : Guard) (q : ℕ) (hs : List Guard) → Searched p g q hs (kept_match p g q hs)
searched p g q hs = kept-view p g q hs (Searched p g q hs) (λ j b. b.passes) (λ n. n)

-- the first enabled guard at or after index s
pub next-view : (P : Option ℕ → Type 0) (gs : List Guard) (s : ℕ)
    → ((i : ℕ) → On gs i → ((k : ℕ) → s ≤ k → k < i → On gs k → ⊥) → P (Some i))
    → (((k : ℕ) → s ≤ k → On gs k → ⊥) → P None)
    → P (next_enabled gs s)
unfolding next_enabled
next-view P gs s a b = first-view P (λ g. g.enabled) (drop s gs) s false≢true
    (λ i o n. a (s + i) (rw get_or-drop at o) (λ k h l c. n (k - s) (omega arith) (lower k h c)))
    (λ n. b (λ k h c. n (k - s) (lower k h c)))
  where
    lower : (k : ℕ) → s ≤ k → On gs k → On (drop s gs) (k - s)
    lower k h a = rw get_or-drop (subst (On gs) (omega arith) a)

-- offers match by two guards, if at all
pub no-match : (p : ℕ) (gs : List Guard) (q : ℕ) (hs : List Guard) → ((k l : ℕ) → guards_match p (get_or gs k blank) q (get_or hs l blank) ≡ true → ⊥) → offers_match p gs q hs ≡ false
unfolding offers_match
no-match p gs q hs h = any_none (λ g. any_guard (guards_match p g q) hs) gs (λ k. any_none (guards_match p (get_or gs k blank) q) hs (λ l. neither _ (h k l)))
  where
    neither : (b : Bool) → (b ≡ true → ⊥) → b ≡ false
    neither true n = absurd (n refl)
    neither false n = refl

-- an enabled guard stands in its list
pub on-there : (gs : List Guard) (i : ℕ) → On gs i → slice_get gs i ≡ Some (get_or gs i blank)
on-there [] i e = absurd (false≢true e)
on-there (g ∷ gs) zero e = refl
on-there (g ∷ gs) (suc i) e = on-there gs i e

-- an enabled guard of a list that fits process p of n names another process below n
pub record NamesOther (n p : ℕ) (g : Guard) : Type 0 where
  pub other : p ≡ g.partner → ⊥
  pub below : g.partner < n

all-on : (test : Guard → Bool) (gs : List Guard) → all_guards test gs ≡ true → (k : ℕ) → On gs k → test (get_or gs k blank) ≡ true
unfolding all_guards
all-on test [] e k o = absurd (false≢true o)
all-on test (g ∷ gs) e zero o = (and_parts (test g) _ e).0
all-on test (g ∷ gs) e (suc k) o = all-on test gs (and_parts (test g) _ e).1 k o

pub fits-names : (n p count : ℕ) (guards : List Guard) → list_fits n p count guards ≡ true → (k : ℕ) → On (take count guards) k → NamesOther n p (get_or (take count guards) k blank)
unfolding list_fits partner_fits
fits-names n p count guards e k o =
    let a = all-on (partner_fits n p) (take count guards) (and_parts (leb count most_guards) _ e).1 k o in
    let b = and_parts (not (eqb (get_or (take count guards) k blank).partner p)) _ a in
    record { other = λ z. eqb-false _ _ (not-true _ b.0) (sym z); below = ltb-true _ _ b.1 }
