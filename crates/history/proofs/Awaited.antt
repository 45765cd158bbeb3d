-- A process that another has committed to, and that has no signal of it yet, gets one: the other is still at C.
use Rattle.std.specs.Prelude.{Some}
use Prim.Native.Nat.{ℕ}
use mathlib.Core.Path.{◌≡◌, refl, sym, subst, subst⁻¹}
use mathlib.Core.Bool.{false}
use Rattle.alternative.specs.declared.Message.{Message}
use Rattle.process.specs.declared.Place.{Place}
use Rattle.process.specs.declared.Process.{Process}
use Rattle.process.specs.Process.{own_guard}
use Rattle.process.specs.Rules.{at_place, with_signal, with_accepting}
use Rattle.history.proofs.View.{View, upd, upd_same, upd_other, upd-comm, entered-each}
use Rattle.history.proofs.Invariant.{Commits, Shows, Bound}
use Rattle.history.proofs.Places.{shows-elim, absent-present}
use Rattle.history.proofs.Tame.{Held}

abbrev pub Awaited : View → Type 0
Awaited v = (q : ℕ) → Bound (v q) → Held v q

-- A new record of p: it is bound only where another has committed to p, and what the old one had committed to is not bound.
pub awaited-put : (v : View) → Awaited v → (p : ℕ) (x : Process) → (Bound x → Held v p)
    → ((i j : ℕ) → Commits (v p).place i j → Bound (v (own_guard (v p) i).partner) → ⊥) → Awaited (upd v p x)
awaited-put v a p x new old = entered-each (λ q y. Bound y → Held (upd v p x) q) v p x
    (λ b. let h = new b in still p h h.other)
    (λ q _ b. let h = a q b in still q h (λ z. old h.at h.kept (rw z at h.there) (rw (← z, h.names) b)))
  where
    still : (q : ℕ) → (h : Held v q) → (h.by ≡ p → ⊥) → Held (upd v p x) q
    still q h ne = let u = upd_other v p x h.by ne in record { by = h.by; at = h.at; kept = h.kept; other = h.other; there = rw u h.there; names = rw u h.names }

-- a record at neither H nor W is not bound
pub hidden : (x y : Process) → (Shows x.place → ⊥) → Bound x → Bound y
hidden x y hides b = absurd (hides b.shows)

-- one that shows its list has committed to nobody
idle-shows : (pl : Place) (i j : ℕ) → Shows pl → Commits pl i j → ⊥
idle-shows pl i j = shows-elim (λ at. Commits at i j → ⊥) (λ c. c) (λ c. c) pl

module _ (v : View) (a : Awaited v) (p q i j : ℕ) (ne : p ≡ q → ⊥) (names : (own_guard (v p) i).partner ≡ q) (shows : Shows (v q).place) where
  -- rule 7: the mover first, so that the partner is bound by it
  pub awaited-commit : (v p).place ≡ Place.Trying i → Awaited (upd (upd v q (with_accepting (v q) false)) p (at_place (v p) (Place.Committed i j)))
  awaited-commit e = subst⁻¹ Awaited (upd-comm v p q (at_place (v p) (Place.Committed i j)) (with_accepting (v q) false) ne)
      (awaited-put u (awaited-put v a p _ (λ b. absurd b.shows) (λ k l c _. rw e at c)) q _
      (λ _. record { by = p; at = i; kept = j; other = ne; there = rw up (refl, refl); names = rw up names })
      (λ k l c _. idle-shows (v q).place k l shows (rw uq at c)))
    where
      u : View
      u = upd v p (at_place (v p) (Place.Committed i j))

      up : u p ≡ at_place (v p) (Place.Committed i j)
      up = upd_same v p _

      uq : u q ≡ v q
      uq = upd_other v p _ q (λ z. ne (sym z))

  -- rule 9: the partner first, so that the mover's commit binds nobody any more
  pub awaited-signal : (v p).place ≡ Place.Committed i j → (m k : Message) → Awaited (upd (upd v q (with_signal (v q) (Some (j, k)))) p (at_place (v p) (Place.Met i m)))
  awaited-signal e m k =
      awaited-put u (awaited-put v a q _ (λ b. absurd (absent-present _ j k b.deaf refl)) (λ r l c _. idle-shows (v q).place r l shows c)) p _
      (λ b. absurd b.shows)
      (λ r l c b. let c' : Commits (Place.Committed i j) r l = rw (up, e) at c in
      absent-present _ j k (subst (λ (y : Process). Bound y) (told r c'.0) b).deaf refl)
    where
      u : View
      u = upd v q (with_signal (v q) (Some (j, k)))

      up : u p ≡ v p
      up = upd_other v q _ p ne

      told : (r : ℕ) → i ≡ r → u (own_guard (u p) r).partner ≡ with_signal (v q) (Some (j, k))
      told r z = rw (← z, up, names) (upd_same v q _)
