-- A list of guards, tested guard by guard without a way out.
use Rattle.std.specs.Prelude.{Some, None}
use Prim.Native.Nat.{ℕ, ◌+◌, ◌≤◌, ◌<◌}
use mathlib.Core.Path.{◌≡◌, refl, sym, ap, ◌∙◌}
use mathlib.Core.Bool.{Bool, true, false, ◌&&◌, ◌||◌, not}
use mathlib.Core.List.{List}
use native.Mathlib.Omega.{arith}
use lib.ListN.{length, get_or, take, drop}
use lib.Dec.{leb, ltb, eqb}
use borrow.Author.Tests.{leb-true, leb-false}
use native.Mathlib.Numerals.{add-one}
use borrow.Author.Tests.{eq-eqb, ne_eqb}
use Rattle.alternative.specs.Guards.{blank, first_from}
use Rattle.alternative.proofs.Rest.{rest_at, rest_end}
use Rattle.records.specs.Types.{Guard}
use Rattle.wire.specs.Reading.{byte}
use Rattle.process.specs.Fits.{all_guards, partner_fits, list_fits}
use lib.Seq.{get_or-take, get_or-drop}
use Rattle.records.specs.Layout.{part}
use Rattle.records.specs.Reading.{guard_of, guards_of, guards_at}
use Rattle.records.proofs.Values.{values_length, value-at}

regroup : (a b c : Bool) → (a && (b && c)) ≡ ((a && b) && c)
regroup true b c = refl
regroup false b c = refl

module _ (test : Guard → Bool) (gs : List Guard) (count k : ℕ) (ok : Bool) where
  -- one guard more: what is left to test
  turn : k < length gs → (ok && all_guards test (drop k (take count gs))) ≡ ((ok && (leb count k || test (get_or gs k blank))) && all_guards test (drop (k + 1) (take count gs)))
  unfolding all_guards
  turn h = go (leb count k) refl
    where
      go : (b : Bool) → leb count k ≡ b → (ok && all_guards test (drop k (take count gs))) ≡ ((ok && (b || test (get_or gs k blank))) && all_guards test (drop (k + 1) (take count gs)))
      go true e =
          let i : count ≤ k = leb-true count k e in
          rw (rest_end gs count k (omega arith), rest_end gs count (k + 1) (omega arith)) (regroup ok true true)
      go false e = rw (rest_at gs count k blank (leb-false count k e) h) (regroup ok (test (get_or gs k blank)) (all_guards test (drop (k + 1) (take count gs))))

  over : length gs ≤ k → (ok && all_guards test (drop k (take count gs))) ≡ ok
  unfolding all_guards
  over h = rw (rest_end gs count k (omega arith)) (and-true ok)
    where
      and-true : (a : Bool) → (a && true) ≡ a
      and-true true = refl
      and-true false = refl

module _ (r : List ℕ) (at b : ℕ) where
  pub guards-length : length (guards_at r at b) ≡ 8
  unfolding guards_of
  guards-length = values_length (guard_of (part r at 8) (part r b 104)) 0 8

  pub guard-at : (k : ℕ) → k < 8 → get_or (guards_at r at b) k blank ≡ guard_of (part r at 8) (part r b 104) k
  unfolding guards_of
  guard-at k h = value-at (guard_of (part r at 8) (part r b 104)) 8 k blank h

  pub partner-at : (k : ℕ) → k < 8 → (get_or (guards_at r at b) k blank).partner ≡ byte r (at + k)
  unfolding guard_of
  partner-at k h = ap (λ (g : Guard). g.partner) (guard-at k h) ∙ get_or-take 8 (drop at r) k 0 h ∙ get_or-drop at r k 0

  -- whether the whole list fits, from what is known after k guards
  abbrev pub Left : ℕ → ℕ → ℕ → Bool → ℕ → Type 0
  Left n p count ok k = list_fits n p count (guards_at r at b) ≡ (ok && all_guards (partner_fits n p) (drop k (take count (guards_at r at b))))

  pub left-start : (n p count : ℕ) → Left n p count (leb count 8) 0
  unfolding list_fits
  left-start n p count = refl

  pub left-more : (n p count : ℕ) (ok : Bool) (k : ℕ) → k < 8 → Left n p count ok k
      → Left n p count (ok && (leb count k || (not (eqb (byte r (at + k)) p) && ltb (byte r (at + k)) n))) (k + 1)
  unfolding partner_fits
  left-more n p count ok k h e =
      e ∙ turn (partner_fits n p) (guards_at r at b) count k ok (omega (arith, guards-length))
      ∙ ap (λ (q : ℕ). (ok && (leb count k || (not (eqb q p) && ltb q n))) && all_guards (partner_fits n p) (drop (k + 1) (take count (guards_at r at b)))) (partner-at k h)

  pub left_end : (n p count : ℕ) (ok : Bool) (k : ℕ) → 8 ≤ k → Left n p count ok k → ok ≡ list_fits n p count (guards_at r at b)
  left_end n p count ok k h e = sym (e ∙ over (partner_fits n p) (guards_at r at b) count k ok (omega (arith, guards-length)))

  pub enabled-at : (k : ℕ) → k < 8 → b + 104 ≤ length r → (get_or (guards_at r at b) k blank).enabled ≡ not (eqb (byte r (b + k)) 0)
  unfolding guard_of
  enabled-at k h _ = ap (λ (g : Guard). g.enabled) (guard-at k h) ∙ ap (λ (x : ℕ). not (eqb x 0)) (get_or-take 104 (drop b r) k 0 (omega arith) ∙ get_or-drop b r k 0)

  -- the search for an enabled guard: it stops at guard k, or goes on
  module _ (count k : ℕ) (below : k < count) (most : count ≤ 8) (room : b + 104 ≤ length r) where
    pub enabled-hit : (byte r (b + k) ≡ 0 → ⊥) → first_from (λ g. g.enabled) (drop k (take count (guards_at r at b))) k ≡ Some k
    unfolding first_from
    enabled-hit e = rw (rest_at (guards_at r at b) count k blank below (omega (arith, guards-length)), enabled-at k (omega arith) room, ne_eqb (byte r (b + k)) 0 e)

    pub enabled-miss : byte r (b + k) ≡ 0 → first_from (λ g. g.enabled) (drop k (take count (guards_at r at b))) k ≡ first_from (λ g. g.enabled) (drop (k + 1) (take count (guards_at r at b))) (k + 1)
    unfolding first_from
    enabled-miss e = rw (rest_at (guards_at r at b) count k blank below (omega (arith, guards-length)), enabled-at k (omega arith) room, eq-eqb (byte r (b + k)) 0 e, add-one)

  pub enabled-end : (count k : ℕ) → count ≤ k → first_from (λ g. g.enabled) (drop k (take count (guards_at r at b))) k ≡ None
  unfolding first_from
  enabled-end count k h = rw (rest_end (guards_at r at b) count k (omega arith))
