-- A lent list that grows by a guard at its end: the guard is counted, and kept if it is among the first eight.
use Prim.Native.Nat.{ℕ, ◌+◌, ◌<◌, ◌≤◌}
use mathlib.Core.Path.{◌≡◌, refl, sym, ap, subst, ◌∙◌}
use mathlib.Core.Bool.{Bool, true, false}
use mathlib.Core.List.{List, [], ◌∷◌, ◌++◌}
use native.Mathlib.Omega.{arith}
use borrow.Author.Tests.{ltb-true, ltb-false, eqb-true, eqb-false}
use lib.Dec.{ltb, eqb}
use lib.ListN.{get_or, set, length, length-set, length-append, get_or-append, get_or-eq_default}
use lib.Seq.{get_or-set_same, get_or-set_other, get_or-append_seam}
use Rattle.alternative.specs.Guards.{blank, slots, lent}
use Rattle.alternative.proofs.Slots.{slots_at, slots_length, slots-are}
use Rattle.command.specs.Types.{Guard, GuardList}

module _ (gs : List Guard) (g : Guard) where
  pub longer-length : length (gs ++ g ∷ []) ≡ length gs + 1
  longer-length = length-append gs (g ∷ [])

  old-slot : (i : ℕ) → i < 8 → i < length gs → get_or (slots gs) i blank ≡ get_or (gs ++ g ∷ []) i blank
  old-slot i b h = slots_at gs i b ∙ sym (get_or-append gs (g ∷ []) blank i h)

  past : (i : ℕ) → i < 8 → length gs < i → get_or (slots gs) i blank ≡ get_or (gs ++ g ∷ []) i blank
  past i b h =
      let short : length gs ≤ i = omega arith in
      let out : length (gs ++ g ∷ []) ≤ i = omega (arith, longer-length) in
      slots_at gs i b ∙ get_or-eq_default gs blank short ∙ sym (get_or-eq_default (gs ++ g ∷ []) blank out)

  slots-full : 8 ≤ length gs → slots gs ≡ slots (gs ++ g ∷ [])
  slots-full h = slots-are (gs ++ g ∷ []) (slots gs) (slots_length gs) (λ i b. old-slot i b (omega arith))

  added : length gs < 8 → (i : ℕ) → i < 8 → get_or (set (slots gs) (length gs) g) i blank ≡ get_or (gs ++ g ∷ []) i blank
  added h i b = go (ltb i (length gs)) (eqb i (length gs)) refl refl
    where
      go : (t e : Bool) → ltb i (length gs) ≡ t → eqb i (length gs) ≡ e → get_or (set (slots gs) (length gs) g) i blank ≡ get_or (gs ++ g ∷ []) i blank
      go true e p q =
          let l = ltb-true i (length gs) p in
          get_or-set_other (slots gs) (length gs) i g blank (omega arith) ∙ old-slot i b l
      go false true p q =
          rw (eqb-true i (length gs) q) (get_or-set_same (slots gs) (length gs) g blank (omega (arith, slots_length gs)) ∙ sym (get_or-append_seam gs g [] blank))
      go false false p q =
          let l = ltb-false i (length gs) p in
          let d = eqb-false i (length gs) q in
          get_or-set_other (slots gs) (length gs) i g blank d ∙ past i b (omega (arith, l, d))

  slots-more : length gs < 8 → set (slots gs) (length gs) g ≡ slots (gs ++ g ∷ [])
  slots-more h = slots-are (gs ++ g ∷ []) (set (slots gs) (length gs) g) (length-set (slots gs) (length gs) g ∙ slots_length gs) (added h)

  -- in the form of the code: the slots after a list's count
  module _ (list : GuardList) (after : List Guard) (e : list ≡ lent gs) where
    pub grown-within : list.count < 8 → after ≡ set list.guards list.count g → record { count = list.count + 1; guards = after } ≡ lent (gs ++ g ∷ [])
    unfolding lent
    grown-within h k = rw (k, e, longer-length, slots-more (subst (λ (l : GuardList). l.count < 8) e h))

    pub grown-counted : 8 ≤ list.count → after ≡ list.guards → record { count = list.count + 1; guards = after } ≡ lent (gs ++ g ∷ [])
    unfolding lent
    grown-counted h k = rw (k, e, longer-length, slots-full (subst (λ (l : GuardList). 8 ≤ l.count) e h))

pub lent-count : (gs : List Guard) (list : GuardList) → list ≡ lent gs → list.count ≡ length gs
unfolding lent
lent-count gs list e = ap (λ (l : GuardList). l.count) e
