-- The first eight guards of an offer.
use Prim.Native.Nat.{ℕ, ◌<◌, ◌≤◌}
use mathlib.Core.Path.{◌≡◌, refl, sym, ◌∙◌}
use mathlib.Core.List.{List}
use mathlib.Core.Bool.{Bool, true, false}
use native.Mathlib.Omega.{arith}
use borrow.Author.Tests.{ltb-true, ltb-false}
use lib.Dec.{ltb}
use lib.ListN.{take, get_or, length-take, get_or-eq_default}
use lib.Seq.{get_or-take}
use Rattle.alternative.specs.Guards.{most_guards, blank, slots}
use Rattle.alternative.proofs.Slots.{slots-are, slots_at, slots_length}
use Rattle.wire.specs.Layout.{guard_length}
use Rattle.wire.specs.Reading.{each_of, guard_of, guards_of}
use Rattle.wire.proofs.Lists.{each-count, each_at}

module _ (bytes : List ℕ) (count : ℕ) where
  -- guard i of the first `count` of eight, and of `count`
  within : (i : ℕ) → i < most_guards → i < count → get_or (take count (guards_of bytes)) i blank ≡ get_or (each_of guard_of guard_length count bytes) i blank
  unfolding guards_of
  within i h l = get_or-take count (each_of guard_of guard_length most_guards bytes) i blank l ∙ each_at guard_of guard_length most_guards i bytes blank h ∙ sym (each_at guard_of guard_length count i bytes blank l)

  beyond : (i : ℕ) → count ≤ i → get_or (take count (guards_of bytes)) i blank ≡ get_or (each_of guard_of guard_length count bytes) i blank
  beyond i g =
      get_or-eq_default (take count (guards_of bytes)) blank (omega (arith, length-take count (guards_of bytes)))
      ∙ sym (get_or-eq_default (each_of guard_of guard_length count bytes) blank (omega (arith, each-count guard_of guard_length count bytes)))

  same_at : (i : ℕ) → i < most_guards → (b : Bool) → ltb i count ≡ b → get_or (take count (guards_of bytes)) i blank ≡ get_or (each_of guard_of guard_length count bytes) i blank
  same_at i h true e = within i h (ltb-true i count e)
  same_at i h false e = beyond i (ltb-false i count e)

  pub same-slots : slots (take count (guards_of bytes)) ≡ slots (each_of guard_of guard_length count bytes)
  same-slots =
      slots-are (each_of guard_of guard_length count bytes) (slots (take count (guards_of bytes))) (slots_length (take count (guards_of bytes)))
      (λ i h. slots_at (take count (guards_of bytes)) i h ∙ same_at i h (ltb i count) refl)
