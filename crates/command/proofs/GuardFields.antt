-- The guards of an offer, field by field: the guards so far stand before those in the rest of the line.
use Rattle.std.specs.Prelude.{Option, Some, None}
use Prim.Native.Nat.{ℕ, ◌-◌, ◌≤◌, ◌<◌}
use mathlib.Core.Path.{◌≡◌, refl}
use mathlib.Core.List.{List, [], ◌∷◌, ◌++◌, append_assoc, append-nil}
use lib.ListN.{length, take, drop}
use Rattle.text.specs.Types.{◌>>=◌}
use Rattle.command.specs.Types.{Guard}
use Rattle.command.specs.Commands.{guard_in, guards_in}
use Rattle.command.specs.Private.{field_length, fields_after}
use Rattle.command.proofs.Cuts.{next-cut}
use Rattle.command.proofs.Heads.{empty_of}

-- the guards gs before those of o
unfoldable pub prefixed : List Guard → Option (List Guard) → Option (List Guard)
prefixed gs o = do
  hs ← o
  Some (gs ++ hs)

pub prefixed-all : (o : Option (List Guard)) → o ≡ prefixed [] o
unfolding prefixed
prefixed-all None = refl
prefixed-all (Some hs) = refl

prefixed-more : (gs : List Guard) (g : Guard) (o : Option (List Guard)) → prefixed gs (prefixed (g ∷ []) o) ≡ prefixed (gs ++ g ∷ []) o
unfolding prefixed
prefixed-more gs g None = refl
prefixed-more gs g (Some hs) = rw (append_assoc gs (g ∷ []) hs)

-- at a field's end, before the line's end, where the next field has n bytes
module _ (s field after : List ℕ) (n : ℕ) (h : 1 ≤ length s) where
  abbrev more : List ℕ
  more = take (length s - 1) (drop 1 s)

  module _ (e : n ≡ field_length more) (f : field ≡ take n more) (a : after ≡ drop n more) where
    -- the next field's guard stands before the guards after it
    pub guards_more : (gs : List Guard) (g : Guard) → guard_in field ≡ Some g → prefixed gs (guards_in (fields_after s)) ≡ prefixed (gs ++ g ∷ []) (guards_in (fields_after after))
    unfolding guards_in prefixed
    guards_more gs g k = rw (next-cut s h, ← e, ← f, ← a, k) (prefixed-more gs g (guards_in (fields_after after)))

    pub guards-stop : (gs : List Guard) → guard_in field ≡ None → prefixed gs (guards_in (fields_after s)) ≡ None
    unfolding guards_in prefixed
    guards-stop gs k = rw (next-cut s h, ← e, ← f, k)

pub guards-end : (gs : List Guard) (s : List ℕ) → length s < 1 → prefixed gs (guards_in (fields_after s)) ≡ Some gs
unfolding guards_in prefixed fields_after
guards-end gs s h = rw (empty_of s h, append-nil gs)
