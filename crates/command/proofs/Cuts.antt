-- A line's fields, one after the other: the first field ends before the first space, and the others are those after it.
use Rattle.std.specs.Prelude.{None}
use Prim.Native.Nat.{ℕ, suc, ◌+◌, ◌-◌, ◌≤◌, ◌<◌}
use Prim.Native.Char.{code}
use mathlib.Core.Path.{◌≡◌, refl, ap, ◌∙◌}
use mathlib.Core.Bool.{Bool, true, false, cond, not}
use mathlib.Core.List.{List, [], ◌∷◌}
use native.Mathlib.Omega.{arith}
use lib.Dec.{eqb}
use lib.ListN.{length, take, drop, drop_of_length-le}
use lib.Seq.{drop-cons, take_all}
use Rattle.text.specs.Reading.{byte_number}
use Rattle.command.specs.Commands.{fields, put_before, number_in}
use Rattle.command.specs.Private.{field_length, fields_after}
use Rattle.command.proofs.Heads.{headed}

pub fields-cut : (s : List ℕ) → fields s ≡ take (field_length s) s ∷ fields_after (drop (field_length s) s)
unfolding fields fields_after
fields-cut [] = refl
fields-cut (b ∷ bs) = cut_at (eqb b (code " ")) (fields-cut bs)
  where
    cut_at : (t : Bool) → fields bs ≡ take (field_length bs) bs ∷ fields_after (drop (field_length bs) bs)
        → cond t ([] ∷ fields bs) (put_before b (fields bs))
        ≡ take (cond (not t) (1 + field_length bs) 0) (b ∷ bs) ∷ fields_after (drop (cond (not t) (1 + field_length bs) 0) (b ∷ bs))
    cut_at true h = refl
    cut_at false h = let one : 1 + field_length bs ≡ suc (field_length bs) = omega arith in rw (h, one)

-- where a field ends before the line does: the next field, and the fields after it
pub next-cut : (s : List ℕ) → 1 ≤ length s
    → let more = take (length s - 1) (drop 1 s) in fields_after s ≡ take (field_length more) more ∷ fields_after (drop (field_length more) more)
unfolding fields_after
next-cut s h = ap fields_after (headed s h) ∙ fields-cut (take (length s - 1) (drop 1 s))

-- one field is the whole line, and a line with a space has more
pub number-whole : (s : List ℕ) → length s ≤ field_length s → number_in (fields s) ≡ byte_number s
unfolding number_in fields_after
number-whole s h = rw (fields-cut s, drop_of_length-le s h, take_all (field_length s) s h)

pub number-parted : (s : List ℕ) → field_length s < length s → number_in (fields s) ≡ None
unfolding number_in fields_after
number-parted s h = rw (fields-cut s, drop-cons s (field_length s) 0 h, fields-cut (drop (suc (field_length s)) s))
