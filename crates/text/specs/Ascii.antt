-- To be believed: the bytes of a text, so that definitions and cases can quote it.
use Rattle.std.specs.Prelude.{ℕ}
use Prim.Native.Char.{code}
use Prim.Native.String.{String, [], ◌∷◌}
use mathlib.Core.List as list

-- for texts in ASCII, whose characters are a byte each
unfoldable pub bytes : String → list.List ℕ
bytes [] = list.[]
bytes (c ∷ cs) = list.◌∷◌ (code c) (bytes cs)
