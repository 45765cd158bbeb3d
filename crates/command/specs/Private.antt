-- Not to be believed: what inner contracts cite; no contract of a public function does.
use Rattle.std.specs.Prelude.{ℕ, List, [], ◌∷◌, ◌++◌, ◌≡◌, Option, option_map}
use Prim.Native.Char.{code}
use Rattle.alternative.specs.Guards.{lent}
use Rattle.command.specs.Types.{Guard, GuardList}
use Rattle.command.specs.Commands.{fields, before}

-- the guards of an offer as the code hands them on
abbrev pub as_list : Option (List Guard) → Option GuardList
as_list o = option_map lent o

-- how many bytes stand before the first space
abbrev pub field_length : List ℕ → ℕ
field_length bs = before (code " ") bs

-- the fields after a field's end: none at the end of the line, else those after the space
unfoldable pub fields_after : List ℕ → List (List ℕ)
fields_after [] = []
fields_after (b ∷ bs) = fields bs

-- a list lent by its task, with one guard more
abbrev pub Grown : GuardList → Guard → GuardList → Type 0
Grown list g longer = (gs : List Guard) → list ≡ lent gs → longer ≡ lent (gs ++ g ∷ [])
