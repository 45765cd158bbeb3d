-- To be believed: the option monad.
use Rattle.std.specs.Prelude.{Option, Some, None}

abbrev pub ◌>>=◌ : {A B : Type 0} → Option A → (A → Option B) → Option B
◌>>=◌ None f = None
◌>>=◌ (Some a) f = f a
