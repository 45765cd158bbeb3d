-- Not to be believed: what inner contracts cite; no contract of a public function does.
use Rattle.std.specs.Prelude.{ℕ, ◌&&◌, ltb, leb, ℤ, pos, neg_ℤ, Option}
use Rattle.text.specs.Types.{◌>>=◌}
use Rattle.text.specs.Reading.{provided}

-- a number that 32 bits hold
unfoldable pub in_word : Option ℕ → Option ℕ
in_word o = do
  n ← o
  provided (leb n 4294967295) n

-- n and -n, where 32 bits hold them with a sign; there is no -0
unfoldable pub positive_of : ℕ → Option ℤ
positive_of n = provided (leb n 2147483647) (pos n)

unfoldable pub negative_of : ℕ → Option ℤ
negative_of n = provided (ltb 0 n && leb n 2147483648) (neg_ℤ (pos n))
