use Rattle.std.proofs.Common.{◌≡◌, ◌<◌, drop}
use Rattle.text.specs.Reading.{decimal_from}
use Rattle.text.specs.Private.{in_word}
use Rattle.text.proofs.reading.read_digits.Given as goal

-- the digits before b spell a: what all spell is what the rest spells after a
abbrev pub invariant-loop-b : goal.invariant-loop-b
invariant-loop-b l = record { fits : l.a < 4294967296; spelt : in_word (decimal_from 0 l.s) ≡ in_word (decimal_from l.a (drop l.b-index l.s)) }
