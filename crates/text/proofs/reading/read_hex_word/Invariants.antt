use Rattle.std.proofs.Common.{◌≡◌, ◌^◌, ◌<◌, drop}
use Rattle.text.specs.Reading.{hex_from}
use Rattle.text.proofs.reading.read_hex_word.Given as goal

-- the digits before b spell a, which is less than 16 to their count
abbrev pub invariant-loop-b : goal.invariant-loop-b
invariant-loop-b l = record { small : l.a < 16 ^ l.b-index; spelt : hex_from 0 l.s ≡ hex_from l.a (drop l.b-index l.s) }
