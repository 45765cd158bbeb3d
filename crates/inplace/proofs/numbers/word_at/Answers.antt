use Rattle.std.proofs.Common.{arith}
use Rattle.inplace.proofs.Words.{word_in}
use Rattle.inplace.proofs.numbers.word_at.Goals as goal

pub returns : goal.returns
returns c = omega (arith, c.from_le_bytes.ensures, word_in c.args.t.now c.args.at 4 (omega arith))
