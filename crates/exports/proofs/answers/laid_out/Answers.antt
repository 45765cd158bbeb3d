use Rattle.std.proofs.Common.{replicate}
use Rattle.wire.proofs.Lengths.{word-length, message-length}
use Rattle.wire.proofs.Parts.{laid-whole}
use Rattle.exports.specs.Layout.{answer_length}
use Rattle.exports.specs.Answers.{answer_parts}
use Rattle.exports.proofs.answers.laid_out.Goals as goal

pub returns : goal.returns
returns c =
    let a = c.args in
    let parts = answer_parts a.variant a.a a.b a.m a.word in
    rw (c.put_bytes-3.ensures, c.word_bytes.ensures, c.put_bytes-2.ensures, c.message_bytes.ensures, c.put_bytes.ensures)
    (rw (message-length a.m) at (laid-whole parts (replicate answer_length 0) (rw (message-length a.m, word-length a.word))))
