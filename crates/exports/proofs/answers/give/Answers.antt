use Rattle.std.proofs.Common.{◌≡◌, ◌∙◌, sym, ap, length}
use borrow.Author.Rules.{length_unmapped}
use Rattle.rendezvous.specs.Numbers.{said}
use Rattle.exports.specs.Layout.{answer_length}
use Rattle.exports.specs.Answers.{said_bytes}
use Rattle.exports.proofs.Giving.{gives_both}
use Rattle.exports.proofs.answers.give.Goals as goal

pub returns : goal.returns
returns c =
    let a = c.args in
    let bytes = c.answer_bytes in
    let n : length (said_bytes (said a.reply.answer)) ≡ answer_length = ap length (sym bytes.ensures) ∙ search (length_unmapped, bytes.type_inv) in
    gives_both a.read a.reply a.table.now a.answer.now _ _ c.if-not-whole.false n c.encode.ensures.1 (rw bytes.ensures at c.put_bytes.ensures) c.encode.ensures.2
