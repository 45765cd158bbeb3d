use Rattle.std.proofs.Common.{sym, ◌∙◌, arith}
use Rattle.command.proofs.Cuts.{number-whole, number-parted}
use Rattle.command.proofs.fields.read_only_number.Goals as goal

pub returns-then-length_before-s : goal.returns-then-length_before-s
returns-then-length_before-s c = sym (number-parted c.args.s.now (omega (arith, c.length_before.ensures.value, c.if-length_before-s.true)))

pub returns : goal.returns
returns c =
    c.read_byte_number.ensures ∙ sym (number-whole c.args.s.now (omega (arith, c.length_before.ensures.value, c.if-length_before-s.false)))
