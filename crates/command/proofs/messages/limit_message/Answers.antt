use Rattle.std.proofs.Common.{take, arith, length-take}
use Rattle.text.proofs.Hexadecimals.{word-other}
use Rattle.command.specs.Commands.{limit_in}
use Rattle.command.proofs.messages.limit_message.Goals as goal

pub returns-in_err-low : goal.returns-in_err-low
unfolding limit_in
returns-in_err-low c =
    let s = c.args.s.now in
    rw (word-other (take 8 s) (λ e. omega (arith, length-take 8 s, c.in_err-low.ensures.cases, e))) c.from_residual.ensures
