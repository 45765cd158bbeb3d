use Rattle.std.proofs.Common.{◌≡◌, get_or, arith}
use Rattle.command.proofs.Letters.{alone-parsed, line-empty, line-alone, line-with, line-glued}
use Rattle.command.proofs.commands.parse.Goals as goal

pub returns-in-len1 : goal.returns-in-len1
returns-in-len1 c = rw (line-alone c.args.line.now (omega (arith, c.in-len1))) (alone-parsed _ _ c.then_some.ensures)

pub returns-in-32 : goal.returns-in-32
returns-in-32 c =
    let s = c.args.line.now in
    let space : get_or s 1 0 ≡ 32 = omega arith in
    rw (line-with s c.in-32.len_at_least space) c.parse_with.ensures

pub returns-in_default : goal.returns-in_default
returns-in_default c = rw (line-empty c.args.line.now (omega arith))

pub returns-in_default-2 : goal.returns-in_default-2
returns-in_default-2 c = rw (line-glued c.args.line.now c.in_default.len_at_least (λ e. omega (arith, e)))
