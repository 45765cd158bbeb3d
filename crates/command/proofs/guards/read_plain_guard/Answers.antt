use Rattle.std.proofs.Common.{◌≡◌, get_or, arith}
use borrow.Author.Tests.{ne_eqb}
use Rattle.command.specs.Commands.{plain_guard_in}
use Rattle.command.proofs.Heads.{empty_of, headed}
use Rattle.command.proofs.guards.read_plain_guard.Goals as goal

pub returns-in-empty : goal.returns-in-empty
unfolding plain_guard_in
returns-in-empty c = rw (empty_of c.args.s.now c.in-empty.len_below)

pub returns-in-45 : goal.returns-in-45
unfolding plain_guard_in
returns-in-45 c =
    let s = c.args.s.now in
    let e : get_or s 0 0 ≡ 45 = omega arith in
    rw (headed s c.in-45.len_at_least, e) c.guard_from.ensures

pub returns-in_default : goal.returns-in_default
unfolding plain_guard_in
returns-in_default c =
    let s = c.args.s.now in
    let n : get_or s 0 0 ≡ 45 → ⊥ = λ e. omega (arith, e) in
    rw (headed s c.in_default.len_at_least, ne_eqb _ _ n, ← headed s c.in_default.len_at_least) c.guard_from-in_default.ensures
