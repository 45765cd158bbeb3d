use Rattle.std.proofs.Common.{rules, arith}
use Rattle.std.proofs.lemmas.Bool.Decides.{nat_tests}
use borrow.Author.Tests.{ne_eqb}
use Rattle.command.specs.Commands.{numbered, by_letter}
use Rattle.command.proofs.Letters.{with_none}
use Rattle.command.proofs.commands.parse_with.Goals as goal

pub returns-in-110 : goal.returns-in-110
unfolding by_letter
returns-in-110 c = rw c.in-110.is c.parse_new.ensures

pub returns-in-111 : goal.returns-in-111
unfolding by_letter
returns-in-111 c = rw c.in-111.is c.parse_offer.ensures

pub returns-in-115 : goal.returns-in-115
unfolding by_letter numbered
returns-in-115 c = rw (c.in-115.is, ← c.read_only_number.ensures) (search rules)

pub returns-in-99 : goal.returns-in-99
unfolding by_letter numbered
returns-in-99 c = rw (c.in-99.is, ← c.read_only_number-in-99.ensures) (search rules)

pub returns-in-119 : goal.returns-in-119
unfolding by_letter numbered
returns-in-119 c = rw (c.in-119.is, ← c.read_only_number-in-119.ensures) (search rules)

pub returns-in_default : goal.returns-in_default
returns-in_default c =
    let a = c.args in
    rw (with_none a.letter a.s.now (λ e. omega (arith, e)) (λ e. omega (arith, e)) (λ e. omega (arith, e)) (λ e. omega (arith, e)) (λ e. omega (arith, e)))
