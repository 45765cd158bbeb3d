use Rattle.std.proofs.Common.{sym, ap, ◌∙◌, arith}
use Rattle.process.specs.Rules.{Own, scan_from}
use Rattle.records.proofs.Ruled.{rule-by, absorbs, absorbs-not, no-rule}
use Rattle.records.proofs.rules.own_rule.Goals as goal

pub returns-in-1-clause-rule : goal.returns-in-1-clause-rule
unfolding scan_from
returns-in-1-clause-rule c =
    λ p q y. rule-by c.args.nap p q y c.args.r.now 1 c.in-1.is ∙ ap Own (sym c.scanned.ensures)

pub returns-in-8-clause-rule : goal.returns-in-8-clause-rule
returns-in-8-clause-rule c =
    λ p q y. rule-by c.args.nap p q y c.args.r.now 8 c.in-8.is ∙ c.slept.ensures

pub returns-in-5-clause-rule : goal.returns-in-5-clause-rule
returns-in-5-clause-rule c =
    λ p q y. rule-by c.args.nap p q y c.args.r.now 5 c.in-5.is ∙ ap Own (sym c.posted.ensures)

pub returns-in-6-clause-rule : goal.returns-in-6-clause-rule
returns-in-6-clause-rule c =
    λ p q y. rule-by c.args.nap p q y c.args.r.now 6 c.in-6.is ∙ ap Own (sym c.showing.ensures)

pub returns-in-7-clause-rule : goal.returns-in-7-clause-rule
returns-in-7-clause-rule c =
    λ p q y. rule-by c.args.nap p q y c.args.r.now 7 c.in-7.is ∙ ap Own (sym c.waiting.ensures)

pub returns-in-9-clause-rule : goal.returns-in-9-clause-rule
returns-in-9-clause-rule c =
    let r = c.args.r.now in
    λ p q y. rule-by c.args.nap p q y r 9 c.in-9.is ∙ absorbs r c.if-r-ne0.true ∙ ap Own (sym c.absorbed.ensures)

pub returns-in_default-clause-rule : goal.returns-in_default-clause-rule
returns-in_default-clause-rule c =
    let r = c.args.r.now in
    λ p q y. rule-by c.args.nap p q y r 9 c.in-9.is ∙ absorbs-not r c.if-r-ne0.false

pub returns-in_default-2-clause-rule : goal.returns-in_default-2-clause-rule
returns-in_default-2-clause-rule c =
    λ p q y. no-rule c.args.nap p q y c.args.r.now c.requires.2 (λ e. omega arith) (λ e. omega arith) (λ e. omega arith) (λ e. omega arith) (λ e. omega arith) (λ e. omega arith)
