use Rattle.std.proofs.Common.{sym, ap, ◌∙◌}
use Rattle.script.specs.Session.{Turn}
use Rattle.script.proofs.Turns.{no-command, turn-answered, turn-unanswered}
use Rattle.script.proofs.feeding.turn.Goals as goal

pub returns-in_default : goal.returns-in_default
returns-in_default c =
    let t = no-command c.args.table.now _ (sym c.in_default.is ∙ c.line_command.ensures) in
    record { prints = c.malformed_line.ensures ∙ ap (λ (t : Turn). t.prints) t; table = ap (λ (t : Turn). t.table) t }

pub returns-in-Some-answer : goal.returns-in-Some-answer
returns-in-Some-answer c =
    let a = c.answer.ensures in
    let t = turn-answered c.args.table.now _ _ (sym c.in-Some.is ∙ c.line_command.ensures) _ _ _ (sym c.in-Some-answer.is ∙ a.answer) a.table c.printed_line.ensures in
    record { prints = t.0; table = t.1 }

pub returns-in-None : goal.returns-in-None
returns-in-None c =
    let a = c.answer.ensures in
    let t = turn-unanswered c.args.table.now _ _ (sym c.in-Some.is ∙ c.line_command.ensures) _ _ (sym c.in-None.is ∙ a.answer) a.table c.malformed_line-in-None.ensures in
    record { prints = t.0; table = t.1 }
