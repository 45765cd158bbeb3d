use Prim.Native.Char.{code}
use Rattle.script.proofs.Texts.{line-text, number-length}
use Rattle.script.proofs.printing.call_line.Goals as goal

pub returns-in-Offer : goal.returns-in-Offer
returns-in-Offer c = rw c.in-Offer.is (line-text _ c.args.answer _ c.well_formed.1.0 (number-length (code "o") _) c.command_text.ensures c.answer_line.ensures)

pub returns-in-Step : goal.returns-in-Step
returns-in-Step c = rw c.in-Step.is (line-text _ c.args.answer _ c.well_formed.1.0 (number-length (code "s") _) c.command_text-in-Step.ensures c.answer_line-in-Step.ensures)

pub returns-in-Collect : goal.returns-in-Collect
returns-in-Collect c = rw c.in-Collect.is (line-text _ c.args.answer _ c.well_formed.1.0 (number-length (code "c") _) c.command_text-in-Collect.ensures c.answer_line-in-Collect.ensures)

pub returns-in-Withdraw : goal.returns-in-Withdraw
returns-in-Withdraw c = rw c.in-Withdraw.is (line-text _ c.args.answer _ c.well_formed.1.0 (number-length (code "w") _) c.command_text-in-Withdraw.ensures c.answer_line-in-Withdraw.ensures)
