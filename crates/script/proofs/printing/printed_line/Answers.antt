use Prim.Native.Char.{code}
use Rattle.std.proofs.Common.{arith}
use Rattle.script.proofs.Texts.{line-text, number-length, letter-capped}
use Rattle.script.proofs.printing.printed_line.Goals as goal

pub returns-in-New : goal.returns-in-New
returns-in-New c = rw c.in-New.is (line-text _ c.args.answer _ c.well_formed.1.0 (number-length (code "n") _) c.command_text.ensures c.answer_line.ensures)

pub returns-in-Movers : goal.returns-in-Movers
returns-in-Movers c =
    rw c.in-Movers.is
    (line-text _ c.args.answer _ c.well_formed.1.0 (omega arith) (letter-capped _ c.empty.ensures c.byte.ensures) c.answer_line-in-Movers.ensures)
