use Rattle.sheet.specs.Sheet.{sheet_text}
use Rattle.sheet.proofs.sheet.Goals as goal

pub returns-in-Some : goal.returns-in-Some
unfolding sheet_text
returns-in-Some c = rw (c.in-Some.is, ← c.open_count.ensures) c.totals_text.ensures

pub returns-in-None : goal.returns-in-None
unfolding sheet_text
returns-in-None c = rw c.in-None.is c.totals_text-in-None.ensures
