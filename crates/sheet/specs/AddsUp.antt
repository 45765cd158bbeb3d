-- To be believed. CR 6 of document 02: "Users check that offers = 2 × meetings + withdrawn + open". So it is on the sheet of every script, whatever its bytes are: calls have led to its table from a
-- fresh one, and its totals are theirs.
use Rattle.std.specs.Prelude.{ℕ, ◌≡◌, List, [], None}
use Rattle.rendezvous.specs.declared.ProcessTable.{ProcessTable}
use Rattle.rendezvous.specs.Table.{fresh_table}
use Rattle.rendezvous.specs.Run.{Call, table_after_all}
use Rattle.history.specs.Machine.{made_by_all}
use Rattle.history.specs.Tables.{tables}
use Rattle.history.specs.DaySheet.{SheetOf}
use Rattle.script.specs.Lines.{lines_from}
use Rattle.script.specs.WithoutRanks.{IfMade}
use Rattle.sheet.specs.Sheet.{table_after}

-- the calls that have led to a table, and what `DaySheet` of the crate history says after them
pub record Signed (t : ProcessTable) : Type 0 where
  pub n : ℕ
  pub d : ℕ
  pub calls : List Call
  pub reached : t ≡ table_after_all (fresh_table n d) calls
  pub totals : SheetOf (fresh_table n d) calls t (made_by_all tables (fresh_table n d) calls)

-- of the table with which reading ends, if one was made
abbrev pub SheetAddsUp : Type 0
SheetAddsUp = (input : List ℕ) → IfMade Signed (table_after None (lines_from [] input))
