-- To be believed. No list of calls damages a table: from any fresh table, whatever is called, the table stays well-formed, so that refusal 7 is never given.
use Rattle.std.specs.Prelude.{◌≤◌, ◌≡◌}
use Rattle.rendezvous.specs.Table.{most_processes, fresh_table}
use Rattle.rendezvous.specs.WellFormed.{well_formed}
use Rattle.rendezvous.specs.Run.{Call, table_after_all}
use Rattle.history.specs.Types.{ℕ, true, List}

abbrev pub StaysWellFormed : Type 0
StaysWellFormed = (n d : ℕ) → 2 ≤ n → n ≤ most_processes → 1 ≤ d → (calls : List Call) → well_formed (table_after_all (fresh_table n d) calls) ≡ true
