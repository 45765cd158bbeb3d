-- To be believed. CR 5 of document 02, a rank is "0 if left out": in a script without a `^`, rule 7 keeps the first guard that matches, as in document 01. The function `without_ranks`
-- carries this claim, of each table with which such a script goes on. (That its lines are read as document 01 and CR 2 have them says `RankLeftOut` of command; and of rules, calls and
-- lines nothing else than rule 7's search looks at a rank.)
use Rattle.std.specs.Prelude.{ℕ, List, [], ◌∷◌, Option, Some, None}
use Prim.Native.Char.{code}
use Rattle.rendezvous.specs.WithoutRanks.{AsBefore}
use Rattle.command.specs.KindLeftOut.{Lacks}
use Rattle.script.specs.Types.{ProcessTable}
use Rattle.script.specs.Lines.{Line, lines_from, line_command}
use Rattle.script.specs.Session.{turn}

-- the table, if there is one
abbrev pub IfMade : (ProcessTable → Type 0) → Option ProcessTable → Type 0
IfMade Fact None = Unit {0}
IfMade Fact (Some t) = Fact t

-- a fact of each table with which reading goes on, before each line and after the last
unfoldable pub EachTable : (ProcessTable → Type 0) → Option ProcessTable → List Line → Type 0
EachTable Fact table [] = IfMade Fact table
EachTable Fact table (line ∷ lines) = IfMade Fact table × EachTable Fact (turn table (line_command line)).table lines

abbrev pub WithoutRanks : Type 0
WithoutRanks = (input : List ℕ) → Lacks (code "^") input → EachTable AsBefore None (lines_from [] input)
