-- A script without a `^` goes on with tables in which no guard has a rank.
use Rattle.std.specs.Prelude.{Option, Some, None, is_err}
use Prim.Native.Nat.{ℕ}
use Prim.Native.Char.{code}
use mathlib.Core.Path.{◌≡◌, refl}
use mathlib.Core.Bool.{Bool, true, false, cond}
use mathlib.Core.List.{List, [], ◌∷◌, ◌++◌}
use lib.ListN.{length}
use lib.Dec.{eqb, leb}
use Rattle.rendezvous.specs.Refusals.{create_verdict, table_verdict}
use Rattle.rendezvous.specs.Table.{fresh_table}
use Rattle.rendezvous.specs.Calls.{create}
use Rattle.rendezvous.specs.Movers.{runnable}
use Rattle.rendezvous.specs.Commands.{reply_to_command}
use Rattle.rendezvous.specs.WithoutRanks.{AsBefore}
use Rattle.rendezvous.proofs.Unranked.{BareTable, bare-search, call-bare, if-bare, fresh-bare}
use Rattle.command.specs.Commands.{command_of}
use Rattle.command.specs.KindLeftOut.{Lacks}
use Rattle.command.proofs.Unranked.{BareOffer, rank-left-out}
use Rattle.script.specs.Types.{ProcessTable, Reply, Offer, Step, Collect, Withdraw, Command, New, Do, Movers}
use Rattle.script.specs.Printing.{command_text, end_of_line}
use Rattle.script.specs.Lines.{Ended, most_bytes, lines_from, line_command}
use Rattle.script.specs.Session.{reply_from, answered, turn}
use Rattle.script.specs.WithoutRanks.{IfMade, EachTable, WithoutRanks}

-- the table, if there is one, has no ranks
abbrev Bare : Option ProcessTable → Type 0
Bare table = IfMade BareTable table

as_before : (table : Option ProcessTable) → Bare table → IfMade AsBefore table
as_before None bare = tt
as_before (Some t) bare = bare-search t bare

create-bare : (n d : ℕ) → BareTable (create n d).table
unfolding create
create-bare n d = if-bare (create_verdict n d) (fresh_table 0 0) _ (fresh-bare 0 0) (fresh-bare n d)

reply-bare : (t : ProcessTable) (c : Command) → BareTable t → BareOffer (Some c) → BareTable (reply_to_command t c).table
unfolding reply_to_command runnable
reply-bare t (New n d) bare h = create-bare n d
reply-bare t (Do (Offer p gs)) bare h = call-bare t bare (Offer p gs) (h p gs refl)
reply-bare t (Do (Step p)) bare h = call-bare t bare (Step p) tt
reply-bare t (Do (Collect p)) bare h = call-bare t bare (Collect p) tt
reply-bare t (Do (Withdraw p)) bare h = call-bare t bare (Withdraw p) tt
reply-bare t Movers bare h = if-bare (table_verdict t) t _ bare bare

answered-bare : (table : Option ProcessTable) (command : List ℕ) (reply : Reply) → Bare table → BareTable reply.table → Bare (answered table command reply).table
unfolding answered
answered-bare table command reply bare after = go (is_err reply.answer)
  where
    go : (refused : Bool) → Bare (cond refused table (Some reply.table))
    go true = bare
    go false = after

turn-bare : (table : Option ProcessTable) (c : Option Command) → Bare table → BareOffer c → Bare (turn table c).table
unfolding turn reply_from
turn-bare table None bare h = bare
turn-bare (Some t) (Some c) bare h = answered-bare (Some t) (command_text c) (reply_to_command t c) bare (reply-bare t c bare h)
turn-bare None (Some (New n d)) bare h = answered-bare None (command_text (New n d)) (create n d) bare (create-bare n d)
turn-bare None (Some (Do c)) bare h = tt
turn-bare None (Some Movers) bare h = tt

line-bare : (line : List ℕ) → Lacks (code "^") line → BareOffer (line_command (Ended line))
unfolding line_command
line-bare line lacks = go (leb (length line) most_bytes)
  where
    go : (fits : Bool) → BareOffer (cond fits (command_of line) None)
    go true = λ p gs. rank-left-out.lines line p gs lacks
    go false = λ p gs e k h f. cc

lacks-more : (c b : ℕ) (bs : List ℕ) → Lacks c bs → (b ≡ c → ⊥) → Lacks c (bs ++ b ∷ [])
lacks-more c b [] h n = (n, tt)
lacks-more c b (a ∷ bs) h n = (h.0, lacks-more c b bs h.1 n)

-- a begun line, and the bytes that follow it
each-table : (input begun : List ℕ) → Lacks (code "^") begun → Lacks (code "^") input → (table : Option ProcessTable) → Bare table → EachTable AsBefore table (lines_from begun input)
unfolding EachTable lines_from line_command
each-table [] [] before after table bare = as_before table bare
each-table [] (b ∷ begun) before after table bare = (as_before table bare, as_before (turn table None).table (turn-bare table None bare (λ p gs e k h f. cc)))
each-table (b ∷ bs) begun before after table bare = go (eqb b end_of_line) (each-table bs [] tt after.1) (each-table bs (begun ++ b ∷ []) (lacks-more (code "^") b begun before after.0) after.1)
  where
    go : (ends : Bool) → ((table : Option ProcessTable) → Bare table → EachTable AsBefore table (lines_from [] bs)) → ((table : Option ProcessTable) → Bare table → EachTable AsBefore table (lines_from (begun ++ b ∷ []) bs))
        → EachTable AsBefore table (cond ends (Ended begun ∷ lines_from [] bs) (lines_from (begun ++ b ∷ []) bs))
    go true next more = (as_before table bare, next (turn table (line_command (Ended begun))).table (turn-bare table (line_command (Ended begun)) bare (line-bare begun before)))
    go false next more = more table bare

pub without-ranks : WithoutRanks
without-ranks input lacks = each-table input [] tt lacks None tt
