-- The table with which a script ends was reached from a fresh one by calls, so that its sheet adds up.
use Rattle.std.specs.Prelude.{Option, Some, None, Result, Ok, Err, ⊤, is_err}
use Prim.Native.Nat.{ℕ, ◌≤◌}
use mathlib.Core.Path.{◌≡◌, refl, sym, ap, ◌∙◌, subst⁻¹}
use mathlib.Core.Bool.{Bool, true, false, cond, true≢false}
use mathlib.Core.List.{List, [], ◌∷◌, ◌++◌}
use lib.Dec.{leb}
use borrow.Author.Tests.{leb-true}
use Rattle.alternative.proofs.Tests.{and_parts}
use Rattle.rendezvous.specs.declared.ProcessTable.{ProcessTable}
use Rattle.rendezvous.specs.declared.Answer.{Answer}
use Rattle.rendezvous.specs.declared.Refusal.{Refusal}
use Rattle.rendezvous.specs.declared.Reply.{Reply}
use Rattle.rendezvous.specs.Table.{most_processes, fresh_table}
use Rattle.rendezvous.specs.WellFormed.{count_fits, nap_fits}
use Rattle.rendezvous.specs.Refusals.{create_verdict, table_verdict}
use Rattle.rendezvous.specs.Calls.{if_accepted, create}
use Rattle.rendezvous.specs.Movers.{runnable_set, runnable}
use Rattle.rendezvous.specs.Run.{Call, table_after, after_all, table_after_all}
use Rattle.rendezvous.specs.Commands.{Command, New, Do, Movers, reply_to_command}
use Rattle.rendezvous.proofs.Verdicts.{passed}
use Rattle.history.specs.Machine.{made_by_all}
use Rattle.history.specs.Tables.{tables}
use Rattle.history.specs.DaySheet.{SheetOf}
use Rattle.history.proofs.DaySheet.{day-sheet}
use Rattle.script.specs.Printing.{command_text}
use Rattle.script.specs.Lines.{Line, lines_from, line_command}
use Rattle.script.specs.Session.{reply_from, answered, turn}
use Rattle.script.specs.WithoutRanks.{IfMade}
use Rattle.sheet.specs.Sheet.{table_after as table_at_end}
use Rattle.sheet.specs.AddsUp.{Signed, SheetAddsUp}

-- calls have led to a table from a fresh one that is made
record Reached (t : ProcessTable) : Type 0 where
  n : ℕ
  d : ℕ
  least : 2 ≤ n
  most : n ≤ most_processes
  naps : 1 ≤ d
  calls : List Call
  is : t ≡ table_after_all (fresh_table n d) calls

fresh-reached : (n d : ℕ) → create_verdict n d ≡ Ok tt → Reached (fresh_table n d)
unfolding create_verdict count_fits nap_fits after_all
fresh-reached n d e =
    let a = passed (count_fits n) Refusal.ProcessCount _ e in
    let b = and_parts (leb 2 n) (leb n most_processes) a.0 in
    let c = passed (nap_fits d) Refusal.NapLength _ a.1 in
    record { n = n; d = d; least = leb-true 2 n b.0; most = leb-true n most_processes b.1; naps = leb-true 1 d c.0; calls = []; is = refl }

-- one call more
after_more : (t : ProcessTable) (calls : List Call) (c : Call) → table_after_all t (calls ++ c ∷ []) ≡ table_after (table_after_all t calls) c
unfolding after_all
after_more t [] c = refl
after_more t (d ∷ calls) c = after_more (table_after t d) calls c

call-reached : (t : ProcessTable) → Reached t → (c : Call) → Reached (table_after t c)
call-reached t r c = record {
  n = r.n;
  d = r.d;
  least = r.least;
  most = r.most;
  naps = r.naps;
  calls = r.calls ++ c ∷ [];
  is = ap (λ (u : ProcessTable). table_after u c) r.is ∙ sym (after_more (fresh_table r.n r.d) r.calls c);
}

-- an accepted `n`
create-reached : (n d : ℕ) → is_err (create n d).answer ≡ false → Reached (create n d).table
unfolding create
create-reached n d = go (create_verdict n d) refl
  where
    go : (v : Result ⊤ Refusal) → create_verdict n d ≡ v → let r = if_accepted v (fresh_table 0 0) (record { answer = Ok Answer.Made; table = fresh_table n d }) in is_err r.answer ≡ false → Reached r.table
    go (Ok tt) e h = fresh-reached n d e
    go (Err refusal) e h = absurd (true≢false h)

movers-same : (t : ProcessTable) → (runnable t).table ≡ t
unfolding runnable
movers-same t = go (table_verdict t)
  where
    go : (v : Result ⊤ Refusal) → (if_accepted v t (record { answer = Ok (Answer.Runnable (runnable_set t)); table = t })).table ≡ t
    go (Ok tt) = refl
    go (Err refusal) = refl

reply-reached : (t : ProcessTable) → Reached t → (c : Command) → is_err (reply_to_command t c).answer ≡ false → Reached (reply_to_command t c).table
unfolding reply_to_command
reply-reached t r (New n d) h = create-reached n d h
reply-reached t r (Do c) h = call-reached t r c
reply-reached t r Movers h = subst⁻¹ Reached (movers-same t) r

answered-reached : (table : Option ProcessTable) (command : List ℕ) (reply : Reply) → IfMade Reached table → (is_err reply.answer ≡ false → Reached reply.table)
    → IfMade Reached (answered table command reply).table
unfolding answered
answered-reached table command reply r after = go (is_err reply.answer) refl
  where
    go : (refused : Bool) → is_err reply.answer ≡ refused → IfMade Reached (cond refused table (Some reply.table))
    go true e = r
    go false e = after e

turn-reached : (table : Option ProcessTable) (c : Option Command) → IfMade Reached table → IfMade Reached (turn table c).table
unfolding turn reply_from
turn-reached table None r = r
turn-reached (Some t) (Some c) r = answered-reached (Some t) (command_text c) (reply_to_command t c) r (reply-reached t r c)
turn-reached None (Some (New n d)) r = answered-reached None (command_text (New n d)) (create n d) r (create-reached n d)
turn-reached None (Some (Do c)) r = tt
turn-reached None (Some Movers) r = tt

lines-reached : (table : Option ProcessTable) → IfMade Reached table → (lines : List Line) → IfMade Reached (table_at_end table lines)
unfolding table_at_end
lines-reached table r [] = r
lines-reached table r (line ∷ lines) = lines-reached (turn table (line_command line)).table (turn-reached table (line_command line) r) lines

signed : (table : Option ProcessTable) → IfMade Reached table → IfMade Signed table
signed None r = tt
signed (Some t) r =
    let fresh = fresh_table r.n r.d in
    let run = made_by_all tables fresh r.calls in
    record {
      n = r.n;
      d = r.d;
      calls = r.calls;
      reached = r.is;
      totals = subst⁻¹ (λ (u : ProcessTable). SheetOf fresh r.calls u run) r.is (day-sheet r.n r.d r.least r.most r.naps r.calls);
    }

pub sheet-adds-up : SheetAddsUp
sheet-adds-up input = signed (table_at_end None (lines_from [] input)) (lines-reached None tt (lines_from [] input))
