-- Laws of one line's turn: what the code does with a command, and the table with which reading goes on.
use Rattle.std.specs.Prelude.{Option, Some, None, Result, Ok, Err, ⊤, is_err}
use Prim.Native.Nat.{ℕ, ◌%◌}
use mathlib.Core.Path.{◌≡◌, refl, ap, ◌∙◌, sym}
use mathlib.Core.Bool.{Bool, true, false, cond}
use mathlib.Core.List.{List}
use Rattle.alternative.specs.Guards.{lent}
use Rattle.command.specs.declared.Call.{Call as CallInCode}
use Rattle.command.specs.declared.Command.{Command as InCode}
use Rattle.command.specs.InCode.{in_code, as_parsed}
use Rattle.std.proofs.lemmas.Option.{same_Some, none-some}
use Rattle.process.specs.Rules.{Effect, Neither, Own, Both, partner_of}
use Rattle.process.proofs.PlaceCases.{if-met}
use Rattle.rendezvous.specs.declared.Act.{Act}
use Rattle.rendezvous.specs.Forms.{Form}
use Rattle.rendezvous.specs.Table.{most_processes, process}
use Rattle.rendezvous.specs.Refusals.{offer_verdict, process_verdict, table_verdict, withdraw_verdict}
use Rattle.rendezvous.specs.Calls.{if_accepted, offered, offer_list, effect_on, applied, stepped, step, collect, commit_came_first, withdrawn_or_late, withdraw}
use Rattle.rendezvous.specs.Movers.{runnable}
use Rattle.rendezvous.specs.Run.{Call, reply_to}
use Rattle.rendezvous.specs.Commands.{reply_to_command}
use Rattle.rendezvous.specs.Acts.{done, FormOf}
use Rattle.rendezvous.specs.declared.Refusal.{Refusal}
use Rattle.process.specs.declared.Process.{Process}
use Rattle.script.specs.Types.{GuardList, ProcessTable, Answer, Reply, Offer, Step, Collect, Withdraw, Command, New, Do, Movers}
use Rattle.script.specs.Printing.{refusal_text, ended}
use Rattle.script.specs.Session.{reply_from, Turn, malformed, answered, turn}
use Rattle.script.specs.Private.{process_of, line_act, called_by, reply_in_code, answer_of, goes_on_with, line_text}
use Rattle.rendezvous.proofs.Done.{offer-done, step-done, collect-done, withdraw-done}

-- "It returns its number and the desk received": refused or not, reading goes on with the table of a call's reply
unfoldable GoesOn : ProcessTable → Reply → Type 0
GoesOn t reply = cond (is_err reply.answer) (Some t) (Some reply.table) ≡ Some reply.table

if-goes : (v : Result ⊤ Refusal) (t : ProcessTable) (reply : Reply) → GoesOn t reply → GoesOn t (if_accepted v t reply)
unfolding GoesOn
if-goes (Ok tt) t reply h = h
if-goes (Err r) t reply h = refl

applied-goes : (t : ProcessTable) (p q : ℕ) (e : Effect) → GoesOn t (applied t p q e)
unfolding GoesOn
applied-goes t p q Neither = refl
applied-goes t p q (Own x) = refl
applied-goes t p q (Both x y) = refl

withdrawn-goes : (t : ProcessTable) (p : ℕ) (first : Bool) → GoesOn t (withdrawn_or_late t p (process t p) first)
unfolding GoesOn
withdrawn-goes t p true = refl
withdrawn-goes t p false = refl

offered-goes : (t : ProcessTable) (p : ℕ) (list : GuardList) → GoesOn t (offered t p list)
unfolding GoesOn offered
offered-goes t p list = refl

call-goes : (t : ProcessTable) (c : Call) → GoesOn t (reply_to t c)
unfolding GoesOn reply_to offer_list offered step stepped collect withdraw
call-goes t (Offer p gs) = if-goes (offer_verdict t p (lent gs)) t _ refl
call-goes t (Step p) = if-goes (process_verdict t p) t _ (applied-goes t p (partner_of (process t p)) (effect_on t p))
call-goes t (Collect p) = if-goes (process_verdict t p) t _ (if-met (GoesOn t) _ _ (process t p).place (λ i m e. refl) refl)
call-goes t (Withdraw p) = if-goes (withdraw_verdict t p) t _ (withdrawn-goes t p (commit_came_first (process t p).place (process t p).accepting))

movers-goes : (t : ProcessTable) → GoesOn t (runnable t)
unfolding GoesOn runnable
movers-goes t = if-goes (table_verdict t) t _ refl

-- what a line's act does, carried out where it was read, is the call
line-done : (t : ProcessTable) (call : CallInCode) (form : Form) (x y : Process) (q : ℕ) (act : Act) → let at = process_of call % most_processes in FormOf t form → x ≡ process t at → q ≡ partner_of x
    → y ≡ process t (q % most_processes) → act ≡ line_act call form t.head x q y → done t at (q % most_processes) act ≡ called_by t call
line-done t (CallInCode.Offer p list) form x y q act told own named other e = offer-done t p form told x own act list (q % most_processes) e
line-done t (CallInCode.Step p) form x y q act told own named other e = step-done t p form told x own act q y named other e
line-done t (CallInCode.Collect p) form x y q act told own named other e = collect-done t p form told x own act (q % most_processes) e
line-done t (CallInCode.Withdraw p) form x y q act told own named other e = withdraw-done t p form told x own act (q % most_processes) e

-- .. where p is its process
pub call-done : (t : ProcessTable) (call : CallInCode) (p : ℕ) (form : Form) (x y : Process) (q : ℕ) (act : Act) → p ≡ process_of call → FormOf t form → x ≡ process t (p % most_processes) → q ≡ partner_of x
    → y ≡ process t (q % most_processes) → act ≡ line_act call form t.head x q y → done t (p % most_processes) (q % most_processes) act ≡ called_by t call
call-done t call p form x y q act of told own named other e = rw of (line-done t call form x y q act told (rw of at own) named other e)

movers-leave : (v : Result ⊤ Refusal) (t : ProcessTable) (answer : Result Answer Refusal) → (if_accepted v t (record { answer = answer; table = t })).table ≡ t
movers-leave (Ok tt) t answer = refl
movers-leave (Err r) t answer = refl

movers-table : (t : ProcessTable) → (runnable t).table ≡ t
unfolding runnable
movers-table t = movers-leave (table_verdict t) t _

-- with which table reading goes on after a call of one process, and after `m`, which leaves it
pub after-call : (t : ProcessTable) (call : CallInCode) → goes_on_with (Some t) (Some (called_by t call)) ≡ Some (called_by t call).table
unfolding GoesOn reply_to offer_list
after-call t (CallInCode.Offer p list) = if-goes (offer_verdict t p list) t _ (offered-goes t p list)
after-call t (CallInCode.Step p) = call-goes t (Step p)
after-call t (CallInCode.Collect p) = call-goes t (Collect p)
after-call t (CallInCode.Withdraw p) = call-goes t (Withdraw p)

pub after-movers : (t : ProcessTable) → goes_on_with (Some t) (Some (runnable t)) ≡ Some t
unfolding GoesOn
after-movers t = movers-goes t ∙ ap (λ (u : ProcessTable). Some u) (movers-table t)

-- a command's turn, as the code goes by it
abbrev pub turn_in_code : Option ProcessTable → InCode → Option Reply → Turn
turn_in_code table k None = malformed table
turn_in_code table k (Some reply) = record { prints = line_text k reply.answer; table = goes_on_with table (Some reply) }

turned : (table : Option ProcessTable) (c : Command) → turn_in_code table (in_code c) (reply_in_code table (in_code c)) ≡ turn table (Some c)
unfolding turn reply_from reply_to_command reply_to answered
turned None (New n d) = refl
turned None (Do (Offer p gs)) = refl
turned None (Do (Step p)) = refl
turned None (Do (Collect p)) = refl
turned None (Do (Withdraw p)) = refl
turned None Movers = refl
turned (Some t) (New n d) = refl
turned (Some t) (Do (Offer p gs)) = refl
turned (Some t) (Do (Step p)) = refl
turned (Some t) (Do (Collect p)) = refl
turned (Some t) (Do (Withdraw p)) = refl
turned (Some t) Movers = refl

-- by the command that the code has of a line
pub no-command : (table : Option ProcessTable) (o : Option Command) → None ≡ as_parsed o → malformed table ≡ turn table o
unfolding turn
no-command table None e = refl
no-command table (Some c) e = absurd (none-some _ e)

some-command : (table : Option ProcessTable) (o : Option Command) (k : InCode) → Some k ≡ as_parsed o → turn_in_code table k (reply_in_code table k) ≡ turn table o
some-command table None k e = absurd (none-some _ (sym e))
some-command table (Some c) k e = rw (same_Some k (in_code c) e) (turned table c)

-- .. where it has an answer, and where it has none
module _ (table : Option ProcessTable) (o : Option Command) (k : InCode) (read : Some k ≡ as_parsed o) (left : Option ProcessTable) (text : List ℕ) where
  pub turn-answered : (said : Result Answer Refusal) → Some said ≡ answer_of (reply_in_code table k) → left ≡ goes_on_with table (reply_in_code table k) → text ≡ line_text k said
      → (text ≡ (turn table o).prints) × (left ≡ (turn table o).table)
  turn-answered said = go (reply_in_code table k) (some-command table o k read)
    where
      go : (r : Option Reply) → turn_in_code table k r ≡ turn table o → Some said ≡ answer_of r → left ≡ goes_on_with table r → text ≡ line_text k said → (text ≡ (turn table o).prints) × (left ≡ (turn table o).table)
      go None h a t p = absurd (none-some _ (sym a))
      go (Some r) h a t p = (p ∙ ap (line_text k) (same_Some said r.answer a) ∙ ap (λ (u : Turn). u.prints) h, t ∙ ap (λ (u : Turn). u.table) h)

  pub turn-unanswered : None ≡ answer_of (reply_in_code table k) → left ≡ goes_on_with table (reply_in_code table k) → text ≡ ended (refusal_text 8) → (text ≡ (turn table o).prints) × (left ≡ (turn table o).table)
  turn-unanswered = go (reply_in_code table k) (some-command table o k read)
    where
      go : (r : Option Reply) → turn_in_code table k r ≡ turn table o → None ≡ answer_of r → left ≡ goes_on_with table r → text ≡ ended (refusal_text 8) → (text ≡ (turn table o).prints) × (left ≡ (turn table o).table)
      go None h a t p = (p ∙ ap (λ (u : Turn). u.prints) h, t ∙ ap (λ (u : Turn). u.table) h)
      go (Some r) h a t p = absurd (none-some _ a)
