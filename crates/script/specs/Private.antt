-- Not to be believed: what inner contracts cite; no contract of a public function does.
use Rattle.std.specs.Prelude.{ℕ, ◌+◌, cond, List, [], ◌∷◌, ◌++◌, length, take, drop, leb, Option, Some, None, Result, is_err}
use Prim.Native.Char.{code}
use Rattle.text.specs.Writing.{decimal_text, line_length}
use Rattle.command.specs.declared.Call.{Call as CallInCode}
use Rattle.command.specs.declared.Command.{Command as InCode}
use Rattle.rendezvous.specs.declared.Act.{Act}
use Rattle.rendezvous.specs.Forms.{Form}
use Rattle.rendezvous.specs.declared.Head.{Head}
use Rattle.rendezvous.specs.Types.{Process}
use Rattle.rendezvous.specs.Calls.{create, offer_list, step, collect, withdraw}
use Rattle.rendezvous.specs.Movers.{runnable}
use Rattle.rendezvous.specs.Acts.{offer_act, step_act, collect_act, withdraw_act}
use Rattle.rendezvous.specs.Numbers.{said}
use Rattle.script.specs.Types.{ProcessTable, Answer, Reply}
use Rattle.script.specs.Printing.{field, answer_text, ended}
use Rattle.rendezvous.specs.declared.Refusal.{Refusal}

-- the process that a call is of
abbrev pub process_of : CallInCode → ℕ
process_of (CallInCode.Offer p list) = p
process_of (CallInCode.Step p) = p
process_of (CallInCode.Collect p) = p
process_of (CallInCode.Withdraw p) = p

-- a call's act, from what was read
abbrev pub line_act : CallInCode → Form → Head → Process → ℕ → Process → Act
line_act (CallInCode.Offer p list) form h x q y = offer_act form h p x list
line_act (CallInCode.Step p) form h x q y = step_act form h p x q y
line_act (CallInCode.Collect p) form h x q y = collect_act form h p x
line_act (CallInCode.Withdraw p) form h x q y = withdraw_act form h p x

-- the reply to a call of one process
abbrev pub called_by : ProcessTable → CallInCode → Reply
called_by t (CallInCode.Offer p list) = offer_list t p list
called_by t (CallInCode.Step p) = step t p
called_by t (CallInCode.Collect p) = collect t p
called_by t (CallInCode.Withdraw p) = withdraw t p

-- the reply to a command of the code, its answer, and the table with which reading goes on
abbrev pub reply_in_code : Option ProcessTable → InCode → Option Reply
reply_in_code table (InCode.New n d) = Some (create n d)
reply_in_code (Some t) (InCode.Do call) = Some (called_by t call)
reply_in_code (Some t) InCode.Movers = Some (runnable t)
reply_in_code None (InCode.Do call) = None
reply_in_code None InCode.Movers = None

abbrev pub answer_of : Option Reply → Option (Result Answer Refusal)
answer_of None = None
answer_of (Some reply) = Some reply.answer

abbrev pub goes_on_with : Option ProcessTable → Option Reply → Option ProcessTable
goes_on_with table None = table
goes_on_with table (Some reply) = cond (is_err reply.answer) table (Some reply.table)

-- a text put into an output at index `at`, and the index after it; where there is no room for a line, nothing is
abbrev pub put_at : ℕ → List ℕ → List ℕ → List ℕ
put_at at text out = cond (leb (at + line_length) (length out)) (take at out ++ text ++ drop (at + length text) out) out

abbrev pub put_end : ℕ → List ℕ → List ℕ → ℕ
put_end at text out = cond (leb (at + line_length) (length out)) (at + length text) at

-- the line of a call, and its answer, and that of any command
abbrev pub call_text : CallInCode → Result Answer Refusal → List ℕ
call_text (CallInCode.Offer p list) answer = ended (answer_text (code "o" ∷ field (decimal_text p)) (said answer))
call_text (CallInCode.Step p) answer = ended (answer_text (code "s" ∷ field (decimal_text p)) (said answer))
call_text (CallInCode.Collect p) answer = ended (answer_text (code "c" ∷ field (decimal_text p)) (said answer))
call_text (CallInCode.Withdraw p) answer = ended (answer_text (code "w" ∷ field (decimal_text p)) (said answer))

abbrev pub line_text : InCode → Result Answer Refusal → List ℕ
line_text (InCode.New n d) answer = ended (answer_text (code "n" ∷ field (decimal_text n)) (said answer))
line_text (InCode.Do call) answer = call_text call answer
line_text InCode.Movers answer = ended (answer_text (code "m" ∷ []) (said answer))
