-- Laws of what is printed: no line has more bytes than a text keeps, so it keeps all of them.
use Rattle.std.specs.Prelude.{Option, Some, None, Result, Ok, Err}
use Prim.Native.Nat.{ℕ, ◌+◌, ◌≤◌}
use mathlib.Core.Path.{◌≡◌, ◌∙◌}
use mathlib.Core.List.{List, [], ◌∷◌, ◌++◌}
use native.Mathlib.Omega.{arith}
use borrow.Author.Rules.{rules}
use lib.ListN.{length, length-append}
use lib.Ieee.{binary32, to_bits}
use mir.Val.{Val}
use denote.Shadow.{shadow}
use Rattle.text.specs.Writing.{capped, decimal_text}
use Rattle.text.proofs.Capped.{capped-short}
use Rattle.text.proofs.Printed.{decimal-text-length, byte-text-length, whole-text-length, hex-text-length}
use Rattle.rendezvous.specs.Numbers.{place, refusal_number, said}
use Rattle.std.specs.contracts.result.Result as either
use Rattle.rendezvous.specs.contracts.Answer as answer
use Rattle.rendezvous.specs.contracts.Refusal as refusal
use Rattle.script.specs.Types.{Message, Answer}
use Rattle.script.specs.Printing.{message_text, field, refusal_text, answer_text, ended}
use Rattle.process.specs.Process.{letter_of, index_of}
use Rattle.rendezvous.specs.declared.Refusal.{Refusal}

message-length : (m : Message) → length (message_text m) ≤ 22
unfolding message_text
message-length Message.Nothing = omega arith
message-length (Message.Whole x) = omega (arith, whole-text-length x)
message-length (Message.Reading x) = omega (arith, hex-text-length (to_bits binary32 x))
message-length (Message.Limit low high) = simp length-append (omega (arith, hex-text-length (to_bits binary32 low), hex-text-length (to_bits binary32 high)))

place-length : (command : List ℕ) (letter : ℕ) (index : Option ℕ) → length (answer_text command (place letter index)) ≤ length command + 22
unfolding answer_text
place-length command letter None = simp length-append (omega arith)
place-length command letter (Some i) = simp length-append (omega (arith, decimal-text-length i))

-- A command's text has 22 bytes at most, and what is put after it 31: an outcome's guard index and partner are bytes, as owning the answer tells. With any two
-- numbers in their places, the text would be longer than a line.
answer-length : (command : List ℕ) (a : Result Answer Refusal) (vs : List Val) → shadow ((either.the_row answer.the_row refusal.the_row).own_val a vs) → length command ≤ 22 → length (answer_text command (said a)) ≤ 53
unfolding answer_text
answer-length command (Ok Answer.Made) vs o h = omega arith
answer-length command (Ok (Answer.Offered t)) vs o h = simp length-append (omega (arith, decimal-text-length t.0))
answer-length command (Ok (Answer.Moved at)) vs o h = omega (arith, place-length command (letter_of at) (index_of at))
answer-length command (Ok Answer.Unchanged) vs o h = simp length-append (omega arith)
answer-length command (Ok (Answer.Collected i q m)) vs o h = simp length-append (omega (arith, byte-text-length i (search rules), byte-text-length q (search rules), message-length m))
answer-length command (Ok Answer.Withdrawn) vs o h = simp length-append (omega arith)
answer-length command (Ok Answer.TooLate) vs o h = simp length-append (omega arith)
answer-length command (Ok (Answer.Runnable set)) vs o h = simp length-append (omega (arith, hex-text-length set))
answer-length command (Err r) vs o h = omega (arith, decimal-text-length (refusal_number r))

pub line-text : {begun text : List ℕ} (command : List ℕ) (a : Result Answer Refusal) (vs : List Val) → shadow ((either.the_row answer.the_row refusal.the_row).own_val a vs) → length command ≤ 22 → begun ≡ command
    → text ≡ capped (ended (answer_text begun (said a))) → text ≡ ended (answer_text command (said a))
line-text command a vs o h b e = e ∙ rw b (capped-short (ended (answer_text command (said a))) (simp length-append (omega (arith, answer-length command a vs o h))))

pub number-length : (letter n : ℕ) → length (letter ∷ field (decimal_text n)) ≤ 22
number-length letter n = omega (arith, decimal-text-length n)

pub number-capped : (letter n : ℕ) → capped (letter ∷ field (decimal_text n)) ≡ letter ∷ field (decimal_text n)
number-capped letter n = capped-short (letter ∷ field (decimal_text n)) (omega (arith, decimal-text-length n))

-- a text of one letter
pub letter-capped : (letter : ℕ) {empty one : List ℕ} → empty ≡ [] → one ≡ capped (empty ++ letter ∷ []) → one ≡ letter ∷ []
letter-capped letter e f = f ∙ rw e (capped-short (letter ∷ []) (omega arith))

pub refusal-capped : (k : ℕ) → capped (ended (refusal_text k)) ≡ ended (refusal_text k)
refusal-capped k = capped-short (ended (refusal_text k)) (simp length-append (omega (arith, decimal-text-length k)))
