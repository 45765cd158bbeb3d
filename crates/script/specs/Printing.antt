-- To be believed. Document 01, "The script program", and CR 1 of document 02: the line that is printed for a command and what its call says.
use Rattle.std.specs.Prelude.{ℕ, List, [], ◌∷◌, ◌++◌, Some, None}
use Prim.Native.Char.{code}
use Rattle.std.specs.Float.{binary32}
use Rattle.std.specs.Float.Ieee.{to_bits}
use Rattle.text.specs.Writing.{decimal_text, whole_text, hex_text}
use Rattle.rendezvous.specs.Numbers.{Said, made, ticket, place, same, outcome, withdrawn, too_late, movers, refusal}
use Rattle.script.specs.Types.{Message, Offer, Step, Collect, Withdraw, Command, New, Do, Movers}

-- "the message as a guard writes it": "`0` nothing, `w` and a decimal .., `r` and eight lower-case hexadecimal digits of the f32's bits, `l` and sixteen such digits"
unfoldable pub message_text : Message → List ℕ
message_text Message.Nothing = code "0" ∷ []
message_text (Message.Whole x) = code "w" ∷ whole_text x
message_text (Message.Reading x) = code "r" ∷ hex_text (to_bits binary32 x)
message_text (Message.Limit low high) = code "l" ∷ hex_text (to_bits binary32 low) ++ hex_text (to_bits binary32 high)

-- "fields parted by one space": a field, and the space before it
abbrev pub field : List ℕ → List ℕ
field bytes = code " " ∷ bytes

-- "A refused line prints `x`, a space and the number"
abbrev pub refusal_text : ℕ → List ℕ
refusal_text k = code "x" ∷ field (decimal_text k)

-- how the line of an accepted command begins: "An `n` line shows N alone", an `o`, `s` or `c` line "the party"; "`w P` prints `w`, P and"
abbrev pub command_text : Command → List ℕ
command_text (New n d) = code "n" ∷ field (decimal_text n)
command_text (Do (Offer p gs)) = code "o" ∷ field (decimal_text p)
command_text (Do (Step p)) = code "s" ∷ field (decimal_text p)
command_text (Do (Collect p)) = code "c" ∷ field (decimal_text p)
command_text (Do (Withdraw p)) = code "w" ∷ field (decimal_text p)
command_text Movers = code "m" ∷ []

-- .. and how it goes on: "`t` with the ticket"; "the place letter, with the guard index at A, T and C"; "A step without change prints `=` for the place."; "guard
-- index, partner, and the message"; "`ok` or `late`"; "the set as eight lower-case hexadecimal digits"
unfoldable pub answer_text : List ℕ → Said → List ℕ
answer_text command made = command
answer_text command (ticket t) = command ++ field (code "t" ∷ decimal_text t)
answer_text command (place letter None) = command ++ field (letter ∷ [])
answer_text command (place letter (Some i)) = command ++ field (letter ∷ decimal_text i)
answer_text command same = command ++ field (code "=" ∷ [])
answer_text command (outcome i q m) = command ++ field (decimal_text i) ++ field (decimal_text q) ++ field (message_text m)
answer_text command withdrawn = command ++ field (code "o" ∷ code "k" ∷ [])
answer_text command too_late = command ++ field (code "l" ∷ code "a" ∷ code "t" ∷ code "e" ∷ [])
answer_text command (movers set) = command ++ field (hex_text set)
answer_text command (refusal k) = refusal_text k

-- "each line ended by byte 10"
abbrev pub end_of_line : ℕ
end_of_line = 10

abbrev pub ended : List ℕ → List ℕ
ended line = line ++ end_of_line ∷ []
