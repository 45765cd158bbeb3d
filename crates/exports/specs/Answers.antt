-- To be believed. What an exported call hands back: the bytes of the table, those of the answer, and whether the table given and both buffers were long enough.
use Rattle.std.specs.Prelude.{◌≡◌, ◌&&◌, ◌∷◌, ◌++◌, Option, Some, None}
use Rattle.rendezvous.specs.Numbers.{Said, said, made, ticket, place, same, outcome, withdrawn, too_late, movers, refusal}
use Rattle.wire.specs.Claims.{Faithful}
use Rattle.wire.specs.Layout.{table_length}
use Rattle.wire.specs.Writing.{word_bytes, message_bytes, bytes_of}
use Rattle.exports.specs.Layout.{answer_length}
use Rattle.exports.specs.Types.{ℕ, Bool, true, cond, List, [], flatten, length, drop, leb, Message, Reply}

-- the variant of answer and two bytes, a message, a word
abbrev pub answer_parts : ℕ → ℕ → ℕ → Message → ℕ → List (List ℕ)
answer_parts variant a b m word = (variant ∷ a ∷ b ∷ []) ∷ message_bytes m ∷ word_bytes word ∷ []

abbrev pub laid_out : ℕ → ℕ → ℕ → Message → ℕ → List ℕ
laid_out variant a b m word = flatten (answer_parts variant a b m word)

-- a guard index, 0 where there is none
abbrev pub index_byte : Option ℕ → ℕ
index_byte None = 0
index_byte (Some i) = i

-- By the documents' numbers and letters: a step's place by its letter and its guard index; an outcome by guard index, partner and message; a
-- refusal by its number; a ticket and the set of movers as the word; what a withdrawal says by the variant alone.
abbrev pub said_bytes : Said → List ℕ
said_bytes made = laid_out 0 0 0 Message.Nothing 0
said_bytes (ticket t) = laid_out 1 0 0 Message.Nothing t
said_bytes (place letter index) = laid_out 2 letter (index_byte index) Message.Nothing 0
said_bytes same = laid_out 3 0 0 Message.Nothing 0
said_bytes (outcome i q m) = laid_out 4 i q m 0
said_bytes (movers set) = laid_out 5 0 0 Message.Nothing set
said_bytes (refusal number) = laid_out 6 number 0 Message.Nothing 0
said_bytes withdrawn = laid_out 7 0 0 Message.Nothing 0
said_bytes too_late = laid_out 8 0 0 Message.Nothing 0

-- whether bytes are enough for a table
abbrev pub is_table : List ℕ → Bool
is_table bytes = leb table_length (length bytes)

-- The buffers as they were and as they are left, and what the call returns: whether the table that it reads (`read`) and both buffers are long enough. If one of them is not,
-- nothing is written at all; else the bytes stand at the front of each buffer, and the next call reads the bytes as the very table that this one hands back.
pub record Gives (read : Bool) (reply : Reply) (table answer table' answer' : List ℕ) (whole : Bool) : Type 0 where
  pub enough : whole ≡ (read && is_table table && leb answer_length (length answer))
  pub table_given : table' ≡ cond whole (bytes_of reply.table ++ drop table_length table) table
  pub answer_given : answer' ≡ cond whole (said_bytes (said reply.answer) ++ drop answer_length answer) answer
  pub faithful : whole ≡ true → Faithful reply.table
