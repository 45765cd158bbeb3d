-- To be believed. How many bytes an answer and a session take, and where in them each part stands. A part without a name here is one byte, and stands behind the one
-- before it.
use Rattle.std.specs.Prelude.{◌+◌, ◌≡◌}
use Rattle.text.specs.Writing.{line_length}
use Rattle.script.specs.Lines.{begun_length}
use Rattle.wire.specs.Layout.{word_length, message_length, table_length}
use Rattle.exports.specs.Types.{ℕ}

-- an answer: its variant, two bytes, a message, a word
abbrev pub message_at : ℕ
message_at = 3

abbrev pub word_at : ℕ
word_at = message_at + message_length

abbrev pub answer_length : ℕ
answer_length = word_at + word_length

-- a session: whether a table was made, how many bytes the begun line has, room for as many as it may have, the table
abbrev pub begun_at : ℕ
begun_at = 2

abbrev pub table_at : ℕ
table_at = begun_at + begun_length

abbrev pub session_length : ℕ
session_length = table_at + table_length

-- The numbers that docs/BYTES.md gives: where the word of an answer stands, and how long an answer is; where the table of a session stands, and how long a session is. And
-- the one that rendezvous.h gives: how long a printed line is at most.
abbrev pub AnswerAndSession : Type 0
AnswerAndSession = (word_at ≡ 12) × (answer_length ≡ 16) × (table_at ≡ 203) × (session_length ≡ 8353) × (line_length ≡ 64)
