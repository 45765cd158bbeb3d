-- To be believed. What the programs make of what the operating system answers. Of `read` and `write` the language's contracts say how many bytes they moved, and nothing
-- of which bytes those were. So a pass of a program's loop is what the system answered in it, and the definitions say how the program goes on. The contracts say that
-- some passes explain where the program stands: that they are those it had is to be read in reading.rt.
use Rattle.std.specs.Prelude.{ℕ, zero, suc, ◌≡◌, Bool, true, false, cond, List, [], ◌∷◌, ◌≤◌, Option, Some, None, Result, Ok, Err, is_ok, ⊤, length, take}
use Rattle.text.specs.Ascii.{bytes}
use Rattle.script.specs.Feeding.{SessionState, fed, fed_pieces}
use Rattle.passes.specs.declared.Failure.{Failure}
use Rattle.passes.specs.declared.Failure.TheVariants.{Unreadable, Unwritable, Endless}

-- what a read answered: how many bytes it brought, none where it failed
abbrev pub answer : {E : Type 0} → Result ℕ E → Option ℕ
answer (Ok n) = Some n
answer (Err e) = None

-- what a read into n bytes may answer: that it failed, or how many bytes it brought, at most n
abbrev pub Moved : ℕ → Option ℕ → Type 0
Moved n None = ⊤
Moved n (Some k) = k ≤ n

-- what a read answered, the buffer after it, and whether all that the piece prints was written, which counts as true where the program throws it away; std promises
-- that a read fails, or brings no more than the buffer has
pub record Pass : Type 0 where
  pub got : Option ℕ
  pub buffer : List ℕ
  pub written : Bool
  pub moved : Moved (length buffer) got

-- the bytes that were read; a read that failed has none
abbrev pub count : Option ℕ → ℕ
count None = 0
count (Some n) = n

abbrev pub piece_of : Pass → List ℕ
piece_of p = take (count p.got) p.buffer

-- how many bytes a read brought; 0 says that the input has ended
abbrev pub after_read : Option ℕ → Result (Option ℕ) Failure
after_read None = Err Unreadable
after_read (Some zero) = Ok None
after_read (Some (suc n)) = Ok (Some (suc n))

-- a write that did not take all has failed
abbrev pub after_write : Bool → Result (Unit {0}) Failure
after_write written = cond written (Ok tt) (Err Unwritable)

-- Whether the program goes on after a pass. Where the read does not go on, nothing is written.
abbrev pub goes_on : Result (Option ℕ) Failure → Result (Unit {0}) Failure → Result Bool Failure
goes_on (Err failure) written = Err failure
goes_on (Ok None) written = Ok false
goes_on (Ok (Some n)) (Ok u) = Ok true
goes_on (Ok (Some n)) (Err failure) = Err failure

abbrev pub status_of : Pass → Result Bool Failure
status_of p = goes_on (after_read p.got) (after_write p.written)

-- the pieces that passes read, up to the first that does not go on, and how that one ends; where all go on, there were too many
abbrev pub is_going : Result Bool Failure → Bool
is_going (Ok going) = going
is_going (Err failure) = false

unfoldable pub pieces : List Pass → List (List ℕ)
pieces [] = []
pieces (p ∷ ps) = piece_of p ∷ cond (is_going (status_of p)) (pieces ps) []

abbrev pub ended_by : Result Bool Failure → Result (Unit {0}) Failure → Result (Unit {0}) Failure
ended_by (Ok true) rest = rest
ended_by (Ok false) rest = Ok tt
ended_by (Err failure) rest = Err failure

unfoldable pub status_after : List Pass → Result (Unit {0}) Failure
status_after [] = Err Endless
status_after (p ∷ ps) = ended_by (status_of p) (status_after ps)

-- One pass, which left this buffer, brings the program from a state to the next; whether it prints what the pieces print is given.
abbrev pub OnePass : Bool → SessionState → List ℕ → SessionState → Result Bool Failure → Type 0
OnePass prints s buffer next status =
    (p : Pass) × (p.buffer ≡ buffer) × (prints ≡ false → p.written ≡ true) × (status ≡ status_of p) × (next ≡ (fed s (piece_of p)).state)

-- Passes bring it from a state to the last. Too many are no fewer than 64 bits can count. Where nothing is printed, no write has failed.
abbrev pub AllPasses : Bool → SessionState → SessionState → Result (Unit {0}) Failure → Type 0
AllPasses prints s last status =
    (ps : List Pass) × (status ≡ status_after ps) × (last ≡ (fed_pieces s (pieces ps)).state)
    × (status ≡ Err Endless → length ps ≡ 18446744073709551615) × (prints ≡ false → status ≡ Err Unwritable → ⊥)

-- How the program ends: where the input has ended, by the write of what the end prints, of which it is given what it may answer.
abbrev pub AtEnd : {E : Type 0} → (Result (Unit {0}) E → Type 0) → Result (Unit {0}) Failure → Result (Unit {0}) Failure → Type 0
AtEnd {E} Writes (Ok u) after = (took : Result (Unit {0}) E) × Writes took × (after ≡ after_write (is_ok took))
AtEnd Writes (Err failure) after = after ≡ Err failure

-- The same of a program, whatever the write of its end may answer: all was written, or not.
abbrev pub ProgramEnds : Result (Unit {0}) Failure → Result (Unit {0}) Failure → Type 0
ProgramEnds (Ok u) after = (written : Bool) × (after ≡ after_write written)
ProgramEnds (Err failure) after = after ≡ Err failure

-- the sentence on standard error, after the program's name, which no contract asks for
unfoldable pub sentence_of : Failure → List ℕ
sentence_of Unreadable = bytes ": standard input cannot be read\n"
sentence_of Unwritable = bytes ": standard output cannot be written\n"
sentence_of Endless = bytes ": the input has too many pieces\n"
