-- To be believed. The script program for programs in other languages: the bytes of a session between two pieces of its input, and what each call gives.
use Rattle.std.specs.Prelude.{◌/◌, min, not, map, eqb, ◌≡◌, ◌&&◌, ◌∷◌, ◌++◌}
use Rattle.std.specs.Bool.{then_some}
use Rattle.text.specs.Writing.{line_length}
use Rattle.script.specs.Lines.{begun_length}
use Rattle.script.specs.Feeding.{SessionState, start, fed, finished}
use Rattle.script.specs.Session.{output}
use Rattle.wire.specs.Reading.{byte, table_of}
use Rattle.exports.specs.Layout.{begun_at, table_at, session_length}
use Rattle.exports.specs.Types.{ℕ, Bool, true, false, cond, List, [], flatten, length, take, drop, replicate, leb}

-- Any bytes are read as a session: any first byte but 0 is true, and of the begun line only as many bytes are read as there is room for.
unfoldable pub state_in : List ℕ → SessionState
state_in bytes = record {
  begun = take (byte bytes 1) (take begun_length (drop begun_at bytes ++ replicate begun_length 0));
  table = then_some (not (eqb (byte bytes 0) 0)) (table_of (drop table_at bytes));
}

-- whether bytes are enough for a session
abbrev pub is_session : List ℕ → Bool
is_session bytes = leb session_length (length bytes)

-- A buffer as it was and as it is left, and whether the session that is read (`read`) and it were long enough. The next call reads in it the very state that this one hands
-- back. What stands behind a session stays, and if one was too short, so does the whole buffer.
pub record Stored (read : Bool) (s : SessionState) (buffer buffer' : List ℕ) (whole : Bool) : Type 0 where
  pub enough : whole ≡ (read && is_session buffer)
  pub read_back : whole ≡ true → state_in buffer' ≡ s
  pub behind : drop session_length buffer' ≡ drop session_length buffer
  pub short : whole ≡ false → buffer' ≡ buffer

-- A piece: as many of its bytes are taken as the output has room for if each of them ends a line; none, and so nothing is written, if a session is too short.
pub record Feeds (state piece after out after' out' : List ℕ) (taken filled : ℕ) (whole : Bool) : Type 0 where
  pub takes : taken ≡ cond whole (min (length piece) (length out / line_length)) 0
  pub fills : filled ≡ length (fed (state_in state) (take taken piece)).prints
  pub prints : out' ≡ (fed (state_in state) (take taken piece)).prints ++ drop filled out
  pub keeps : Stored (is_session state) (fed (state_in state) (take taken piece)).state after after' whole

-- The end of the input: an output that has no room for a line stays as it is, and so does any output where the session is too short.
pub record Finishes (state out out' : List ℕ) (filled : ℕ) : Type 0 where
  pub fills : filled ≡ cond (is_session state && leb line_length (length out)) (length (finished (state_in state))) 0
  pub prints : out' ≡ take filled (finished (state_in state)) ++ drop filled out

-- A call that feeds a piece, and its buffers.
pub record Feeding : Type 0 where
  pub piece : List ℕ
  pub after : List ℕ
  pub out : List ℕ
  pub after' : List ℕ
  pub out' : List ℕ
  pub taken : ℕ
  pub filled : ℕ

-- the bytes that it takes, and those that it fills
abbrev pub taken_by : Feeding → List ℕ
taken_by c = take c.taken c.piece

abbrev pub filled_by : Feeding → List ℕ
filled_by c = take c.filled c.out'

-- calls one after another, each on the bytes that the one before it left, and the bytes that the last one leaves
unfoldable pub Chained : List ℕ → List Feeding → Type 0
Chained state [] = Unit {0}
Chained state (c ∷ cs) = Feeds state c.piece c.after c.out c.after' c.out' c.taken c.filled true × Chained c.after' cs

unfoldable pub left_by : List ℕ → List Feeding → List ℕ
left_by state [] = state
left_by state (c ∷ cs) = left_by c.after' cs

-- However the input is cut into pieces, a session that goes from call to call as bytes prints, with its end, the whole output.
abbrev pub ByCalls : Type 0
ByCalls =
    (buffer state : List ℕ) (calls : List Feeding) → Stored true start buffer state true → Chained state calls
    → flatten (map filled_by calls) ++ finished (state_in (left_by state calls)) ≡ output (flatten (map taken_by calls))
