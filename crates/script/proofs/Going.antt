-- The loop over a piece: what is filled, and what is still to be fed, together make what the whole piece prints.
use Rattle.std.specs.Prelude.{Option}
use Prim.Native.Nat.{ℕ, ◌+◌, ◌*◌, ◌≤◌, ◌<◌}
use mathlib.Core.Path.{◌≡◌, refl, sym, ap, ◌∙◌}
use mathlib.Core.List.{List, [], ◌∷◌, ◌++◌, append_assoc, append-nil}
use native.Mathlib.Numerals.{add-one}
use native.Mathlib.Omega.{arith}
use lib.ListN.{length, take, drop, get_or, length-append, length-take, length-drop, drop_of_length-le, take-append-drop}
use lib.Seq.{drop-cons, take_at, drop_at, length-take-le, drop-drop}
use borrow.Author.Tests.{eq-eqb, ne_eqb}
use Rattle.text.specs.Writing.{line_length}
use Rattle.script.specs.Types.{ProcessTable}
use Rattle.script.specs.Printing.{end_of_line}
use Rattle.script.specs.Lines.{Ended, begun_length, line_command}
use Rattle.script.specs.Session.{Turn, turn}
use Rattle.script.specs.Feeding.{SessionState, After, and_then, line_ended, line_grown, fed_byte, fed}

-- after i bytes of the input: the state, and the output with what is filled
pub record Going (s₀ : SessionState) (input out₀ : List ℕ) (s : SessionState) (i : ℕ) (out : List ℕ) (filled : ℕ) : Type 0 where
  pub same : and_then (take filled out) (fed s (drop i input)) ≡ fed s₀ input
  pub past : drop filled out ≡ drop filled out₀
  pub room : filled ≤ line_length * i
  pub long : length out ≡ length out₀

pub going_start : (s : SessionState) (input out : List ℕ) → Going s input out s 0 out 0
going_start s input out = record { same = refl; past = refl; room = omega arith; long = refl }

-- what is left of the input begins with its byte at i
one_more : (s : SessionState) (input : List ℕ) (i : ℕ) → i < length input → let one = fed_byte s (get_or input i 0) in fed s (drop i input) ≡ and_then one.prints (fed one.state (drop (i + 1) input))
unfolding fed
one_more s input i h = rw (drop-cons input i 0 h, add-one)

joined : (done prints : List ℕ) (f : After) → and_then done (and_then prints f) ≡ and_then (done ++ prints) f
joined done prints f = ap (λ (l : List ℕ). with-prints l) (sym (append_assoc done prints f.prints))
  where
    with-prints : List ℕ → After
    with-prints l = record { prints = l; state = f.state }

module _ (s₀ : SessionState) (input out₀ : List ℕ) (s : SessionState) (i : ℕ) (out : List ℕ) (filled b : ℕ) (g : Going s₀ input out₀ s i out filled) (h : i < length input) (e : b ≡ get_or input i 0) where
  rest : List ℕ
  rest = drop (i + 1) input

  by_byte : fed s (drop i input) ≡ and_then (fed_byte s b).prints (fed (fed_byte s b).state rest)
  unfolding rest
  by_byte = rw e (one_more s input i h)

  -- a byte that goes on with the line
  pub going-byte : (begun : List ℕ) → (b ≡ end_of_line → ⊥) → begun ≡ take begun_length (s.begun ++ b ∷ []) → Going s₀ input out₀ (record { begun = begun; table = s.table }) (i + 1) out filled
  unfolding rest fed_byte line_grown
  going-byte begun n f =
      let grown : fed s (drop i input) ≡ fed (record { begun = begun; table = s.table }) (drop (i + 1) input) = rw f (rw (ne_eqb b end_of_line n) at by_byte) in
      record { same = rw (← grown) g.same; past = g.past; room = omega (arith, g.room); long = g.long }

  -- a byte that ends the line
  pub going-line : (text : List ℕ) (table : Option ProcessTable) (out' : List ℕ) (filled' : ℕ) → b ≡ end_of_line
      → ◌≡◌ {A = Turn} (record { prints = text; table = table }) (turn s.table (line_command (Ended s.begun)))
      → length text ≤ line_length → filled + line_length ≤ length out → filled' ≡ filled + length text → out' ≡ take filled out ++ text ++ drop filled' out
      → Going s₀ input out₀ (record { begun = []; table = table }) (i + 1) out' filled'
  unfolding rest fed_byte line_ended
  going-line text table out' filled' n t short r f o =
      let ended : fed s (drop i input) ≡ and_then text (fed (record { begun = []; table = table }) (drop (i + 1) input)) = rw (eq-eqb b end_of_line n, ← t) at by_byte in
      let at : length (take filled out ++ text) ≡ filled' = simp (length-append, length-take) (omega arith) in
      let taken : take filled' out' ≡ take filled out ++ text = rw o (take_at (take filled out ++ text) (drop filled' out) filled' at) in
      let dropped : drop filled' out' ≡ drop filled' out = rw o (drop_at (take filled out ++ text) (drop filled' out) filled' at) in
      record {
        same = rw taken (sym (joined (take filled out) text _) ∙ ap (λ (f : After). and_then (take filled out) f) (sym ended) ∙ g.same);
        past = dropped ∙ rw (f, ← drop-drop (length text) filled out, ← drop-drop (length text) filled out₀, g.past);
        room = omega (arith, g.room);
        long = rw o (simp (length-append, length-take, length-drop) (omega (arith, g.long)));
      }

-- what a turn prints and leaves is the turn
pub turn-is : (t : Turn) (text : List ℕ) (table : Option ProcessTable) → text ≡ t.prints → table ≡ t.table → ◌≡◌ {A = Turn} (record { prints = text; table = table }) t
turn-is t text table e f = rw (e, f)

-- all of the input is fed
pub record GoneAll (s₀ : SessionState) (input out₀ : List ℕ) (s : SessionState) (out : List ℕ) (filled : ℕ) : Type 0 where
  pub fills : filled ≡ length (fed s₀ input).prints
  pub leaves : s ≡ (fed s₀ input).state
  pub writes : out ≡ (fed s₀ input).prints ++ drop filled out₀

pub going_end : (s₀ : SessionState) (input out₀ : List ℕ) (s : SessionState) (i : ℕ) (out : List ℕ) (filled : ℕ) → Going s₀ input out₀ s i out filled
    → length input ≤ i → filled ≤ length out → GoneAll s₀ input out₀ s out filled
unfolding fed
going_end s₀ input out₀ s i out filled g h r =
    let all : and_then (take filled out) (record { prints = []; state = s }) ≡ fed s₀ input = rw (drop_of_length-le input {i = i} h) at g.same in
    let prints : take filled out ≡ (fed s₀ input).prints = sym (append-nil (take filled out)) ∙ ap (λ (f : After). f.prints) all in
    record {
      fills = rw (← prints) (sym (length-take-le filled out r));
      leaves = ap (λ (f : After). f.state) all;
      writes = rw (← prints, ← g.past) (sym (take-append-drop filled out));
    }
