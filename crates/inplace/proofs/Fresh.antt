-- A table that is cleared, and then given its number of processes and the length of a nap, is a fresh one.
use Rattle.std.specs.Prelude.{Ok, Err}
use Prim.Native.Nat.{ℕ, zero, suc, ◌+◌, ◌≤◌, ◌<◌}
use mathlib.Core.Path.{◌≡◌, refl, sym, ap, ◌∙◌}
use mathlib.Core.Bool.{true, false≢true}
use mathlib.Core.List.{List, ◌++◌}
use native.Mathlib.Omega.{arith}
use lib.ListN.{length, set, drop, replicate, length-set, length-append, length-drop, length-replicate, get_or-replicate}
use lib.Seq.{get_or-set_same, get_or-set_other, drop-set-lt, ext_get_or, length-take-le, get_or-take, get_or-drop, take_at, drop_at}
use Rattle.wire.specs.Reading.{byte, word_of, long_of}
use Rattle.process.specs.Process.{fresh_process}
use Rattle.rendezvous.specs.declared.{Refusal.Refusal, Answer.Answer}
use Rattle.rendezvous.specs.Table.{fresh_table}
use Rattle.rendezvous.specs.Refusals.{create_verdict}
use Rattle.records.specs.Layout.{part}
use Rattle.records.specs.Reading.{values, action_of, guard_of, guards_of, place_of, signal_of, process_of}
use Rattle.inplace.specs.Layout.{table_length, record_start, record_bytes}
use Rattle.inplace.specs.Reading.{head_of, table_of}
use Rattle.inplace.specs.Calls.{remake}
use Rattle.inplace.specs.Leaves.{Leaves}

-- a part of zeros
zero-part : (t : List ℕ) (a m : ℕ) → a + m ≤ length t → ((k : ℕ) → a ≤ k → k < a + m → byte t k ≡ 0) → part t a m ≡ replicate m 0
zero-part t a m h z = ext_get_or 0 (part t a m) (replicate m 0) (long ∙ sym (length-replicate m 0)) each
  where
    long : length (part t a m) ≡ m
    long = length-take-le m (drop a t) (omega (arith, length-drop a t))

    each : (i : ℕ) → i < length (part t a m) → byte (part t a m) i ≡ byte (replicate m 0) i
    each i l = let b : i < m = omega (arith, long) in get_or-take m (drop a t) i 0 b ∙ get_or-drop a t i 0 ∙ z (a + i) (omega arith) (omega arith) ∙ sym (get_or-replicate m i 0 0 b)

-- a record of zeros
zero-record : process_of (replicate 256 0) ≡ fresh_process
unfolding process_of place_of signal_of guards_of guard_of action_of values word_of
zero-record = refl

-- words and numbers of zeros
zero_word : word_of (replicate 4 0) ≡ 0
unfolding word_of
zero_word = refl

zero-long : long_of (replicate 8 0) ≡ 0
unfolding long_of word_of
zero-long = refl

-- values that are all the same
same-values : {A : Type 0} (f : ℕ → A) (x : A) (from count : ℕ) → ((k : ℕ) → k < from + count → f k ≡ x) → values f from count ≡ replicate count x
unfolding values
same-values f x from zero h = refl
same-values f x from (suc count) h = rw (h from (omega arith), same-values f x (suc from) count (λ k l. h k (omega arith)))

-- a table of zeros but for its first two bytes
fresh-table : (t : List ℕ) → table_length ≤ length t → ((k : ℕ) → 2 ≤ k → k < table_length → byte t k ≡ 0) → table_of t ≡ fresh_table (byte t 0) (byte t 1)
unfolding table_of head_of
fresh-table t h z =
    let next : word_of (part t 4 4) ≡ 0 = rw (zero-part t 4 4 (omega arith) (λ k a b. z k (omega arith) (omega arith))) zero_word in
    let meetings : long_of (part t 8 8) ≡ 0 = rw (zero-part t 8 8 (omega arith) (λ k a b. z k (omega arith) (omega arith))) zero-long in
    let withdrawn : long_of (part t 16 8) ≡ 0 = rw (zero-part t 16 8 (omega arith) (λ k a b. z k (omega arith) (omega arith))) zero-long in
    rw (next, meetings, withdrawn, same-values (λ (p : ℕ). process_of (record_bytes t p)) fresh_process 0 32 (λ p l. ap process_of (zero-part t (record_start p) 256 (omega arith) (λ k a b. z k (omega arith) (omega arith))) ∙ zero-record))

-- .. which are written after it is cleared
pub fresh-is : (t : List ℕ) (n nap : ℕ) → table_length ≤ length t → ((k : ℕ) → k < table_length → byte t k ≡ 0) → table_of (set (set t 0 n) 1 nap) ≡ fresh_table n nap
fresh-is t n nap h z =
    let first : byte (set (set t 0 n) 1 nap) 0 ≡ n = get_or-set_other (set t 0 n) 1 0 nap 0 (λ e. omega arith) ∙ get_or-set_same t 0 n 0 (omega arith) in
    let second : byte (set (set t 0 n) 1 nap) 1 ≡ nap = get_or-set_same (set t 0 n) 1 nap 0 (omega (arith, length-set t 0 n)) in
    fresh-table (set (set t 0 n) 1 nap) (omega (arith, length-set (set t 0 n) 1 nap, length-set t 0 n)) (λ k a b. get_or-set_other (set t 0 n) 1 k nap 0 (λ e. omega arith) ∙ get_or-set_other t 0 k n 0 (λ e. omega arith) ∙ z k b)
    ∙ rw (first, second)

-- refused: every byte stays
pub remade-not : (t : List ℕ) (n nap : ℕ) (refusal : Refusal) → create_verdict n nap ≡ Err refusal → Leaves (remake (table_of t) n nap) (λ r. true) t t (Err refusal)
unfolding remake
remade-not t n nap refusal e = record { answers = rw e; stands_for = rw e; still = λ _. refl; others = λ r h. refl; behind = refl }

-- a fresh table in the place of what stood there: zeros, and what stands behind the table
pub remade : (t₀ zeros : List ℕ) (n nap : ℕ) → create_verdict n nap ≡ Ok tt → length zeros ≡ table_length → ((k : ℕ) → k < table_length → byte zeros k ≡ 0)
    → Leaves (remake (table_of t₀) n nap) (λ r. true) t₀ (set (set (zeros ++ drop table_length t₀) 0 n) 1 nap) (Ok Answer.Made)
unfolding remake
remade t₀ zeros n nap e l z =
    let rest = drop table_length t₀ in
    let t = zeros ++ rest in
    let front = take_at zeros rest table_length l in
    let zero : (k : ℕ) → k < table_length → byte t k ≡ 0 = λ k h. sym (get_or-take table_length t k 0 h) ∙ ap (λ (b : List ℕ). byte b k) front ∙ z k h in
    record {
      answers = rw e;
      stands_for = rw e (fresh-is t n nap (omega (arith, length-append zeros rest)) zero);
      still = λ f. absurd (false≢true f);
      others = λ r f. absurd (false≢true (sym f));
      behind = drop-set-lt table_length (set t 0 n) 1 nap (omega arith) ∙ drop-set-lt table_length t 0 n (omega arith) ∙ drop_at zeros rest table_length l;
    }
