-- A table whose bytes are written in one record or in the head.
use Prim.Native.Nat.{ℕ, ◌+◌, ◌-◌, ◌^◌, ◌≤◌, ◌<◌}
use mathlib.Core.Path.{◌≡◌, refl, sym, ap, ◌∙◌}
use mathlib.Core.Bool.{Bool, true, false, false≢true}
use mathlib.Core.List.{List, [], append-nil}
use native.Mathlib.Omega.{arith}
use lib.ListN.{length, drop}
use lib.Dec.{leb}
use mathlib.Core.Path.{fun_ext}
use lib.Seq.{drop-drop}
use borrow.Author.Tests.{leb-true, leb-false}
use Rattle.wire.specs.Reading.{word_of, long_of}
use Rattle.wire.specs.Writing.{word_bytes, long_bytes}
use Rattle.wire.proofs.Back.{word_back, long-back}
use Rattle.process.specs.Process.{nobody}
use Rattle.rendezvous.specs.Table.{put, with_head, with_next, with_meeting, with_withdrawal}
use Rattle.records.specs.Reading.{values, process_of}
use Rattle.records.proofs.Cuts.{Wrote, part-before, part-after, byte-before}
use Rattle.records.proofs.Values.{values-set}
use Rattle.inplace.specs.Types.{Process, Head, ProcessTable}
use Rattle.inplace.specs.Layout.{table_length, record_start, record_bytes}
use Rattle.inplace.specs.Reading.{head_of, table_of}

-- Only bytes of the head and of certain records are written.
pub record Within (changed : ℕ → Bool) (t t' : List ℕ) : Type 0 where
  pub long : length t' ≡ length t
  pub others : (r : ℕ) → changed r ≡ false → record_bytes t' r ≡ record_bytes t r
  pub behind : drop table_length t' ≡ drop table_length t

pub within-then : {changed : ℕ → Bool} {t t' t'' : List ℕ} → Within changed t t' → Within changed t' t'' → Within changed t t''
within-then w v = record { long = v.long ∙ w.long; others = λ r e. v.others r e ∙ w.others r e; behind = v.behind ∙ w.behind }

module _ {t t' : List ℕ} {p : ℕ} {r : List ℕ} (h : p < 32) (w : Wrote t t' (record_start p) 256 r) where
  -- the bytes of the other records stay
  pub others : (q : ℕ) → (q ≡ p → ⊥) → record_bytes t' q ≡ record_bytes t q
  others q e = go (leb p q) refl
    where
      go : (b : Bool) → leb p q ≡ b → record_bytes t' q ≡ record_bytes t q
      go true s = part-after w (record_start q) 256 (omega (arith, leb-true p q s))
      go false s = part-before w (record_start q) 256 (omega (arith, leb-false p q s))

  head-stays : head_of t' ≡ head_of t
  unfolding head_of
  head-stays = rw (byte-before w 0 (omega arith), byte-before w 1 (omega arith), part-before w 4 4 (omega arith), part-before w 8 8 (omega arith), part-before w 16 8 (omega arith))

  -- the bytes of a record are written: that record is put
  pub record-put : table_of t' ≡ put (table_of t) p (process_of r)
  unfolding table_of
  record-put =
      ap (λ (x : Head). made x (values (λ (q : ℕ). process_of (record_bytes t' q)) 0 32)) head-stays
      ∙ ap (made (head_of t)) (values-set (λ (q : ℕ). process_of (record_bytes t' q)) (λ (q : ℕ). process_of (record_bytes t q)) nobody 32 p (process_of r) h (ap process_of w.there) (λ q i e. ap process_of (others q e)))
    where
      made : Head → List Process → ProcessTable
      made x processes = record { head = x; processes = processes }

  pub within-record : (changed : ℕ → Bool) → changed p ≡ true → Within changed t t'
  within-record changed c = record {
    long = w.long;
    others = λ q e. others q (λ s. absurd (false≢true (sym e ∙ ap changed s ∙ c)));
    behind = behind-after;
  }
    where
      behind-after : drop table_length t' ≡ drop table_length t
      behind-after =
          let a = record_start p + 256 in
          let e : a + (table_length - a) ≡ table_length = omega arith in
          ap (λ (k : ℕ). drop k t') (sym e) ∙ sym (drop-drop (table_length - a) a t') ∙ ap (drop (table_length - a)) w.after ∙ drop-drop (table_length - a) a t ∙ ap (λ (k : ℕ). drop k t) e

-- bytes of the head are written: the records stay
module _ {t t' : List ℕ} {a n : ℕ} {vs : List ℕ} (h : a + n ≤ 32) (w : Wrote t t' a n vs) where
  pub rows_stay : (q : ℕ) → record_bytes t' q ≡ record_bytes t q
  rows_stay q = part-after w (record_start q) 256 (omega arith)

  pub head-put : table_of t' ≡ with_head (table_of t) (head_of t')
  unfolding table_of
  head-put = ap (λ (f : ℕ → List ℕ). record { head = head_of t'; processes = values (λ (q : ℕ). process_of (f q)) 0 32 }) (fun_ext rows_stay)

  pub within-head : (changed : ℕ → Bool) → Within changed t t'
  within-head changed = record { long = w.long; others = λ q e. rows_stay q; behind = behind-after }
    where
      behind-after : drop table_length t' ≡ drop table_length t
      behind-after =
          let b = a + n in
          let e : b + (table_length - b) ≡ table_length = omega arith in
          ap (λ (k : ℕ). drop k t') (sym e) ∙ sym (drop-drop (table_length - b) b t') ∙ ap (drop (table_length - b)) w.after ∙ drop-drop (table_length - b) b t ∙ ap (λ (k : ℕ). drop k t) e

-- a word, or a number of 64 bits, alone
word-whole : (x : ℕ) → x < 2 ^ 32 → word_of (word_bytes x) ≡ x
word-whole x h = ap word_of (sym (append-nil (word_bytes x))) ∙ word_back x h []

long-whole : (x : ℕ) → x < 2 ^ 64 → long_of (long_bytes x) ≡ x
long-whole x h = ap long_of (sym (append-nil (long_bytes x))) ∙ long-back x h []

-- what is written in the head
module _ {t t' : List ℕ} {x : ℕ} where
  pub next-put : x < 2 ^ 32 → Wrote t t' 4 4 (word_bytes x) → head_of t' ≡ with_next (head_of t) x
  unfolding head_of
  next-put h w = rw (byte-before w 0 (omega arith), byte-before w 1 (omega arith), w.there, part-after w 8 8 (omega arith), part-after w 16 8 (omega arith), word-whole x h)

  pub meeting-put : x < 2 ^ 64 → Wrote t t' 8 8 (long_bytes x) → x ≡ (head_of t).meetings + 1 → head_of t' ≡ with_meeting (head_of t)
  unfolding head_of
  meeting-put h w e = rw (byte-before w 0 (omega arith), byte-before w 1 (omega arith), part-before w 4 4 (omega arith), w.there, part-after w 16 8 (omega arith), long-whole x h, e)

  pub withdrawal-put : x < 2 ^ 64 → Wrote t t' 16 8 (long_bytes x) → x ≡ (head_of t).withdrawn + 1 → head_of t' ≡ with_withdrawal (head_of t)
  unfolding head_of
  withdrawal-put h w e = rw (byte-before w 0 (omega arith), byte-before w 1 (omega arith), part-before w 4 4 (omega arith), part-before w 8 8 (omega arith), w.there, long-whole x h, e)
