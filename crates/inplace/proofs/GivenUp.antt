-- A withdrawal, by the bytes of the record.
use Rattle.std.specs.Prelude.{Ok, Err}
use Prim.Native.Nat.{ℕ, ◌+◌, ◌*◌, ◌^◌, ◌≤◌, ◌<◌}
use mathlib.Core.Path.{◌≡◌, refl, ap, ◌∙◌}
use mathlib.Core.Bool.{Bool, true, false, not, ◌||◌}
use mathlib.Core.List.{List}
use native.Mathlib.Omega.{arith}
use lib.Seq.{sets}
use lib.Dec.{eqb, leb}
use borrow.Author.Tests.{eq-eqb, ne_eqb, le-leb}
use Rattle.alternative.specs.declared.Message.{Message}
use Rattle.wire.specs.Reading.{byte, long_of, message_of}
use Rattle.wire.specs.Writing.{long_bytes}
use Rattle.process.specs.Process.{is_at}
use Rattle.rendezvous.specs.Table.{put, with_head, with_withdrawal}
use Rattle.rendezvous.specs.Refusals.{require}
use Rattle.rendezvous.specs.Calls.{if_accepted, commit_came_first, given_up, withdrawn_or_late, withdraw}
use Rattle.records.specs.Layout.{part}
use Rattle.records.specs.Reading.{place_by, place_of, process_of}
use Rattle.records.proofs.Cuts.{Wrote, wrote-sets}
use Rattle.records.proofs.Tags.{by-tag, last_place}
use Rattle.inplace.specs.Types.{Process, Refusal, Answer}
use Rattle.inplace.specs.Layout.{record_start, record_bytes}
use Rattle.inplace.specs.Reading.{head_of, table_of}
use Rattle.inplace.specs.Leaves.{Leaves}
use Rattle.inplace.specs.Private.{Ready, late_by}
use Rattle.inplace.proofs.Rows.{record-at, byte_of}
use Rattle.inplace.proofs.Ready.{below-most, totals}
use Rattle.inplace.proofs.Words.{word_in, long-length}
use Rattle.inplace.proofs.Writing.{within-then, record-put, within-record, head-put, within-head, withdrawal-put}
use Rattle.inplace.proofs.Left.{left-within}
use Rattle.inplace.proofs.Turned.{withdraw-passed}

module _ (i j : ℕ) (m : Message) where
  -- where nothing can be withdrawn, by the tag
  nothing-by : (tag : ℕ) → is_at "IM" (place_by tag i j m) ≡ (eqb tag 0 || leb 10 tag)
  nothing-by tag = by-tag (λ k. is_at "IM" (place_by k i j m) ≡ (eqb k 0 || leb 10 k)) refl refl refl refl refl refl refl refl refl refl
      (λ k h. rw (last_place k i j m h, ne_eqb k 0 (λ e. omega arith), le-leb 10 k h)) tag

  -- where a commit came first
  late-is : (accepting tag : ℕ) → commit_came_first (place_by tag i j m) (not (eqb accepting 0)) ≡ late_by tag accepting
  late-is accepting tag = by-tag (λ k. commit_came_first (place_by k i j m) (not (eqb accepting 0)) ≡ late_by k accepting) refl refl refl refl refl refl refl (twice (eqb accepting 0)) refl (twice (eqb accepting 0))
      (λ k h. rw (last_place k i j m h, ne_eqb k 4 (λ e. omega arith), ne_eqb k 7 (λ e. omega arith), ne_eqb k 9 (λ e. omega arith))) tag
    where
      twice : (b : Bool) → not (not b) ≡ b
      twice true = refl
      twice false = refl

-- no total is near 2 ^ 64: each is at most the next ticket, a word
pub totals-small : (t : List ℕ) (p : ℕ) → Ready t p → ((k : ℕ) → byte t k < 256) → 2 * long_of (part t 8 8) + long_of (part t 16 8) < 2 ^ 32
totals-small t p ready small = omega (arith, totals t p ready, word_in t 4 4 (omega arith), small 4, small 5, small 6, small 7)

module _ (t : List ℕ) (p : ℕ) (ready : Ready t p) where
  abbrev r : List ℕ
  r = record_bytes t p

  -- the place's tag, and whether it is accepting
  abbrev tag : ℕ
  tag = byte t (record_start p + 0)

  abbrev accepting : ℕ
  accepting = byte t (record_start p + 7)

  -- what a withdrawal does, by these two bytes
  withdraw-by : withdraw (table_of t) p ≡ if_accepted (require (not (eqb tag 0 || leb 10 tag)) Refusal.NothingToWithdraw (Ok tt)) (table_of t) (withdrawn_or_late (table_of t) p (process_of r) (late_by tag accepting))
  unfolding process_of place_of
  withdraw-by =
      let m = message_of (part r 28 9) in
      withdraw-passed t p ready
      ∙ ap (λ (x : Process). if_accepted (require (not (is_at "IM" x.place)) Refusal.NothingToWithdraw (Ok tt)) (table_of t) (withdrawn_or_late (table_of t) p x (commit_came_first x.place x.accepting))) (record-at t p (below-most t p ready))
      ∙ rw (nothing-by (byte r 1) (byte r 2) m (byte r 0), late-is (byte r 1) (byte r 2) m (byte r 7) (byte r 0), byte_of t p 0 (omega arith), byte_of t p 7 (omega arith))

  -- at I and M it is turned away by 14
  pub withdraw-refused : (eqb tag 0 || leb 10 tag) ≡ true → withdraw (table_of t) p ≡ record { answer = Err Refusal.NothingToWithdraw; table = table_of t }
  withdraw-refused e = withdraw-by ∙ rw e

  -- a commit came first
  pub withdraw-late : (eqb tag 0 || leb 10 tag) ≡ false → late_by tag accepting ≡ true → withdraw (table_of t) p ≡ record { answer = Ok Answer.TooLate; table = table_of t }
  withdraw-late e f = withdraw-by ∙ rw (e, f)

  -- the head is read from the same bytes
  head_read : (table_of t).head ≡ head_of t
  unfolding table_of
  head_read = refl

  -- what it leaves, where the head and then the record are written
  pub given-up-left : (eqb tag 0 || leb 10 tag) ≡ false → late_by tag accepting ≡ false → ((k : ℕ) → byte t k < 256) → (n : ℕ) → n ≡ long_of (part t 16 8) → (t₁ t₂ r₂ : List ℕ) → t₁ ≡ sets t 16 (long_bytes (n + 1))
      → Wrote t₁ t₂ (record_start p) 256 r₂ → process_of r₂ ≡ given_up (process_of (record_bytes t₁ p)) → Leaves (withdraw (table_of t) p) (λ k. eqb k p) t t₂ (Ok Answer.Withdrawn)
  unfolding head_of
  given-up-left e f small n x t₁ t₂ r₂ u v g =
      let h = below-most t p ready in
      let w = wrote-sets t 16 8 (long_bytes (n + 1)) t₁ (long-length (n + 1)) (omega (arith, ready.0)) u in
      let head : head_of t₁ ≡ with_withdrawal (head_of t) = withdrawal-put (omega (arith, totals-small t p ready small)) w (omega arith) in
      let at : 16 + 8 ≤ 32 = omega arith in
      let table : table_of t₂ ≡ with_head (put (table_of t) p (given_up (process_of r))) (with_withdrawal (head_of t)) = rw (record-put h v, g, (within-head at w (λ k. false)).others p refl, head-put at w, head) in
      left-within _ (λ k. eqb k p) t t₂ (Ok Answer.Withdrawn) (within-then (within-head at w (λ k. eqb k p)) (within-record h v (λ k. eqb k p) (eq-eqb p p refl))) (withdraw-by ∙ rw (e, f, table, head_read)) refl
