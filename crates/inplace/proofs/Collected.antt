-- A collection, by the bytes of the record.
use Rattle.std.specs.Prelude.{Ok, Err}
use Prim.Native.Nat.{ℕ, ◌+◌, ◌≤◌, ◌<◌}
use mathlib.Core.Path.{◌≡◌, refl, ap, ◌∙◌}
use mathlib.Core.List.{List}
use native.Mathlib.Omega.{arith}
use lib.Seq.{get_or-take}
use lib.Dec.{eqb}
use borrow.Author.Tests.{eq-eqb}
use Rattle.alternative.specs.Guards.{blank}
use Rattle.alternative.specs.declared.{Message.Message, Guard.Guard}
use Rattle.wire.specs.Reading.{byte, message_of}
use Rattle.process.specs.Process.{own_guard}
use Rattle.process.specs.Rules.{at_place}
use Rattle.process.specs.declared.Place.{Place}
use Rattle.rendezvous.specs.Table.{put}
use Rattle.rendezvous.specs.Calls.{collected, collect}
use Rattle.records.specs.Layout.{part}
use Rattle.records.specs.Reading.{guards_at, place_by, place_of, process_of}
use Rattle.records.proofs.Cuts.{Wrote}
use Rattle.records.proofs.Guards.{partner-at}
use Rattle.records.proofs.Tags.{by-tag, last_place}
use Rattle.inplace.specs.Types.{Process, ProcessTable, Refusal, Answer}
use Rattle.inplace.specs.Layout.{record_start, record_bytes}
use Rattle.inplace.specs.Reading.{table_of}
use Rattle.inplace.specs.Leaves.{Leaves}
use Rattle.inplace.specs.Private.{Ready}
use Rattle.inplace.proofs.Rows.{record-at, byte_of, row-part}
use Rattle.inplace.proofs.Ready.{below-most, count_most, outcome-below}
use Rattle.inplace.proofs.Writing.{record-put, within-record}
use Rattle.inplace.proofs.Left.{left-within}
use Rattle.inplace.proofs.Turned.{collect-passed}

-- nothing is collected below M's tag
not-met : (s : ProcessTable) (p : ℕ) (x : Process) (i j : ℕ) (m : Message) (tag : ℕ) → tag < 10 → collected s p x (place_by tag i j m) ≡ record { answer = Err Refusal.NotMet; table = s }
not-met s p x i j m tag = by-tag (λ k. k < 10 → collected s p x (place_by k i j m) ≡ record { answer = Err Refusal.NotMet; table = s })
    (λ h. refl) (λ h. refl) (λ h. refl) (λ h. refl) (λ h. refl) (λ h. refl) (λ h. refl) (λ h. refl) (λ h. refl) (λ h. refl) (λ k l h. absurd (omega arith)) tag

module _ (t : List ℕ) (p : ℕ) (ready : Ready t p) where
  abbrev r : List ℕ
  r = record_bytes t p

  -- where the record of p begins
  abbrev a : ℕ
  a = record_start p

  -- what a collection does, by the record's tag
  collect-by : collect (table_of t) p ≡ collected (table_of t) p (process_of r) (place_by (byte t (a + 0)) (byte r 1) (byte r 2) (message_of (part r 28 9)))
  unfolding process_of place_of
  collect-by =
      collect-passed t p ready
      ∙ ap (λ (x : Process). collected (table_of t) p x x.place) (record-at t p (below-most t p ready))
      ∙ ap (λ (k : ℕ). collected (table_of t) p (process_of r) (place_by k (byte r 1) (byte r 2) (message_of (part r 28 9)))) (byte_of t p 0 (omega arith))

  -- below M's tag it is turned away by 13
  pub collect-refused : byte t (a + 0) < 10 → collect (table_of t) p ≡ record { answer = Err Refusal.NotMet; table = table_of t }
  collect-refused h = collect-by ∙ not-met (table_of t) p (process_of r) (byte r 1) (byte r 2) (message_of (part r 28 9)) (byte t (a + 0)) h

  module _ (met : 10 ≤ byte t (a + 0)) where
    -- the outcome's guard has a place among the eight
    pub outcome-most : byte t (a + 1) < 8
    outcome-most = omega (arith, outcome-below t p ready met, count_most t p ready)

    -- the process that it names
    named : (own_guard (process_of r) (byte r 1)).partner ≡ byte t (a + 8 + byte t (a + 1))
    unfolding process_of
    named =
        let e = byte_of t p 1 (omega arith) in
        let h : byte r 1 < byte r 5 = omega (arith, outcome-below t p ready met, e, byte_of t p 5 (omega arith)) in
        ap (λ (g : Guard). g.partner) (get_or-take (byte r 5) (guards_at r 8 48) (byte r 1) blank h)
        ∙ partner-at r 8 48 (byte r 1) (omega (arith, outcome-most, e))
        ∙ byte_of t p (8 + byte r 1) (omega (arith, outcome-most, e))
        ∙ ap (byte t) (omega (arith, e))

    -- what is collected, and the table without it
    gives : collect (table_of t) p ≡ record { answer = Ok (Answer.Collected (byte t (a + 1)) (byte t (a + 8 + byte t (a + 1))) (message_of (part t (a + 28) 9))); table = put (table_of t) p (at_place (process_of r) Place.Idle) }
    gives =
        collect-by
        ∙ ap (collected (table_of t) p (process_of r)) (last_place (byte t (a + 0)) (byte r 1) (byte r 2) (message_of (part r 28 9)) met)
        ∙ rw (named, byte_of t p 1 (omega arith), row-part t p 28 9 ready.0 (below-most t p ready) (omega arith))

    -- what it leaves, where the record is written at I
    pub collected-left : (t' r' : List ℕ) (m : Message) → Wrote t t' a 256 r' → process_of r' ≡ at_place (process_of r) Place.Idle → m ≡ message_of (part t (a + 28) 9)
        → Leaves (collect (table_of t) p) (λ k. eqb k p) t t' (Ok (Answer.Collected (byte t (a + 1)) (byte t (a + 8 + byte t (a + 1))) m))
    collected-left t' r' m w e f =
        let h = below-most t p ready in
        left-within _ (λ k. eqb k p) t t' _ (within-record h w (λ k. eqb k p) (eq-eqb p p refl)) (gives ∙ rw (f, record-put h w, e)) refl
