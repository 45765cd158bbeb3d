-- An offer that is turned away, and one that is accepted.
use Rattle.std.specs.Prelude.{Result, Ok, Err, ⊤}
use Prim.Native.Nat.{ℕ, ◌+◌, ◌≤◌, ◌<◌}
use mathlib.Core.Path.{◌≡◌, refl, sym, ap, ◌∙◌}
use mathlib.Core.Bool.{◌&&◌}
use mathlib.Core.List.{List}
use native.Mathlib.Omega.{arith}
use lib.Dec.{leb, eqb}
use borrow.Author.Tests.{lt-ltb, leb-true, eq-eqb, ne_eqb}
use Rattle.alternative.specs.declared.{Message.Message, GuardList.GuardList}
use Rattle.alternative.proofs.Tests.{and_parts}
use Rattle.wire.specs.Reading.{byte, word_of, message_of}
use Rattle.wire.specs.Writing.{word_bytes}
use Rattle.process.specs.Process.{is_idle}
use Rattle.rendezvous.specs.Table.{last_transaction, process, put, with_head, with_next}
use Rattle.rendezvous.specs.Refusals.{process_verdict, list_verdict, state_verdict, offer_verdict}
use Rattle.rendezvous.specs.Calls.{if_accepted, entering, offered, offer_list}
use Rattle.rendezvous.proofs.Verdicts.{passed as test-passed, list-pass, list-stop}
use Rattle.records.specs.Layout.{part}
use Rattle.records.specs.Reading.{place_by, place_of, process_of}
use Rattle.records.proofs.Cuts.{Wrote, part-after}
use Rattle.records.proofs.Tags.{by-tag, last_place}
use Rattle.inplace.specs.Types.{Process, ProcessTable, Refusal, Answer, Reply}
use Rattle.inplace.specs.Layout.{record_start, record_bytes}
use Rattle.inplace.specs.Reading.{head_of, table_of}
use Rattle.inplace.specs.Leaves.{Leaves}
use Rattle.inplace.specs.Private.{Ready}
use Rattle.inplace.proofs.Rows.{record-at, place_at, byte_of}
use Rattle.inplace.proofs.Writing.{within-then, record-put, within-record, head-put, within-head, next-put}
use Rattle.inplace.proofs.Left.{left-within}
use Rattle.inplace.proofs.Turned.{turned, passed}

-- a place is I where its tag is 0
idle-by : (i j : ℕ) (m : Message) (tag : ℕ) → is_idle (place_by tag i j m) ≡ eqb tag 0
idle-by i j m tag = by-tag (λ k. is_idle (place_by k i j m) ≡ eqb k 0) refl refl refl refl refl refl refl refl refl refl last tag
  where
    last : (k : ℕ) → 10 ≤ k → is_idle (place_by k i j m) ≡ eqb k 0
    last k h = rw (last_place k i j m h, ne_eqb k 0 (λ e. omega arith))

-- a list that is not turned away has at most eight guards
pub list-most : (n p : ℕ) (list : GuardList) → list_verdict n p list (Ok tt) ≡ Ok tt → list.count ≤ 8
unfolding list_verdict
list-most n p list e =
    let a = test-passed (leb 1 list.count && leb list.count 8) Refusal.GuardCount _ e in
    leb-true list.count 8 (and_parts (leb 1 list.count) _ a.0).1

module _ (t : List ℕ) (p : ℕ) (list : GuardList) where
  abbrev refused_by : Refusal → Reply
  refused_by r = record { answer = Err r; table = table_of t }

  abbrev state : Result ⊤ Refusal
  state = state_verdict (process (table_of t) p).place (table_of t).head.next

  -- an accepted offer gets this ticket
  offered-is : (ticket : ℕ) → ticket ≡ word_of (part t 4 4)
      → offered (table_of t) p list ≡ record { answer = Ok (Answer.Offered (record { 0 = ticket })); table = with_head (put (table_of t) p (entering (process (table_of t) p) (record { 0 = ticket }) list)) (with_next (head_of t) (ticket + 1)) }
  unfolding offered table_of head_of
  offered-is ticket e = rw e

  -- turned away by 7 or 2
  pub offer-turned : (r : Refusal) → process_verdict (table_of t) p ≡ Err r → offer_list (table_of t) p list ≡ refused_by r
  unfolding offer_list offer_verdict
  offer-turned r e = turned t p (list_verdict (table_of t).head.n p list state) (offered (table_of t) p list) r e

  module _ (ready : Ready t p) where
    -- by neither: its list is tested, and then the state
    offer-tested : offer_list (table_of t) p list ≡ if_accepted (list_verdict (byte t 0) p list state) (table_of t) (offered (table_of t) p list)
    unfolding offer_list offer_verdict table_of head_of
    offer-tested = passed t p (list_verdict (table_of t).head.n p list state) (offered (table_of t) p list) ready

    -- turned away by its list, 3 to 6
    pub offer-unfit : (r : Refusal) → Err r ≡ list_verdict (byte t 0) p list (Ok tt) → offer_list (table_of t) p list ≡ refused_by r
    offer-unfit r e = offer-tested ∙ rw (list-stop (byte t 0) p list r state e)

    module _ (h : p < 32) (fits : list_verdict (byte t 0) p list (Ok tt) ≡ Ok tt) where
      -- not by its list: the state alone is left
      offer-fit : offer_list (table_of t) p list ≡ if_accepted state (table_of t) (offered (table_of t) p list)
      offer-fit = offer-tested ∙ rw (list-pass (byte t 0) p list state (sym fits))

      -- the process is at I where the tag of its record is 0
      idle-at : is_idle (process (table_of t) p).place ≡ eqb (byte t (record_start p + 0)) 0
      unfolding place_of
      idle-at =
          let r = record_bytes t p in
          rw (place_at t p h, ← byte_of t p 0 (omega arith)) (idle-by (byte r 1) (byte r 2) (message_of (part r 28 9)) (byte r 0))

      -- turned away by 11 ..
      pub offer-busy : (byte t (record_start p + 0) ≡ 0 → ⊥) → offer_list (table_of t) p list ≡ refused_by Refusal.NotIdle
      unfolding state_verdict
      offer-busy e = offer-fit ∙ rw (idle-at, ne_eqb _ 0 e)

      module _ (idle : byte t (record_start p + 0) ≡ 0) where
        -- .. and by 12
        pub offer-last : word_of (part t 4 4) ≡ last_transaction → offer_list (table_of t) p list ≡ refused_by Refusal.LastTransaction
        unfolding state_verdict table_of head_of
        offer-last e = offer-fit ∙ rw (idle-at, eq-eqb _ 0 idle, e)

        -- by nothing
        offer-passed : word_of (part t 4 4) < last_transaction → offer_list (table_of t) p list ≡ offered (table_of t) p list
        unfolding state_verdict table_of head_of
        offer-passed l = offer-fit ∙ rw (idle-at, eq-eqb _ 0 idle, lt-ltb (word_of (part t 4 4)) last_transaction l)

        -- accepted: the next ticket is written into the head, and then the record
        pub offer-left : (ticket : ℕ) (t' t'' r : List ℕ) → ticket ≡ word_of (part t 4 4) → ticket < last_transaction → Wrote t t' 4 4 (word_bytes (ticket + 1)) → Wrote t' t'' (record_start p) 256 r
            → process_of r ≡ entering (process_of (record_bytes t' p)) (record { 0 = ticket }) list → Leaves (offer_list (table_of t) p list) (λ q. eqb q p) t t'' (Ok (Answer.Offered (record { 0 = ticket })))
        offer-left ticket t' t'' r e l w v f =
            let d = with_head (table_of t) (with_next (head_of t) (ticket + 1)) in
            let head : table_of t' ≡ d = head-put (omega arith) w ∙ ap (with_head (table_of t)) (next-put (omega arith) w) in
            let old : process_of (record_bytes t' p) ≡ process (table_of t) p = ap process_of (part-after w (record_start p) 256 (omega arith)) ∙ sym (record-at t p h) in
            let new = f ∙ ap (λ (x : Process). entering x (record { 0 = ticket }) list) old in
            let table = record-put h v ∙ ap (λ (x : ProcessTable). put x p (process_of r)) head ∙ ap (put d p) new in
            let written = within-then (within-head (omega arith) w (λ q. eqb q p)) (within-record h v (λ q. eqb q p) (eq-eqb p p refl)) in
            left-within _ (λ q. eqb q p) t t'' _ written (offer-passed (omega arith) ∙ offered-is ticket e ∙ ap (λ (x : ProcessTable). record { answer = Ok (Answer.Offered (record { 0 = ticket })); table = x }) (sym table)) refl
