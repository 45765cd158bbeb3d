use Rattle.std.proofs.Common.{ℕ, ◌+◌, ◌-◌, ◌≤◌, refl, sym, ap, subst, ◌∙◌, arith, List, ◌++◌, take, drop}
use native.Mathlib.Nat.{le_of_eq}
use Rattle.wire.specs.Reading.{byte, message_of}
use Rattle.process.specs.Rules.{at_place}
use Rattle.records.specs.Reading.{process_of}
use Rattle.inplace.specs.Types.{Place}
use Rattle.inplace.specs.Layout.{record_start}
use Rattle.inplace.proofs.Rows.{byte_of, row-lent, row-long, row_back}
use Rattle.inplace.proofs.Ready.{count_most, altcount-most, index_below}
use Rattle.inplace.proofs.Pairs.{apart, other-ready, index-most, kept-guard, hand-steps}
use Rattle.inplace.proofs.step.hand_over_in.Goals as goal

pub sent_bytes-sent-requires : goal.sent_bytes-sent-requires
sent_bytes-sent-requires c =
    let t = c.args.t.now in
    let p = c.args.p in
    (subst (λ (k : ℕ). 152 ≤ k) (sym (row-long t p c.requires.2.0 c.requires.0)) (omega arith), index-most t p c.args.q c.requires (omega arith) (omega arith))

pub received_bytes-received-requires : goal.received_bytes-received-requires
received_bytes-received-requires c =
    let s = c.requires in
    let t = c.args.t.now in
    let p = c.args.p in
    let q = c.args.q in
    let kept = kept-guard t p q s (omega arith) (omega arith) refl in
    (le_of_eq (sym (row-long t p s.2.0 s.0)), le_of_eq (sym (row-long t q s.2.0 s.1)), index-most t p q s (omega arith) (omega arith), omega (arith, kept, altcount-most t q (other-ready t p q s (omega arith) (omega arith))))

pub returns : goal.returns
returns c =
    let t = c.args.t.now in
    let p = c.args.p in
    let q = c.args.q in
    let paired = c.requires in
    let tag = paired.3 in
    let sent = c.sent_bytes-sent in
    let received = c.received_bytes-received in
    let told = c.signalled in
    let done = c.met in
    let v = row_back t told.new.r q paired.2.0 paired.1 told.auto.r in
    let t₁ = take (record_start q) t ++ (told.new.r ++ drop ((record_start q + 256) - record_start q) (drop (record_start q) t)) in
    let w = row_back t₁ done.new.r p (omega (arith, paired.2.0, v.long)) paired.0 done.auto.r in
    let i = byte_of t p 1 (omega arith) in
    let j = byte_of t p 2 (omega arith) in
    let n = byte_of t p 5 (omega arith) in
    let m = byte_of t q 6 (omega arith) in
    let below = index_below t p paired.2 (omega (arith, tag)) (omega (arith, tag)) in
    let count = count_most t p paired.2 in
    let kept = kept-guard t p q paired (omega arith) (omega arith) refl in
    let posted = altcount-most t q (other-ready t p q paired (omega arith) (omega arith)) in
    hand-steps t t₁ _ p q done.new.r told.new.r sent.result received.result paired (apart t p q paired (omega arith) (omega arith))
    (omega (arith, i, n, below)) (omega (arith, i, below, count)) (omega (arith, j, m, kept)) (omega (arith, j, kept, posted))
    (sent.ensures ∙ rw (i, row-lent t p) refl) (received.ensures ∙ rw (i, j, row-lent t p, row-lent t q) refl) v w
    (told.ensures ∙ rw (j, row-lent t q) refl) (done.ensures ∙ ap (λ (b : List ℕ). at_place (process_of b) (Place.Met (byte b 1) (message_of received.result))) (row-lent t₁ p))
