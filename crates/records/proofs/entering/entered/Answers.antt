use Rattle.std.proofs.Common.{◌≡◌, ℕ, ap, ◌∙◌, arith, length, take}
use lib.Seq.{get_or-take}
use Rattle.alternative.specs.Guards.{slots}
use Rattle.rendezvous.proofs.Lengths.{length-mapped}
use Rattle.records.specs.Types.{Process}
use Rattle.records.specs.Reading.{process_of}
use Rattle.records.specs.Private.{with_guards, with_guard}
use Rattle.records.proofs.Offers.{filled_more, ticket-held, entered-is}
use Rattle.records.proofs.entering.entered.Goals as goal

pub loop-k-preserved : goal.loop-k-preserved
loop-k-preserved c =
    let list = c.args.list in
    let w = c.put_guard in
    let n : length list.guards ≡ 8 = search (length-mapped, c.well_formed) in
    (w.auto.r ∙ c.loop-k.invariant.0, filled_more c.cleared.new.r list.guards c.loop-k.r w.new.r c.loop-k.k (omega arith) (omega arith) c.loop-k.invariant.1 (w.ensures ∙ ap (with_guard (process_of c.loop-k.r) c.loop-k.k) (get_or-take list.count list.guards c.loop-k.k _ (omega arith))))

pub returns : goal.returns
returns c =
    let a = c.args in
    let n : length c.loop-k.r ≡ length a.r.now = c.loop-k.invariant.0 ∙ c.cleared.auto.r in
    let e : c.loop-k.k ≡ a.list.count = omega arith in
    entered-is c.loop-k.r c.put_bytes.new.out a.ticket (ticket-held a.ticket _ c.well_formed.1.0) c.word_bytes.result c.word_bytes.ensures (omega arith) c.put_bytes.ensures (process_of a.r.now) a.list
    (c.loop-k.invariant.1 ∙ ap (λ (x : Process). with_guards x (slots (take c.loop-k.k a.list.guards))) c.cleared.ensures ∙ ap (λ (k : ℕ). with_guards (process_of a.r.now) (slots (take k a.list.guards))) e)
