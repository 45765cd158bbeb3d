use Rattle.std.proofs.Common.{refl, sym, ◌∙◌, arith}
use Rattle.alternative.specs.Guards.{next_enabled}
use Rattle.wire.specs.Reading.{byte}
use Rattle.records.specs.Layout.{partners_at, own_at, count_at}
use Rattle.records.specs.Reading.{process_of}
use Rattle.records.proofs.Guards.{enabled-hit, enabled-miss, enabled-end}
use Rattle.records.proofs.lists.next_own.Goals as goal

pub loop-k-init : goal.loop-k-init
unfolding next_enabled
loop-k-init c = refl

pub returns-then-r-k-ne0 : goal.returns-then-r-k-ne0
unfolding process_of
returns-then-r-k-ne0 c =
    let r = c.args.r.now in
    sym (c.loop-k.invariant ∙ enabled-hit r partners_at own_at (byte r count_at) c.loop-k.k c.loop-k-test.true c.requires.1 (omega arith) c.if-r-k-ne0.true)

pub loop-k-preserved : goal.loop-k-preserved
unfolding process_of
loop-k-preserved c =
    let r = c.args.r.now in
    c.loop-k.invariant ∙ enabled-miss r partners_at own_at (byte r count_at) c.loop-k.k c.loop-k-test.true c.requires.1 (omega arith) c.if-r-k-ne0.false

pub returns : goal.returns
unfolding process_of
returns c =
    let r = c.args.r.now in
    sym (c.loop-k.invariant ∙ enabled-end r partners_at own_at (byte r count_at) c.loop-k.k c.loop-k-test.false)
