use Rattle.std.proofs.Common.{ℕ, ◌+◌, refl, ap, ◌∙◌, arith, List, take, drop}
use Rattle.wire.specs.Reading.{message_of}
use Rattle.process.specs.Rules.{at_place}
use Rattle.process.specs.declared.Place.{Place}
use Rattle.records.specs.Reading.{process_of}
use Rattle.records.proofs.Cuts.{lent-count}
use Rattle.inplace.specs.Layout.{record_start}
use Rattle.inplace.proofs.Rows.{row-lent, row_back}
use Rattle.inplace.proofs.Left.{nothing_left}
use Rattle.inplace.proofs.Collected.{collect-refused, outcome-most, collected-left}
use Rattle.inplace.proofs.collect.collected_in.Goals as goal

pub returns-then-t-a-lt-MET : goal.returns-then-t-a-lt-MET
returns-then-t-a-lt-MET c = nothing_left _ _ _ _ _ (collect-refused c.args.t.now c.args.p c.requires.1 c.if-t-a-lt-MET.true) refl

pub bounds-t-a-3 : goal.bounds-t-a-3
bounds-t-a-3 c = omega (arith, outcome-most c.args.t.now c.args.p c.requires.1 c.if-t-a-lt-MET.false)

pub returns : goal.returns
returns c =
    let t = c.args.t.now in
    let p = c.args.p in
    let o = record_start p + 28 in
    let idle = c.idle in
    let w = row_back t idle.new.r p c.requires.1.0 c.requires.0 idle.auto.r in
    collected-left t p c.requires.1 c.if-t-a-lt-MET.false _ idle.new.r _ w
    (idle.ensures ∙ ap (λ (r : List ℕ). at_place (process_of r) Place.Idle) (row-lent t p))
    (c.message_of-m.ensures ∙ ap (λ (k : ℕ). message_of (take k (drop o t))) (lent-count o 9))
