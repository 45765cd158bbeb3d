use Rattle.std.proofs.Common.{sym, arith}
use Rattle.inplace.proofs.Ready.{room, index-most, partner-is}
use Rattle.inplace.proofs.Moves.{waiting-moves, else-moves}
use Rattle.inplace.proofs.runnable.moves.Goals as goal

pub bounds-t-a : goal.bounds-t-a
bounds-t-a c = omega (arith, room c.args.t.now c.args.p c.requires)

pub bounds-t-a-then-tag-eq-SCANNING : goal.bounds-t-a-then-tag-eq-SCANNING
bounds-t-a-then-tag-eq-SCANNING c = omega (arith, room c.args.t.now c.args.p c.requires)

-- the guard's index at A
pub bounds-t-a-then-tag-eq-SCANNING-2 : goal.bounds-t-a-then-tag-eq-SCANNING-2
bounds-t-a-then-tag-eq-SCANNING-2 c =
    let e = c.if-tag-eq-SCANNING.true in
    omega (arith, room c.args.t.now c.args.p c.requires, index-most c.args.t.now c.args.p c.requires (omega (arith, e)) (omega (arith, e)))

pub goes_on-requires : goal.goes_on-requires
goes_on-requires c =
    let e = c.if-tag-eq-SCANNING.true in
    (c.requires, e, sym (partner-is c.args.t.now c.args.p c.requires (omega (arith, e)) (omega (arith, e))))

pub bounds-t-a-then-tag-eq-WAITING : goal.bounds-t-a-then-tag-eq-WAITING
bounds-t-a-then-tag-eq-WAITING c = omega (arith, room c.args.t.now c.args.p c.requires)

pub returns-then-tag-eq-WAITING : goal.returns-then-tag-eq-WAITING
returns-then-tag-eq-WAITING c = sym (waiting-moves c.args.t.now c.args.p c.requires c.if-tag-eq-WAITING.true)

pub returns : goal.returns
returns c = sym (else-moves c.args.t.now c.args.p c.requires c.if-tag-eq-SCANNING.false c.if-tag-eq-WAITING.false)
