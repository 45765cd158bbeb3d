use Rattle.std.proofs.Common.{sym, arith}
use Rattle.inplace.proofs.Ready.{room, partner-ready}
use Rattle.inplace.proofs.Moves.{scanning-moves}
use Rattle.inplace.proofs.runnable.goes_on.Goals as goal

pub bounds-t-b : goal.bounds-t-b
bounds-t-b c =
    let a = c.args in
    let tag = c.requires.1 in
    omega (arith, room a.t.now a.q (partner-ready a.t.now a.p c.requires.0 (omega (arith, tag)) (omega (arith, tag)) a.q c.requires.2))

pub word_at-requires : goal.word_at-requires
word_at-requires c =
    let a = c.args in
    let tag = c.requires.1 in
    omega (arith, room a.t.now a.q (partner-ready a.t.now a.p c.requires.0 (omega (arith, tag)) (omega (arith, tag)) a.q c.requires.2))

pub word_at-requires-2 : goal.word_at-requires-2
word_at-requires-2 c = omega (arith, room c.args.t.now c.args.p c.requires.0)

pub returns : goal.returns
returns c =
    let a = c.args in
    rw (c.passes.ensures, c.word_at-2.ensures, c.word_at.ensures) (sym (scanning-moves a.t.now a.p c.requires.0 c.requires.1 a.q c.requires.2))
