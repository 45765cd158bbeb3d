use Rattle.std.proofs.Common.{arith}
use Rattle.records.proofs.Matching.{turn-takes, turn-leaves, turn_last}
use Rattle.records.proofs.lists.kept_in.Goals.{then-matches-least, else-matches-least}
use Rattle.records.proofs.lists.kept_in.Goals as goal

pub loop-k-preserved : goal.loop-k-preserved
loop-k-preserved c =
    let a = c.args in
    let s = c.requires in
    let l = c.loop-k in
    let i = l.invariant in
    let turn = c.matches.ensures in
    elim c.if-matches-least.branch [
      | then-matches-least w ↦ rw (w.kept-is, w.least-is) (turn-takes a.p a.x.now a.y.now a.i a.q s.2 s.3 s.4 s.5 l.k c.loop-k-test.true l.kept l.least i (rw (← turn) w.if-matches-least.true))
      | else-matches-least w ↦ rw (w.kept-is, w.least-is) (turn-leaves a.p a.x.now a.y.now a.i a.q s.2 s.3 s.4 s.5 l.k c.loop-k-test.true l.kept l.least i (rw (← turn) w.if-matches-least.false))
    ]

pub returns : goal.returns
returns c =
    let a = c.args in
    let s = c.requires in
    let l = c.loop-k in
    turn_last a.p a.x.now a.y.now a.i a.q s.2 s.3 s.4 s.5 l.k l.kept l.least (omega arith) l.invariant
