use Rattle.std.proofs.Common.{◌≡◌, ◌+◌, ◌<◌, ◌≤◌, length, take, refl, arith, rules, length-take, length-set}
use Rattle.text.proofs.Capped.{put-more, put-none, shown-length}
use Rattle.text.specs.Writing.{shown, line_length}
use Rattle.script.specs.Lines.{begun_length}
use Rattle.script.proofs.Lists.{take-most}
use Rattle.script.proofs.Outputs.{put-end, put_all}
use Rattle.script.proofs.Going.{going-byte, going-line, going_end, turn-is}
use Rattle.script.proofs.feeding.feed.Goals as goal
use Rattle.script.proofs.feeding.feed.Goals.{then-b-eq10, else-b-eq10+then-held-lt-BEGUN_BYTES, else-b-eq10+else-held-lt-BEGUN_BYTES}

pub loop-b-preserved : goal.loop-b-preserved
loop-b-preserved c =
    let l = c.loop-b in
    let g = l.invariant.going in
    let inside = c.loop-b-test.true in
    elim c.if-b-eq10.branch [
      -- a line has ended: its text is put into the output, and the next line begins
      | then-b-eq10 w ↦
          let text = shown w.turn.result in
          let short : length text ≤ line_length = shown-length w.turn.result (search rules) in
          let at : l.b-index < c.min-taken.result = omega (arith, length-take c.min-taken.result c.args.piece.now, inside) in
          let room : l.filled + line_length ≤ length l.out = omega (arith, c.min-taken.ensures, g.room, g.long, at) in
          let put = w.put-filled.ensures in
          rw (w.out-is, w.table-is, w.bytes-is, w.held-is, w.filled-is) record {
            begun = omega arith;
            long = l.invariant.long;
            going = going-line _ _ _ _ l.b-index _ _ _ g inside refl _ _ _ _ w.if-b-eq10.true (turn-is _ _ _ w.turn.ensures.prints w.turn.ensures.table) short room
                (put-end l.filled text l.out _ room put.value) (put_all l.filled text l.out _ _ room put.value put.out_after);
          }
      -- a byte that does not end the line
      | else-b-eq10+then-held-lt-BEGUN_BYTES w ↦
          rw (w.out-is, w.table-is, w.bytes-is, w.held-is, w.filled-is) record {
            begun = omega arith;
            long = simp length-set l.invariant.long;
            going = going-byte _ _ _ _ l.b-index _ _ _ g inside refl _ w.if-b-eq10.false (put-more l.bytes begun_length l.held _ l.invariant.long (omega arith));
          }
      | else-b-eq10+else-held-lt-BEGUN_BYTES w ↦
          rw (w.out-is, w.table-is, w.bytes-is, w.held-is, w.filled-is) record {
            begun = l.invariant.begun;
            long = l.invariant.long;
            going = going-byte _ _ _ _ l.b-index _ _ _ g inside refl _ w.if-b-eq10.false (put-none l.bytes begun_length l.held _ l.invariant.long (omega arith));
          }
    ]

pub returns : goal.returns
returns c =
    let l = c.loop-b in
    let s = c.args.session in
    let bytes : length s.bytes ≡ begun_length = search rules in
    let begun : take c.min-held.result s.bytes ≡ take s.length s.bytes = rw c.min-held.ensures (take-most s.bytes s.length begun_length bytes) in
    let g = l.invariant.going in
    let within : l.b-index ≤ c.min-taken.result = omega (arith, length-take c.min-taken.result c.args.piece.now) in
    let all = going_end _ _ _ _ l.b-index _ _ g c.loop-b-test.false (omega (arith, c.min-taken.ensures, g.room, g.long, within)) in
    let whole = rw begun at all in
    record { taken = c.min-taken.ensures; filled = whole.fills; session = whole.leaves; written = whole.writes }
