use Rattle.std.proofs.Common.{◌*◌, ◌<◌, ◌≢◌, ◌∙◌, arith, length, length-set, drop, below_more, get_or-set_same, get_or-set_other}
use Rattle.std.proofs.Math.Seq.{drop-drop}
use Rattle.process.specs.Process.{nobody}
use Rattle.rendezvous.specs.Table.{most_processes}
use Rattle.wire.specs.Layout.{head_length, record_length}
use Rattle.wire.specs.Reading.{process_of, table_of}
use Rattle.wire.proofs.Lists.{each-is}
use Rattle.wire.proofs.decode.Goals as goal

pub loop-p-preserved : goal.loop-p-preserved
loop-p-preserved c =
    let read = c.loop-p.invariant in
    rw (c.process_of.ensures, c.from.ensures) (
      length-set _ _ _ ∙ read.0,
      below_more _ _
          (λ i h. let ne : i ≢ c.loop-p.p = omega arith in rw get_or-set_other (read.1 i h))
          (let lt : c.loop-p.p < length c.loop-p.x-items = omega (arith, read.0) in rw get_or-set_same),
    )

pub returns : goal.returns
unfolding table_of
returns c =
    let s = c.args.bytes.now in
    rw (
      c.head_of.ensures,
      each-is process_of record_length most_processes (drop head_length s) c.loop-p.x-items nobody c.loop-p.invariant.0 (λ i h. rw (drop-drop (record_length * i) head_length s) (c.loop-p.invariant.1 i (omega arith))),
    )
