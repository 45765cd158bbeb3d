use Rattle.std.proofs.Common.{drop}
use native.Mathlib.Nat.{le_refl}
use borrow.Author.Tests.{ne_eqb}
use Rattle.script.specs.Lines.{begun_length}
use Rattle.exports.specs.Layout.{begun_at}
use Rattle.exports.specs.Scripts.{state_in}
use Rattle.exports.proofs.Sessions.{over_zeros}
use Rattle.exports.proofs.scripts.session_in.Goals as goal

pub returns-then-made : goal.returns-then-made
unfolding state_in
returns-then-made c =
    let made = rw c.byte_at-made.ensures at (ne_eqb c.byte_at-made.result 0 c.if-made.true) in
    rw (
      made,
      c.decode.ensures,
      c.from-then-made.ensures,
      c.byte_at.ensures,
      c.put_bytes.ensures,
      c.from.ensures,
      over_zeros begun_length begun_length (drop begun_at c.args.state.now) (le_refl begun_length),
    )

pub returns-else-made : goal.returns-else-made
unfolding state_in
returns-else-made c =
    rw (
      ← c.byte_at-made.ensures,
      c.if-made.false,
      c.byte_at.ensures,
      c.put_bytes.ensures,
      c.from.ensures,
      over_zeros begun_length begun_length (drop begun_at c.args.state.now) (le_refl begun_length),
    )
