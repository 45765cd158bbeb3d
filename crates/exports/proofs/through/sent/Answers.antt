use Rattle.exports.proofs.Ways.{sent_is}
use Rattle.exports.proofs.through.sent.Goals as goal

pub returns : goal.returns
returns c =
    rw (
      c.collected_of.ensures,
      c.collect.ensures,
      c.stepped-met.ensures,
      c.stepped-2.ensures,
      c.stepped.ensures,
      c.refused_to-table.ensures,
      c.facing_table.ensures,
    )
    (sent_is c.args.m)
