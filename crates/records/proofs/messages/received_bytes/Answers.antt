use Rattle.std.proofs.Common.{sym, ◌∙◌, arith}
use Rattle.wire.specs.Reading.{message_of}
use Rattle.records.specs.Layout.{own_at}
use Rattle.records.proofs.Records.{receives, sends}
use Rattle.records.proofs.messages.received_bytes.Goals as goal

pub returns-then-x-i-ne0 : goal.returns-then-x-i-ne0
unfolding message_of
returns-then-x-i-ne0 c = sym (sends c.args.x.now own_at c.args.i (omega arith) c.requires.2 c.if-x-i-ne0.true _)

pub returns : goal.returns
returns c = c.sent_bytes.ensures ∙ sym (receives c.args.x.now own_at c.args.i (omega arith) c.requires.2 c.if-x-i-ne0.false _)
