use Rattle.std.proofs.Common.{◌++◌, arith, length, length-append}
use Rattle.wire.specs.Writing.{message_bytes}
use Rattle.wire.proofs.Lengths.{message-length}
use Rattle.wire.proofs.Lists.{sets-join, sets-whole}
use Rattle.wire.proofs.writing.with_message.Goals as goal

pub returns : goal.returns
returns g c =
    let head = c.args.head.now in
    let message = message_bytes c.args.m in
    rw (c.put_bytes-2.ensures, c.message_bytes.ensures, c.put_bytes.ensures, sets-join _ 0 head message (length head) (omega arith))
    (sets-whole _ (head ++ message) (omega (arith, length-append head message, message-length c.args.m)))
