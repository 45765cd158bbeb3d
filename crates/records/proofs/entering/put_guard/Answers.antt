use Rattle.std.proofs.Common.{subst}
use Rattle.wire.specs.Claims.{ActionHeld}
use Rattle.wire.proofs.Owned.{guard-held}
use Rattle.records.proofs.Slots.{receiver-put, sender-put}
use Rattle.records.proofs.entering.put_guard.Goals as goal

pub returns-in-Receive : goal.returns-in-Receive
returns-in-Receive c =
    let a = c.args in
    receiver-put a.r.now a.k a.g c.flag_byte.result c.requires.0 c.requires.1 c.flag_byte.ensures c.in-Receive.is

-- that the message is one which the code holds, owning the guard tells
pub returns-in-Send : goal.returns-in-Send
returns-in-Send c =
    let a = c.args in
    sender-put a.r.now a.k a.g c.flag_byte.result c.requires.0 c.requires.1 c.flag_byte.ensures
    c.in-Send.m (subst ActionHeld c.in-Send.is (guard-held a.g _ c.well_formed.1.1.0)) c.message_bytes.result c.message_bytes.ensures c.put_message.new.r c.put_message.ensures c.in-Send.is
