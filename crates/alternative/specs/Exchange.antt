-- To be believed. Document 01, rule 9 and refusal 5: the messages that a rendezvous hands over, and messages that hold a NaN.
use Rattle.std.specs.Prelude.{◌||◌}
use Rattle.std.specs.Float.Ieee.{is_nan}
use Rattle.alternative.specs.Types.{Bool, false, Message, Action}

-- "If the own guard sends, its message goes with the signal ..; if it receives, .. the signal nothing."
abbrev pub sent_by : Action → Message
sent_by Action.Receive = Message.Nothing
sent_by (Action.Send m) = m

-- "If the own guard sends, .. the outcome holds nothing; if it receives, the outcome holds the kept guard's message": the own guard's action, the kept guard's
abbrev pub received_by : Action → Action → Message
received_by Action.Receive other = sent_by other
received_by (Action.Send m) other = Message.Nothing

-- "a message holds an f32 that is not a number"
abbrev pub message_holds_nan : Message → Bool
message_holds_nan Message.Nothing = false
message_holds_nan (Message.Whole k) = false
message_holds_nan (Message.Reading x) = is_nan x
message_holds_nan (Message.Limit low high) = is_nan low || is_nan high

abbrev pub action_holds_nan : Action → Bool
action_holds_nan Action.Receive = false
action_holds_nan (Action.Send m) = message_holds_nan m
