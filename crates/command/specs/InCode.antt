-- To be believed. A command, or that a line is malformed, as the code hands it on.
use Rattle.std.specs.Prelude.{Option, option_map}
use Rattle.alternative.specs.Guards.{lent}
use Rattle.command.specs.Types.{Call, Offer, Step, Collect, Withdraw, Command, New, Do, Movers, CallInCode, InCode}

abbrev pub call_in_code : Call → CallInCode
call_in_code (Offer p gs) = CallInCode.Offer p (lent gs)
call_in_code (Step p) = CallInCode.Step p
call_in_code (Collect p) = CallInCode.Collect p
call_in_code (Withdraw p) = CallInCode.Withdraw p

abbrev pub in_code : Command → InCode
in_code (New n d) = InCode.New n d
in_code (Do call) = InCode.Do (call_in_code call)
in_code Movers = InCode.Movers

abbrev pub as_parsed : Option Command → Option InCode
as_parsed o = option_map in_code o
