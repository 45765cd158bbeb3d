-- To be believed as names only, gathered for the definitions here: the commands, and the types that the code declares. No definition of its own.
pub use Rattle.rendezvous.specs.Run.{Call, Offer, Step, Collect, Withdraw}
pub use Rattle.rendezvous.specs.Commands.{Command, New, Do, Movers}
pub use Rattle.alternative.specs.declared.Message.{Message}
pub use Rattle.alternative.specs.declared.Action.{Action}
pub use Rattle.alternative.specs.declared.Guard.{Guard}
pub use Rattle.alternative.specs.declared.GuardList.{GuardList}
pub use Rattle.command.specs.declared.Call.{Call as CallInCode}
pub use Rattle.command.specs.declared.Command.{Command as InCode}
