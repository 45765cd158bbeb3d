-- To be believed as names only, gathered for the definitions here: the commands, and the types that the code declares. No definition of its own.
pub use Rattle.alternative.specs.declared.Message.{Message}
pub use Rattle.alternative.specs.declared.GuardList.{GuardList}
pub use Rattle.rendezvous.specs.declared.ProcessTable.{ProcessTable}
pub use Rattle.rendezvous.specs.declared.Answer.{Answer}
pub use Rattle.rendezvous.specs.declared.Reply.{Reply}
pub use Rattle.rendezvous.specs.Run.{Offer, Step, Collect, Withdraw}
pub use Rattle.rendezvous.specs.Commands.{Command, New, Do, Movers}
pub use Rattle.script.specs.declared.Session.{Session}
