-- To be believed as names only, gathered for the definitions here: the libraries' and the types that the code declares. No definition of its own.
pub use Rattle.std.specs.Prelude.{◌*◌, ◌-◌, ◌+◌, ◌^◌, ◌≡◌, ◌&&◌, ◌||◌, ◌∷◌}
pub use Rattle.alternative.specs.Types.{ℕ, zero, suc, Bool, true, false, not, cond, List, [], take, replicate, get_or, set, ltb, leb}
pub use Rattle.alternative.specs.declared.{Message.Message, Guard.Guard, GuardList.GuardList}
pub use Rattle.process.specs.declared.{TransactionId.TransactionId, Place.Place, Process.Process}
pub use Rattle.rendezvous.specs.declared.{Head.Head, ProcessTable.ProcessTable, Refusal.Refusal, Answer.Answer, Reply.Reply}
