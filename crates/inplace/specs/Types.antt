-- To be believed as names only, gathered for the definitions here: the libraries' and the types that the code declares. No definition of its own.
pub use Rattle.std.specs.Prelude.{ℕ, ◌+◌, ◌*◌, ◌≤◌, ◌<◌, ◌≡◌, Bool, true, false, ◌||◌, List, length, drop, eqb}
pub use Rattle.process.specs.declared.{TransactionId.TransactionId, Place.Place, Process.Process}
pub use Rattle.rendezvous.specs.declared.{Head.Head, ProcessTable.ProcessTable, Refusal.Refusal, Answer.Answer, Reply.Reply}
