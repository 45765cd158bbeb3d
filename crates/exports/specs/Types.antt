-- To be believed as names only, gathered for the definitions here: the libraries' and the types that the code declares. No definition of its own.
pub use Rattle.std.specs.Prelude.{ℕ, ◌-◌, ◌≡◌, Bool, true, false, ◌&&◌, cond, length, take, drop, replicate, leb}
pub use mathlib.Core.List.{List, [], ◌∷◌, ◌++◌, flatten}
pub use Rattle.alternative.specs.declared.{Message.Message, Action.Action, Guard.Guard}
pub use Rattle.process.specs.declared.{Place.Place, Process.Process}
pub use Rattle.rendezvous.specs.declared.{ProcessTable.ProcessTable, Answer.Answer, Reply.Reply}
