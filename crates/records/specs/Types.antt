-- To be believed as names only, gathered for the definitions here: the libraries' and the types that the code declares. No definition of its own.
pub use Rattle.std.specs.Prelude.{ℕ, zero, suc, ◌+◌, ◌*◌, ◌%◌, ◌≤◌, ◌<◌, ◌≡◌, Bool, true, false, not, ◌&&◌, ◌||◌, cond, List, [], ◌∷◌, ◌++◌, length, get_or, take, drop, eqb, ltb, leb}
pub use Rattle.alternative.specs.declared.{Message.Message, Action.Action, Guard.Guard, GuardList.GuardList}
pub use Rattle.process.specs.declared.{TransactionId.TransactionId, Place.Place, Process.Process}
