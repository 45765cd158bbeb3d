-- To be believed as names only, gathered for the definitions here: the libraries' and the types that the code declares. No definition of its own.
pub use Rattle.std.specs.Prelude.{◌+◌, ◌&&◌, ◌||◌, ◌∷◌}
pub use Rattle.alternative.specs.Types.{ℕ, suc, code, String, Bool, true, false, not, List, [], take, replicate, get_or, eqb, ltb, leb}
pub use Rattle.alternative.specs.declared.{Message.Message, Guard.Guard}
pub use Rattle.process.specs.declared.{Place.Place, State.State, Process.Process}
