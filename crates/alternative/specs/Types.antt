-- To be believed as names only, gathered for the definitions: the libraries', for the files of all crates, and the types that the code declares. No definition of its own.
pub use Rattle.std.specs.Prelude.{ℕ, zero, suc, ◌+◌, ◌^◌, ◌≤◌, ◌<◌, ◌≡◌, Bool, true, false, not, ◌&&◌, ◌||◌, cond, List, [], ◌∷◌, ◌++◌, ◌⊎◌, length, take, drop, replicate, get_or, set, eqb, ltb, leb}
pub use Prim.Native.Char.{Char, code}
pub use Prim.Native.String.{String}
pub use Rattle.alternative.specs.declared.{Message.Message, Action.Action, Guard.Guard, GuardList.GuardList}
