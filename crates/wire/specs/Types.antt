-- To be believed as names only, gathered for the definitions here: the libraries' and the types that the code declares. No definition of its own.
pub use Rattle.std.specs.Prelude.{ℕ, zero, suc, ◌+◌, ◌*◌, ◌/◌, ◌%◌, ◌^◌, ◌<◌, ◌≡◌, Bool, true, not, cond, length, get_or, drop, T, eqb, leb, Float}
pub use mathlib.Core.List.{List, [], ◌∷◌, ◌++◌, flatten}
pub use Rattle.std.specs.Float.{binary32}
pub use Rattle.std.specs.Float.Ieee.{of_bits, to_bits}
pub use Rattle.std.specs.Int.{w32}
pub use Rattle.std.proofs.Common.{to_z, of_z, SFits}
pub use Rattle.alternative.specs.declared.{Message.Message, Action.Action, Guard.Guard}
pub use Rattle.process.specs.declared.{Place.Place, Process.Process}
pub use Rattle.rendezvous.specs.declared.{Head.Head, ProcessTable.ProcessTable}
