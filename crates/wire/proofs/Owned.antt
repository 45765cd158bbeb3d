-- What owning a table tells of its values: that the code's types can hold them.
use Rattle.std.specs.Prelude.{ℕ, Option, Some, None}
use mathlib.Core.Path.{subst}
use mathlib.Core.List.{List, [], ◌∷◌}
use borrow.Author.Rules.{rules}
use mir.Val.{Val}
use Rattle.alternative.specs.Guards.{most_guards}
use Rattle.std.specs.contracts.option.Option as option
use Rattle.alternative.specs.contracts.Message as message
use Rattle.alternative.specs.contracts.Action as action
use Rattle.alternative.specs.contracts.Guard as guard
use Rattle.process.specs.contracts.Place as place
use Rattle.process.specs.contracts.Process as process
use Rattle.process.proofs.PlaceCases.{if-met}
use Rattle.rendezvous.specs.contracts.ProcessTable as table
use Rattle.wire.specs.Types.{Message, Action, Guard, Place, Process, ProcessTable}
use Rattle.wire.specs.Claims.{MessageHeld, ActionHeld, SignalHeld, PlaceHeld, Each, GuardsHeld, ProcessHeld, Held}
use denote.Shadow.{shadow}
use denote.Array.{each}
use base.Fml.{Fml}
use denote.Struct.Field.{row_field}
use denote.Builtin.{Array, u8}
use denote.Struct.Tuple.{Tuple}
use denote.Struct.Declared as declared

message-held : (m : Message) (vs : List Val) → shadow ((message.the_row).own_val m vs) → MessageHeld m
message-held Message.Nothing vs h = tt
message-held (Message.Whole z) vs h = record { sfits = search }
message-held (Message.Reading x) vs h = search rules
message-held (Message.Limit low high) vs h = (search rules, search rules)

action-held : (a : Action) (vs : List Val) → shadow ((action.the_row).own_val a vs) → ActionHeld a
action-held Action.Receive vs h = tt
action-held (Action.Send m) vs h = search message-held

pub guard-held : (g : Guard) (vs : List Val) → shadow ((declared.row guard.the_type).own_val g vs) → ActionHeld g.action
guard-held g vs h = search action-held

signal-held : (s : Option (ℕ × Message)) (vs : List Val) → shadow ((option.the_row (Tuple (u8 ∷ message.the_row ∷ []))).own_val s vs) → SignalHeld s
signal-held None vs h = tt
signal-held (Some (i, m)) vs h = search message-held

place-held : (p : Place) (vs : List Val) → shadow ((place.the_row).own_val p vs) → PlaceHeld p
place-held p vs h =
    if-met MessageHeld Message.Nothing (λ i m. m) p
    (λ i m e. let g : shadow ((place.the_row).own_val (Place.Met i m) vs) = subst (λ (q : Place). shadow ((place.the_row).own_val q vs)) e h in search message-held)
    tt

-- the elements of an array
each-held : {A : Type 0} (P : A → Type 0) (own : A → List Val → Fml) → ((x : A) (vs : List Val) → shadow (own x vs) → P x)
    → (xs : List A) (us : List Val) → shadow (each A own xs us) → Each P xs
each-held P own f [] us h = tt
each-held P own f (x ∷ xs) [] h = absurd h
each-held P own f (x ∷ xs) (u ∷ us) h = (f x (u ∷ []) h.0, each-held P own f xs us h.1)

guards-held : (gs : List Guard) (vs : List Val) → shadow ((row_field (Array guard.the_row (tt {0}) most_guards)).row.own_val gs vs) → GuardsHeld gs
guards-held gs vs h = record { slots = h.1.0.1; each = each-held (λ (g : Guard). ActionHeld g.action) (guard.the_row).own_val guard-held gs h.0 h.1.1 }

process-held : (x : Process) (vs : List Val) → shadow ((declared.row process.the_type).own_val x vs) → ProcessHeld x
process-held x vs h = record { place = search place-held; signal = search signal-held; ticket = search; own = guards-held x.guards _ h.1.1.1.1.1.1.1.1.0; posted = guards-held x.altlist _ h.1.1.1.1.1.1.1.1.1.0 }

pub table-held : (t : ProcessTable) (vs : List Val) → shadow ((declared.row table.the_type).own_val t vs) → Held t
table-held t vs h = record {
  head = search;
  records = h.1.1.1.0.1.0.1;
  each = each-held ProcessHeld (process.the_row).own_val process-held t.processes h.1.1.1.0.0 h.1.1.1.0.1.1;
}
