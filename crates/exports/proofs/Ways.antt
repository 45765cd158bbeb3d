-- A refused offer hands the table back; and a message by way of the calls, by computation.
use Rattle.std.specs.Prelude.{Err}
use mathlib.Core.Path.{◌≡◌, refl}
use mathlib.Core.Bool.{Bool, true, false}
use mathlib.Core.List.{List}
use lib.Dec.{ltb}
use Rattle.alternative.specs.Guards.{guards_match, any_guard, first_from, outranked, kept_match}
use Rattle.process.specs.Rules.{hand_over, rule}
use Rattle.process.specs.Fits.{all_guards, partner_fits, list_fits, process_fits}
use Rattle.rendezvous.specs.Table.{count_below}
use Rattle.rendezvous.specs.WellFormed.{all_below, count_fits, nap_fits, fits_at, totals_fit, well_formed}
use Rattle.rendezvous.specs.Refusals.{require, process_verdict, list_verdict, offer_verdict}
use Rattle.rendezvous.specs.Calls.{if_accepted, offered, offer_list, effect_on, stepped, step, collect}
use Rattle.process.specs.declared.Place.{Place}
use Rattle.rendezvous.specs.declared.{Refusal.Refusal}
use Rattle.exports.specs.Types.{Message, Action, Guard, ProcessTable, Reply}
use Rattle.exports.specs.Private.{facing, collected_of}

refused-twice : (formed named : Bool) (t : ProcessTable) (reply : Reply)
    → (if_accepted (require formed Refusal.NotWellFormed (require named Refusal.NoSuchProcess (Err Refusal.GuardCount))) t reply).table ≡ t
refused-twice false named t reply = refl
refused-twice true false t reply = refl
refused-twice true true t reply = refl

pub no-guards : (t : ProcessTable) (guards : List Guard) → (offer_list t 0 (record { count = 0; guards = guards })).table ≡ t
unfolding offer_list offer_verdict list_verdict
no-guards t guards = refused-twice (well_formed t) (ltb 0 t.head.n) t (offered t 0 (record { count = 0; guards = guards }))

pub received_is : (m : Message) → collected_of (collect (step (step (step (facing Place.Posting (Action.Send m) Action.Receive) 0).table 1).table 1).table 1).answer ≡ m
unfolding guards_match any_guard first_from outranked kept_match hand_over rule all_guards partner_fits list_fits process_fits all_below count_fits nap_fits fits_at totals_fit count_below well_formed process_verdict effect_on stepped step collect
received_is m = refl

pub sent_is : (m : Message) → collected_of (collect (step (step (step (facing Place.Waiting Action.Receive (Action.Send m)) 1).table 1).table 0).table 0).answer ≡ m
unfolding guards_match any_guard first_from outranked kept_match hand_over rule all_guards partner_fits list_fits process_fits all_below count_fits nap_fits fits_at totals_fit count_below well_formed process_verdict effect_on stepped step collect
sent_is m = refl
