-- The cases of withdrawals hold, by computation over the definitions.
use mathlib.Core.Path.{refl}
use lib.Ieee.{of_bits}
use Rattle.alternative.specs.Guards.{guards_match, any_guard, first_from, outranked, kept_match, next_enabled, slots, lent}
use Rattle.process.specs.Rules.{scan_from, hand_over, rule}
use Rattle.process.specs.Fits.{all_guards, partner_fits, list_fits, process_fits}
use Rattle.rendezvous.specs.Table.{count_below}
use Rattle.rendezvous.specs.WellFormed.{all_below, count_fits, nap_fits, fits_at, totals_fit, well_formed}
use Rattle.rendezvous.specs.Refusals.{require_guards, create_verdict, table_verdict, process_verdict, list_verdict, state_verdict, offer_verdict, withdraw_verdict}
use Rattle.rendezvous.specs.Calls.{create, entering, offered, offer_list, effect_on, stepped, step, collect, withdraw}
use Rattle.rendezvous.specs.Movers.{set_below, runnable_set, runnable}
use Rattle.rendezvous.specs.Run.{reply_to}
use Rattle.rendezvous.specs.Commands.{reply_to_command}
use Rattle.history.specs.Book.{with_rendezvous, committing, enter}
use Rattle.history.specs.Machine.{book_after_all, made_by_all}
use Rattle.history.specs.Cases.{all_said}
use Rattle.history.specs.Withdrawals.{everywhere, stories, Withdrawals}

pub withdrawals-hold : Withdrawals
unfolding guards_match any_guard first_from outranked kept_match next_enabled slots lent scan_from hand_over rule all_guards all_below count_fits nap_fits partner_fits list_fits process_fits fits_at totals_fit count_below well_formed require_guards create_verdict table_verdict process_verdict list_verdict state_verdict offer_verdict withdraw_verdict create entering offered offer_list effect_on stepped step collect withdraw set_below runnable_set runnable reply_to with_rendezvous committing enter book_after_all made_by_all reply_to_command all_said everywhere stories of_bits lib.Ieee.is_nan
withdrawals-hold = record { places = refl; cases = refl; leaves = (refl, refl); stays = (refl, refl); made_run = refl; book_run = refl; tickets = refl }
