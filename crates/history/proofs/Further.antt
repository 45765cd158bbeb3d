-- The further cases hold, by computation over the definitions.
use mathlib.Core.Path.{refl}
use lib.Ieee.{of_bits}
use Rattle.alternative.specs.Guards.{guards_match, any_guard, first_from, outranked, kept_match, next_enabled, slots, lent}
use Rattle.process.specs.Rules.{scan_from, hand_over, rule}
use Rattle.process.specs.Fits.{all_guards, partner_fits, list_fits, process_fits}
use Rattle.rendezvous.specs.Table.{count_below}
use Rattle.rendezvous.specs.WellFormed.{all_below, count_fits, nap_fits, fits_at, totals_fit, well_formed}
use Rattle.rendezvous.specs.Refusals.{require_guards, create_verdict, table_verdict, process_verdict, list_verdict, state_verdict, offer_verdict}
use Rattle.rendezvous.specs.Calls.{create, entering, offered, offer_list, effect_on, stepped, step, collect}
use Rattle.rendezvous.specs.Movers.{set_below, runnable_set, runnable}
use Rattle.rendezvous.specs.Run.{reply_to}
use Rattle.rendezvous.specs.Commands.{reply_to_command}
use Rattle.history.specs.Book.{with_rendezvous, committing, enter}
use Rattle.history.specs.Machine.{book_after_all, made_by_all}
use Rattle.history.specs.Cases.{all_said}
use Rattle.history.specs.Further.{further, Further}

pub further-hold : Further
unfolding guards_match any_guard first_from outranked kept_match next_enabled slots lent scan_from hand_over rule all_guards all_below count_fits nap_fits partner_fits list_fits process_fits fits_at totals_fit count_below well_formed require_guards create_verdict table_verdict process_verdict list_verdict state_verdict offer_verdict create entering offered offer_list effect_on stepped step collect set_below runnable_set runnable reply_to with_rendezvous committing enter book_after_all made_by_all reply_to_command all_said further of_bits lib.Ieee.is_nan
further-hold = record { cases = refl; offer_leaves = refl; open_at_2 = refl; not_open_at_n = refl; commits = refl; book_run = refl }
