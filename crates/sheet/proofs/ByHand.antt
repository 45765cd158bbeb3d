-- The sheets that were worked out by hand, by one computation over the definitions.
use mathlib.Core.Path.{refl}
use mathlib.Core.List.{flatten}
use lib.Ieee.{of_bits, to_bits}
use Rattle.alternative.specs.Guards.{guards_match, any_guard, first_from, outranked, kept_match, next_enabled, slots, lent}
use Rattle.process.specs.Rules.{scan_from, hand_over, rule}
use Rattle.process.specs.Fits.{all_guards, partner_fits, list_fits, process_fits}
use Rattle.rendezvous.specs.Table.{count_below}
use Rattle.rendezvous.specs.WellFormed.{all_below, count_fits, nap_fits, fits_at, totals_fit, well_formed}
use Rattle.rendezvous.specs.Refusals.{require_guards, create_verdict, table_verdict, process_verdict, list_verdict, state_verdict, offer_verdict, withdraw_verdict}
use Rattle.rendezvous.specs.Calls.{create, entering, offered, offer_list, effect_on, stepped, step, collect, withdraw}
use Rattle.rendezvous.specs.Movers.{set_below, runnable_set, runnable}
use Rattle.rendezvous.specs.Run.{reply_to}
use Rattle.rendezvous.specs.Commands.{reply_to_command}
use Rattle.text.specs.Ascii.{bytes}
use Rattle.text.specs.Digits.{place_from, hex_digit, hex_glyph}
use Rattle.text.specs.Reading.{decimal_from, decimal, byte_number, whole, hex_from, hex_word}
use Rattle.text.specs.Writing.{decimal_up_to, whole_text, hex_up_to}
use Rattle.command.specs.Commands.{fields, whole_in, reading_in, limit_in, message_by, message_in, send_in, action_by, action_in, guard_from, plain_guard_in}
use Rattle.command.specs.Commands.{marked_in, kinded_guard_in, guard_in, guards_in, number_in, nap_in, new_in, offer_in, numbered, by_letter, command_in, command_of}
use Rattle.script.specs.Printing.{message_text, answer_text}
use Rattle.script.specs.Lines.{lines_from, line_command}
use Rattle.script.specs.Session.{reply_from, answered, turn}
use Rattle.sheet.specs.Sheet.{table_after, sheet_text, sheet}
use Rattle.sheet.specs.Examples.{Examples}

pub examples-hold : Examples
unfolding guards_match any_guard first_from outranked kept_match next_enabled slots lent scan_from hand_over rule all_guards all_below count_fits nap_fits partner_fits list_fits process_fits fits_at totals_fit count_below well_formed require_guards create_verdict table_verdict process_verdict list_verdict state_verdict offer_verdict withdraw_verdict create entering offered offer_list effect_on stepped step collect withdraw set_below runnable_set runnable reply_to reply_to_command place_from hex_digit hex_glyph decimal_from decimal byte_number whole hex_from hex_word decimal_up_to whole_text hex_up_to fields whole_in reading_in limit_in message_by message_in send_in action_by action_in guard_from plain_guard_in marked_in kinded_guard_in guard_in guards_in number_in nap_in new_in offer_in numbered by_letter command_in command_of message_text answer_text lines_from line_command reply_from answered turn table_after sheet_text sheet bytes flatten of_bits to_bits lib.Ieee.is_nan
examples-hold = ((refl, refl, refl), refl, refl, refl, (refl, refl))
