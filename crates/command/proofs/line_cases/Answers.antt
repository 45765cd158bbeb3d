-- Each case by computation.
use Rattle.std.proofs.Common.{refl}
use Rattle.text.specs.Ascii.{bytes}
use Rattle.text.specs.Digits.{place_from, hex_digit}
use Rattle.text.specs.Reading.{decimal_from, decimal, byte_number, whole, hex_from, hex_word}
use Rattle.command.specs.Commands.{fields, whole_in, reading_in, limit_in, message_by, message_in, send_in, action_by, action_in, guard_from}
use Rattle.command.specs.Commands.{plain_guard_in, marked_in, kinded_guard_in, guard_in, guards_in, number_in, nap_in, new_in, offer_in, numbered, by_letter, command_in, command_of}
use Rattle.command.proofs.line_cases.Goals as goal

pub returns : goal.returns
unfolding bytes place_from hex_digit decimal_from decimal byte_number whole hex_from hex_word fields whole_in reading_in limit_in message_by message_in send_in action_by action_in guard_from plain_guard_in marked_in kinded_guard_in guard_in guards_in number_in nap_in new_in offer_in numbered by_letter command_in command_of
returns c =
    record {
      commands = (refl, refl, refl, refl, refl, refl, refl, refl, refl, refl, refl);
      kinds = (refl, refl, refl, refl, refl, refl, refl, refl, refl, refl, refl, refl, refl, refl, refl, refl, refl);
      ranks = (refl, refl, refl, refl, refl, refl, refl, refl, refl, refl, refl, refl, refl, refl, refl, refl, refl, refl, refl, refl, refl, refl, refl, refl, refl, refl, refl);
      naps = (refl, refl, refl, refl, refl, refl, refl, refl, refl, refl, refl, refl, refl, refl, refl, refl);
      malformed = (refl, refl, refl, refl, refl, refl, refl, refl, refl, refl, refl, refl, refl, refl, refl, refl, refl, refl, refl, refl, refl);
    }
