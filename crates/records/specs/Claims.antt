-- To be believed. The bytes of one record, in their order, and what they are read as. The function `record_as_bytes` carries it.
use Rattle.alternative.specs.Guards.{blank}
use Rattle.records.specs.Types.{ℕ, true, false, List, [], Message, Action, Guard, Place, Process}
use Rattle.records.specs.Reading.{process_of}
use Rattle.std.specs.Float.{binary32}
use Rattle.std.specs.Float.Ieee.{of_bits}
use Rattle.std.specs.Prelude.{replicate, ◌≡◌, ◌∷◌, ◌++◌, Some}
use Rattle.std.specs.Int.{w32}
use Rattle.std.proofs.Common.{to_z}

-- eight bytes, of which six are 0
abbrev eight : ℕ → ℕ → List ℕ
eight a b = a ∷ b ∷ 0 ∷ 0 ∷ 0 ∷ 0 ∷ 0 ∷ 0 ∷ []

-- a list of two guards but for their partners: enabled, sends, kinds, ranks, eight messages
abbrev rest_of_two : List ℕ → List ℕ
rest_of_two message = eight 1 0 ++ eight 0 1 ++ eight 7 8 ++ eight 9 10 ++ replicate 9 0 ++ message ++ replicate 54 0

abbrev limit : List ℕ
limit = 3 ∷ 1 ∷ 0 ∷ 0 ∷ 0 ∷ 2 ∷ 0 ∷ 0 ∷ 0 ∷ []

abbrev whole : List ℕ
whole = 1 ∷ 5 ∷ 0 ∷ 0 ∷ 0 ∷ 0 ∷ 0 ∷ 0 ∷ 0 ∷ []

-- met at guard 1 with a reading, and signalled at guard 0 with nothing; two guards in the own list, two in the posted one; accepting; to the partners 3 and 4, and posted to 5 and 6; the ticket
-- 0x04030201
abbrev a_record : List ℕ
a_record =
    (10 ∷ 1 ∷ 0 ∷ 1 ∷ 0 ∷ 2 ∷ 2 ∷ 1 ∷ []) ++ eight 3 4 ++ eight 5 6 ++ (1 ∷ 2 ∷ 3 ∷ 4 ∷ []) ++ (2 ∷ 0x3d ∷ 0x0a ∷ 0x97 ∷ 0x40 ∷ 0 ∷ 0 ∷ 0 ∷ 0 ∷ [])
    ++ replicate 9 0 ++ (0 ∷ 0 ∷ []) ++ rest_of_two limit ++ rest_of_two whole

abbrev list_of_two : ℕ → ℕ → Message → List Guard
list_of_two first second message =
    record { enabled = true; partner = first; kind = 7; rank = 9; action = Action.Receive }
    ∷ record { enabled = false; partner = second; kind = 8; rank = 10; action = Action.Send message }
    ∷ replicate 6 blank

abbrev its_process : Process
its_process = record {
  place = Place.Met 1 (Message.Reading (of_bits binary32 0x40970a3d));
  signal = Some (0, Message.Nothing);
  transaction = record { 0 = 0x04030201 };
  accepting = true;
  count = 2;
  altcount = 2;
  guards = list_of_two 3 4 (Message.Limit (of_bits binary32 1) (of_bits binary32 2));
  altlist = list_of_two 5 6 (Message.Whole (to_z w32 5));
}

abbrev pub RecordAsBytes : Type 0
RecordAsBytes = process_of a_record ≡ its_process
