-- To be believed. Document 01, "The script program" and "Edges to try", and CRs 1, 2, 3 and 5 of document 02: what some lines say. The function `line_cases` carries these claims.
use Rattle.std.specs.Prelude.{ℕ, ◌≡◌, true, false, [], ◌∷◌, neg_ℤ, pos, Option, Some, None}
use Prim.Native.String.{String}
use Rattle.std.specs.Float.{binary32}
use Rattle.std.specs.Float.Ieee.{of_bits}
use Rattle.text.specs.Ascii.{bytes}
use Rattle.command.specs.Types.{Message, Action, Guard, Offer, Step, Collect, Withdraw, Command, New, Do, Movers}
use Rattle.command.specs.Commands.{command_of}

abbrev says : String → Option Command
says line = command_of (bytes line)

-- guards of kind k and rank r, to partner p
abbrev receives_as : ℕ → ℕ → ℕ → Guard
receives_as k r p = record { enabled = true; partner = p; kind = k; rank = r; action = Action.Receive }

abbrev sends_as : ℕ → ℕ → ℕ → Message → Guard
sends_as k r p m = record { enabled = true; partner = p; kind = k; rank = r; action = Action.Send m }

abbrev disabled_as : ℕ → ℕ → ℕ → Guard
disabled_as k r p = record { enabled = false; partner = p; kind = k; rank = r; action = Action.Receive }

-- of rank 0
abbrev receives_of : ℕ → ℕ → Guard
receives_of k p = receives_as k 0 p

abbrev sends_of : ℕ → ℕ → Message → Guard
sends_of k p m = sends_as k 0 p m

abbrev disabled_of : ℕ → ℕ → Guard
disabled_of k p = disabled_as k 0 p

-- of kind 0, too
abbrev receives : ℕ → Guard
receives p = receives_of 0 p

abbrev sends : ℕ → Message → Guard
sends p m = sends_of 0 p m

pub record LineCases : Type 0 where
  pub commands : (says "n 2" ≡ Some (New 2 1))
      × (says "n 255" ≡ Some (New 255 1))
      × (says "o 0 1!r40970a3d" ≡ Some (Do (Offer 0 (sends 1 (Message.Reading (of_bits binary32 0x40970a3d)) ∷ []))))
      × (says "o 1 0?" ≡ Some (Do (Offer 1 (receives 0 ∷ []))))
      × (says "o 0" ≡ Some (Do (Offer 0 [])))
      × (says "o 0 1!w-2147483648 2!0 3!l0000000180000000" ≡ Some (Do (Offer 0 (sends 1 (Message.Whole (neg_ℤ (pos 2147483648))) ∷ sends 2 Message.Nothing ∷ sends 3 (Message.Limit (of_bits binary32 1) (of_bits binary32 0x80000000)) ∷ []))))
      × (says "o 0 -1?" ≡ Some (Do (Offer 0 (disabled_of 0 1 ∷ []))))
      × (says "s 0" ≡ Some (Do (Step 0)))
      × (says "c 1" ≡ Some (Do (Collect 1)))
      × (says "w 0" ≡ Some (Do (Withdraw 0)))
      × (says "m" ≡ Some Movers)
  -- "The script writes `:k`, k formed like N, after the guard; left out, the kind is 0"
  pub kinds : (says "o 1 0?:3" ≡ Some (Do (Offer 1 (receives_of 3 0 ∷ []))))
      × (says "o 1 0?:0" ≡ Some (Do (Offer 1 (receives 0 ∷ []))))
      × (says "o 1 -0?:255 0!w-7:16 0!0:1 0?" ≡ Some (Do (Offer 1 (disabled_of 255 0 ∷ sends_of 16 0 (Message.Whole (neg_ℤ (pos 7))) ∷ sends_of 1 0 Message.Nothing ∷ receives 0 ∷ []))))
      × (says "o 0 1!r40970a3d:10 1!l0000000180000000:128" ≡ Some (Do (Offer 0 (sends_of 10 1 (Message.Reading (of_bits binary32 0x40970a3d)) ∷ sends_of 128 1 (Message.Limit (of_bits binary32 1) (of_bits binary32 0x80000000)) ∷ []))))
      × (says "o 1 0?:" ≡ None)
      × (says "o 1 0?:00" ≡ None)
      × (says "o 1 0?:01" ≡ None)
      × (says "o 1 0?:256" ≡ None)
      × (says "o 1 0?:-1" ≡ None)
      × (says "o 1 0?:1:2" ≡ None)
      × (says "o 1 0?:1 " ≡ None)
      × (says "o 1 0? :1" ≡ None)
      × (says "o 1 0:1?" ≡ None)
      × (says "o 1 0!:1w7" ≡ None)
      × (says "o 1 :1" ≡ None)
      × (says "o 1:1 0?" ≡ None)
      × (says "s 1:1" ≡ None)
  -- "written `^k` after the kind or, without one, after the guard, 0 if left out"
  pub ranks : (says "o 1 0?:3^4" ≡ Some (Do (Offer 1 (receives_as 3 4 0 ∷ []))))
      × (says "o 1 0?^4" ≡ Some (Do (Offer 1 (receives_as 0 4 0 ∷ []))))
      × (says "o 1 0?:3" ≡ Some (Do (Offer 1 (receives_as 3 0 0 ∷ []))))
      × (says "o 1 0?^0" ≡ Some (Do (Offer 1 (receives 0 ∷ []))))
      × (says "o 1 0?:0^0" ≡ Some (Do (Offer 1 (receives 0 ∷ []))))
      × (says "o 1 -0?^255 0!w-7:16^9 0!0^1 0?" ≡ Some (Do (Offer 1 (disabled_as 0 255 0 ∷ sends_as 16 9 0 (Message.Whole (neg_ℤ (pos 7))) ∷ sends_as 0 1 0 Message.Nothing ∷ receives 0 ∷ []))))
      × (says "o 0 1!r40970a3d^10 1!l0000000180000000:2^128" ≡ Some (Do (Offer 0 (sends_as 0 10 1 (Message.Reading (of_bits binary32 0x40970a3d)) ∷ sends_as 2 128 1 (Message.Limit (of_bits binary32 1) (of_bits binary32 0x80000000)) ∷ []))))
      × (says "o 1 0?^4:3" ≡ None)
      × (says "o 1 0?^" ≡ None)
      × (says "o 1 0?:3^" ≡ None)
      × (says "o 1 0?:^4" ≡ None)
      × (says "o 1 0?^00" ≡ None)
      × (says "o 1 0?^01" ≡ None)
      × (says "o 1 0?^256" ≡ None)
      × (says "o 1 0?^-1" ≡ None)
      × (says "o 1 0?^1^2" ≡ None)
      × (says "o 1 0?^1 " ≡ None)
      × (says "o 1 0? ^1" ≡ None)
      × (says "o 1 0^1?" ≡ None)
      × (says "o 1 0!^1w7" ≡ None)
      × (says "o 1 ^1" ≡ None)
      × (says "o 1^1 0?" ≡ None)
      × (says "s 1^1" ≡ None)
      × (says "c 1^1" ≡ None)
      × (says "w 1^1" ≡ None)
      × (says "m^1" ≡ None)
      × (says "n 2^1" ≡ None)
  -- "`n N` without a second number means 1"; 0 is a number, which the call refuses
  pub naps : (says "n 2 1" ≡ Some (New 2 1))
      × (says "n 2 3" ≡ Some (New 2 3))
      × (says "n 32 255" ≡ Some (New 32 255))
      × (says "n 0 0" ≡ Some (New 0 0))
      × (says "n 2 256" ≡ None)
      × (says "n 2 00" ≡ None)
      × (says "n 2 01" ≡ None)
      × (says "n 2 -1" ≡ None)
      × (says "n 2 " ≡ None)
      × (says "n 2  3" ≡ None)
      × (says "n 2 3 " ≡ None)
      × (says "n 2 3 4" ≡ None)
      × (says "n  3" ≡ None)
      × (says "n 2:3" ≡ None)
      × (says "n 256 3" ≡ None)
      × (says "s 0 1" ≡ None)
  pub malformed : (says "n 256" ≡ None)
      × (says "n 02" ≡ None)
      × (says "n" ≡ None)
      × (says "N 2" ≡ None)
      × (says "" ≡ None)
      × (says "m 0" ≡ None)
      × (says "s  0" ≡ None)
      × (says "s 0 " ≡ None)
      × (says " s 0" ≡ None)
      × (says "o 0 " ≡ None)
      × (says "o 0  1?" ≡ None)
      × (says "o 0 1?x" ≡ None)
      × (says "o 0 1!" ≡ None)
      × (says "o 0 1!0x" ≡ None)
      × (says "o 0 1!w-0" ≡ None)
      × (says "o 0 1!r7FC00000" ≡ None)
      × (says "o 0 1!l00000001" ≡ None)
      × (says "o 0 --1?" ≡ None)
      × (says "w" ≡ None)
      × (says "w7" ≡ None)
      × (says "w 0 1" ≡ None)
