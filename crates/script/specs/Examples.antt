-- To be believed. Document 01, "The script program": the marked session, byte for byte; limits and whole numbers; what gives 8; and, of document 02, slots that close (CR 1), two sensors (CR 2), naps (CR 3) and an alarm (CR 5).
use Rattle.std.specs.Prelude.{ℕ, ◌≡◌, replicate}
use mathlib.Core.List.{List, ◌++◌, flatten}
use Rattle.text.specs.Ascii.{bytes}
use Rattle.script.specs.Session.{output}

-- "Input of the marked session, one command per bar", each ended by byte 10, and its "Whole output"
abbrev pub MarkedSession : Type 0
MarkedSession =
    output (bytes "n 2\no 0 1!r40970a3d\no 1 0?\ns 0\ns 0\ns 0\ns 0\ns 0\ns 1\ns 1\ns 1\ns 1\ns 0\nc 1\nc 0\nm\n")
    ≡ bytes "n 2\no 0 t0\no 1 t1\ns 0 A0\ns 0 P\ns 0 O\ns 0 H\ns 0 W\ns 1 A0\ns 1 T0\ns 1 C0\ns 1 M\ns 0 M\nc 1 0 0 r40970a3d\nc 0 0 1 0\nm 00000000\n"

-- A limit, low half before high, and the least whole number arrive as they were written; "a `c` line the party, guard index, partner, and the message as a guard writes it".
abbrev steps : List ℕ
steps = bytes "s 0\ns 0\ns 0\ns 0\ns 0\ns 1\ns 1\ns 1\ns 1\ns 0\n"

abbrev step_lines : List ℕ
step_lines = bytes "s 0 A0\ns 0 P\ns 0 O\ns 0 H\ns 0 W\ns 1 A0\ns 1 T0\ns 1 C0\ns 1 M\ns 0 M\n"

abbrev pub CarriedMessages : Type 0
CarriedMessages =
    output (bytes "n 2\no 0 1!l40970a3d80000000\no 1 0?\n" ++ steps ++ bytes "c 1\nc 0\no 0 1!w-2147483648\no 1 0?\n" ++ steps ++ bytes "c 1\nc 0\n")
    ≡ bytes "n 2\no 0 t0\no 1 t1\n" ++ step_lines ++ bytes "c 1 0 0 l40970a3d80000000\nc 0 0 1 0\no 0 t2\no 1 t3\n" ++ step_lines ++ bytes "c 1 0 0 w-2147483648\nc 0 0 1 0\n"

-- an offer of k guards, in 3 + 3 k bytes
unfoldable pub offer_line : ℕ → List ℕ
offer_line k = bytes "o 0" ++ flatten (replicate k (bytes " 1?"))

-- A command before an accepted `n`, a space too many, an empty line, a line of 201 bytes and an unended last line give 8. A line of 200 bytes does not (its offer has
-- more than eight guards). After a refused `n` reading goes on with the old table.
abbrev pub MalformedLines : Type 0
MalformedLines =
    output (bytes "s 0\nn 2\nm \n\no 0 1?\nn 33\nm\n" ++ offer_line 63 ++ bytes " 1!0 1!0\n" ++ offer_line 66 ++ bytes "\nn 2")
    ≡ bytes "x 8\nn 2\nx 8\nx 8\no 0 t0\nx 1\nm 00000001\nx 3\nx 8\nx 8\n"

-- CR 1: "`w P` prints `w`, P and `ok` or `late`.", where the slot closes before the commit, and after it; 14 at I, 2 for no process
abbrev pub ClosedSlots : Type 0
ClosedSlots =
    output (bytes "n 2\nw 0\nw 2\no 0 1?\nw 0\no 0 1?\no 1 0!r40970a3d\ns 0\ns 0\ns 0\ns 0\ns 0\ns 1\ns 1\ns 1\nw 0\nw 1\ns 1\ns 0\nw 0\nc 0\n")
    ≡ bytes "n 2\nx 14\nx 2\no 0 t0\nw 0 ok\no 0 t1\no 1 t2\ns 0 A0\ns 0 P\ns 0 O\ns 0 H\ns 0 W\ns 1 A0\ns 1 T0\ns 1 C0\nw 0 late\nw 1 late\ns 1 M\ns 0 M\nx 14\nc 0 0 1 r40970a3d\n"

-- CR 2: "The script writes `:k`, k formed like N, after the guard". Process 0 takes temperature, of kind 1, or strain, of kind 2; process 1 has a strain of 340 first and a temperature of 21.
-- The strain goes to the guard for strains. The second time process 0 has its guards in the other order, and its guard for strains finds no match. A kind of 256 gives 8.
abbrev pub TwoSensors : Type 0
TwoSensors =
    output (bytes "n 2\no 0 1?:1 1?:2\ns 0\ns 0\ns 0\ns 0\ns 0\ns 0\no 1 0!w340:2 0!w21:1\ns 1\ns 1\ns 1\ns 1\ns 0\nc 0\nc 1\no 1 0!w21:1\no 0 1?:2 1?:1\ns 1\ns 1\ns 1\ns 1\ns 1\ns 0\ns 0\ns 0\ns 0\ns 0\ns 0\ns 1\nc 0\no 0 1?:256\n")
    ≡ bytes "n 2\no 0 t0\ns 0 A0\ns 0 A1\ns 0 P\ns 0 O\ns 0 H\ns 0 W\no 1 t1\ns 1 A0\ns 1 T0\ns 1 C0\ns 1 M\ns 0 M\nc 0 1 1 w340\nc 1 0 0 0\no 1 t2\no 0 t3\ns 1 A0\ns 1 P\ns 1 O\ns 1 H\ns 1 W\ns 0 A0\ns 0 T0\ns 0 A1\ns 0 T1\ns 0 C1\ns 0 M\ns 1 M\nc 0 1 1 w21\nx 8\n"

-- CR 3: "a sleeper leaves S at its d-th own step there", here the third; 15 after 1, and 8 for a D over 255; "An `n` line shows N alone". While 1 naps, 0 passes. Process 1 naps once
-- more, and the count begins anew; "`n N` without a second number means 1".
abbrev pub Naps : Type 0
Naps =
    output (bytes "n 1 0\nn 2 0\nn 2 256\nn 2 3\no 0 1!r40970a3d\no 1 0?\ns 0\ns 1\ns 0\ns 1\ns 1\nm\ns 1\ns 1\ns 0\ns 1\ns 1\ns 0\nm\nn 2\no 0 1?\no 1 0!0\ns 0\ns 1\ns 1\ns 1\n")
    ≡ bytes "x 1\nx 15\nx 8\nn 2\no 0 t0\no 1 t1\ns 0 A0\ns 1 A0\ns 0 =\ns 1 S\ns 1 S\nm 00000003\ns 1 S\ns 1 A0\ns 0 =\ns 1 S\ns 1 S\ns 0 P\nm 00000003\nn 2\no 0 t0\no 1 t1\ns 0 A0\ns 1 A0\ns 1 S\ns 1 A0\n"

-- CR 5: "The alarm must beat the trend line where one guard of the scanning task matches both." Process 1 waits with the trend line, 184, and behind it the alarm, 17, of rank 9; the one guard
-- of process 0 keeps the alarm. A rank before the kind gives 8, and so does `^00`; `^0` may be written.
abbrev pub AlarmFirst : Type 0
AlarmFirst =
    output (bytes "n 2\no 1 0!w184 0!w17^9\ns 1\ns 1\ns 1\ns 1\ns 1\ns 1\no 0 1?\ns 0\ns 0\ns 0\ns 0\ns 1\nc 0\nc 1\no 0 1?^1:2\no 0 1?^00\no 0 1?:2^0\n")
    ≡ bytes "n 2\no 1 t0\ns 1 A0\ns 1 A1\ns 1 P\ns 1 O\ns 1 H\ns 1 W\no 0 t1\ns 0 A0\ns 0 T0\ns 0 C0\ns 0 M\ns 1 M\nc 0 0 1 w17\nc 1 1 0 0\nx 8\nx 8\no 0 t2\n"
