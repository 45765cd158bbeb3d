-- To be believed. CR 6 of document 02: sheets of short scripts, worked out by hand from documents 01 and 02. In each, offers = 2 × meetings + withdrawn + open.
use Rattle.std.specs.Prelude.{◌≡◌, replicate}
use mathlib.Core.List.{[], ◌++◌, flatten}
use Rattle.text.specs.Ascii.{bytes}
use Rattle.sheet.specs.Sheet.{sheet}

-- "all 0 if no desk was made": for no input, a refused `n`, and calls before an accepted one
abbrev pub NoTable : Type 0
NoTable = (sheet [] ≡ bytes "0 0 0 0\n") × (sheet (bytes "n 1\n") ≡ bytes "0 0 0 0\n") × (sheet (bytes "o 0 1?\nw 0\nn 33\n") ≡ bytes "0 0 0 0\n")

-- the marked session of document 01
abbrev pub MarkedSession : Type 0
MarkedSession = sheet (bytes "n 2\no 0 1!r40970a3d\no 1 0?\ns 0\ns 0\ns 0\ns 0\ns 0\ns 1\ns 1\ns 1\ns 1\ns 0\nc 1\nc 0\nm\n") ≡ bytes "2 1 0 0\n"

-- Process 0 withdraws twice, and offers t2; process 1 offers t3, and once more, which gives 11; process 2 offers t4, which stays open. At W process 0 is committed to by process 1, at C: for both
-- it is too late to withdraw. The last line is malformed.
abbrev pub Withdrawals : Type 0
Withdrawals =
    sheet (bytes "n 3\no 0 1?\nw 0\no 0 1?\nw 0\no 0 1?\no 1 0!w7\no 1 0!w7\no 2 0?\ns 0\ns 0\ns 0\ns 0\ns 0\ns 1\ns 1\ns 1\nw 0\nw 1\nw  2\n") ≡ bytes "5 1 2 1\n"

-- numbers of more than one digit
abbrev pub TenWithdrawals : Type 0
TenWithdrawals = sheet (bytes "n 2\n" ++ flatten (replicate 10 (bytes "o 0 1?\nw 0\n"))) ≡ bytes "10 0 10 0\n"

-- "for the last desk made": an accepted `n` begins anew; one that is refused, by 1 or 15 or since it is malformed or unended, does not
abbrev pub LastTable : Type 0
LastTable =
    (sheet (bytes "n 2\no 0 1?\no 1 0?\nn 3\no 2 0?\nw 2\no 2 1?\n") ≡ bytes "2 0 1 1\n") × (sheet (bytes "n 2\no 0 1?\nn 33\nn 2 0\nn 256\nn 2") ≡ bytes "1 0 0 1\n")

abbrev pub Examples : Type 0
Examples = NoTable × MarkedSession × Withdrawals × TenWithdrawals × LastTable
