-- To be believed. How long a table is and where its records stand: the numbers of docs/BYTES.md; and the bytes of one head, in their order, with what they are read as. The functions `byte_lengths`
-- and `head_as_bytes` carry these.
use Rattle.rendezvous.specs.Table.{most_processes}
use Rattle.records.specs.Layout.{record_length}
use Rattle.inplace.specs.Types.{ℕ, List}
use Rattle.inplace.specs.Layout.{head_length, record_start, table_length}
use Rattle.inplace.specs.Reading.{head_of}
use Rattle.std.specs.Prelude.{[], ◌∷◌, ◌≡◌}

-- a record for each process stands behind the head, and nothing else
abbrev pub Lengths : Type 0
Lengths = (head_length ≡ 32) × (record_length ≡ 256) × (table_length ≡ 8224) × (record_start most_processes ≡ table_length)

-- 7 processes, naps of 9 steps, the next ticket 3, and totals no two bytes of which are the same
abbrev a_head : List ℕ
a_head = 7 ∷ 9 ∷ 0 ∷ 0 ∷ 3 ∷ 0 ∷ 0 ∷ 0 ∷ 1 ∷ 2 ∷ 3 ∷ 4 ∷ 5 ∷ 6 ∷ 7 ∷ 8 ∷ 9 ∷ 10 ∷ 11 ∷ 12 ∷ 13 ∷ 14 ∷ 15 ∷ 16 ∷ 0 ∷ 0 ∷ 0 ∷ 0 ∷ 0 ∷ 0 ∷ 0 ∷ 0 ∷ []

abbrev pub HeadAsBytes : Type 0
HeadAsBytes = head_of a_head ≡ record { n = 7; nap = 9; next = record { 0 = 3 }; meetings = 0x0807_0605_0403_0201; withdrawn = 0x100f_0e0d_0c0b_0a09 }
