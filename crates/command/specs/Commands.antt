-- To be believed. Document 01, "The script program", and CRs 1, 2, 3 and 5 of document 02: what a line says. `None` where it says no command: the line is malformed.
use Rattle.std.specs.Prelude.{ℕ, Bool, true, false, cond, List, [], ◌∷◌, take, drop, eqb, Option, Some, None}
use Rattle.std.specs.List.{prefix_len, position_or_len}
use Prim.Native.Char.{code}
use Rattle.std.specs.Float.{binary32}
use Rattle.std.specs.Float.Ieee.{of_bits}
use Rattle.alternative.specs.Guards.{of_kind, of_rank}
use Rattle.text.specs.Types.{◌>>=◌}
use Rattle.text.specs.Reading.{is_digit, provided, byte_number, whole, hex_word}
use Rattle.command.specs.Types.{Message, Action, Guard, Offer, Step, Collect, Withdraw, Command, New, Do, Movers}

-- b as the first byte of the first field
abbrev pub put_before : ℕ → List (List ℕ) → List (List ℕ)
put_before b [] = (b ∷ []) ∷ []
put_before b (f ∷ fs) = (b ∷ f) ∷ fs

-- "fields parted by one space": the line cut at each space. A second space in a row, or one at an end, leaves an empty field, which is no letter, number or guard.
unfoldable pub fields : List ℕ → List (List ℕ)
fields [] = [] ∷ []
fields (b ∷ bs) = cond (eqb b (code " ")) ([] ∷ fields bs) (put_before b (fields bs))

-- there is nothing more
abbrev pub is_empty : {A : Type 0} → List A → Bool
is_empty [] = true
is_empty (x ∷ xs) = false

-- "`w` and a decimal of 32 bits signed": the bytes after the `w`
unfoldable pub whole_in : List ℕ → Option Message
whole_in bs = do
  n ← whole bs
  Some (Message.Whole n)

-- "`r` and eight lower-case hexadecimal digits of the f32's bits". The bits of a NaN give the one NaN, which the offer refuses.
unfoldable pub reading_in : List ℕ → Option Message
reading_in bs = do
  bits ← hex_word bs
  Some (Message.Reading (of_bits binary32 bits))

-- "`l` and sixteen such digits": eight for "low" and eight for "high"
unfoldable pub limit_in : List ℕ → Option Message
limit_in bs = do
  low ← hex_word (take 8 bs)
  high ← hex_word (drop 8 bs)
  Some (Message.Limit (of_bits binary32 low) (of_bits binary32 high))

-- "a message: `0` nothing, `w` .., `r` .., `l` ..": the letter k, and the bytes after it
unfoldable pub message_by : ℕ → List ℕ → Option Message
message_by k bs =
    cond (eqb k (code "0")) (provided (is_empty bs) Message.Nothing)
    (cond (eqb k (code "w")) (whole_in bs)
    (cond (eqb k (code "r")) (reading_in bs)
    (cond (eqb k (code "l")) (limit_in bs) None)))

unfoldable pub message_in : List ℕ → Option Message
message_in [] = None
message_in (k ∷ bs) = message_by k bs

-- "`!` with a message": the bytes after the `!`
unfoldable pub send_in : List ℕ → Option Action
send_in bs = do
  m ← message_in bs
  Some (Action.Send m)

-- "and then `?`, or `!` with a message"
unfoldable pub action_by : ℕ → List ℕ → Option Action
action_by k bs =
    cond (eqb k (code "?")) (provided (is_empty bs) Action.Receive)
    (cond (eqb k (code "!")) (send_in bs) None)

unfoldable pub action_in : List ℕ → Option Action
action_in [] = None
action_in (k ∷ bs) = action_by k bs

-- how many digits the bytes start with
abbrev pub digit_count : List ℕ → ℕ
digit_count bs = prefix_len is_digit bs

-- "the partner in the same decimal form, and then" the action. Kind and rank are 0 until kinded_guard_in and guard_in give it others.
unfoldable pub guard_from : Bool → List ℕ → Option Guard
guard_from enabled bs = do
  partner ← byte_number (take (digit_count bs) bs)
  action ← action_in (drop (digit_count bs) bs)
  Some (record { enabled = enabled; partner = partner; kind = 0; rank = 0; action = action })

-- "A guard is an optional `-` (disabled), the partner .., and then" the action
unfoldable pub plain_guard_in : List ℕ → Option Guard
plain_guard_in [] = None
plain_guard_in (b ∷ bs) = cond (eqb b (code "-")) (guard_from false bs) (guard_from true (b ∷ bs))

-- how many bytes stand before the first c, or before the end
abbrev pub before : ℕ → List ℕ → ℕ
before c bs = position_or_len (λ b. eqb b c) bs

-- a kind or a rank: CR 2, "k formed like N", and we read CR 5's k alike. What stands after a cut is nothing, which says 0, or the mark that was cut at, and k
unfoldable pub marked_in : List ℕ → Option ℕ
marked_in [] = Some 0
marked_in (mark ∷ k) = byte_number k

-- CR 2: "The script writes `:k`, k formed like N, after the guard; left out, the kind is 0": the bytes are cut before their first `:`, and no guard of document 01 has one
unfoldable pub kinded_guard_in : List ℕ → Option Guard
kinded_guard_in bs = do
  guard ← plain_guard_in (take (before (code ":") bs) bs)
  kind ← marked_in (drop (before (code ":") bs) bs)
  Some (of_kind kind guard)

-- CR 5: a rank, "written `^k` after the kind or, without one, after the guard, 0 if left out": the field is cut before its first `^`, and no guard or kind has one
unfoldable pub guard_in : List ℕ → Option Guard
guard_in bs = do
  guard ← kinded_guard_in (take (before (code "^") bs) bs)
  rank ← marked_in (drop (before (code "^") bs) bs)
  Some (of_rank rank guard)

-- "G..": "no guards or more", one in each field
unfoldable pub guards_in : List (List ℕ) → Option (List Guard)
guards_in [] = Some []
guards_in (f ∷ fs) = do
  g ← guard_in f
  gs ← guards_in fs
  Some (g ∷ gs)

-- "N and P are decimal, 0 to 255, no leading zeros": the only field
unfoldable pub number_in : List (List ℕ) → Option ℕ
number_in [] = None
number_in (f ∷ []) = byte_number f
number_in (f ∷ g ∷ fs) = None

-- "`o P G..`": the fields after the letter
unfoldable pub offer_in : List (List ℕ) → Option Command
offer_in [] = None
offer_in (f ∷ fs) = do
  p ← byte_number f
  gs ← guards_in fs
  Some (Do (Offer p gs))

-- CR 3: "`n N` without a second number means 1": what stands after N is nothing, or the nap length d, in the form of N, as the only field
unfoldable pub nap_in : List (List ℕ) → Option ℕ
nap_in [] = Some 1
nap_in (f ∷ fs) = number_in (f ∷ fs)

-- "`n N`", and CR 3's nap length: the fields after the letter
unfoldable pub new_in : List (List ℕ) → Option Command
new_in [] = None
new_in (f ∷ fs) = do
  n ← byte_number f
  d ← nap_in fs
  Some (New n d)

-- "`s P`", "`c P`", "`w P`": the fields after the letter
unfoldable pub numbered : (ℕ → Command) → List (List ℕ) → Option Command
numbered make fs = do
  p ← number_in fs
  Some (make p)

-- "`n N` makes a desk; `o P G..` offers, with no guards or more; `s P` steps; `c P` collects; `m` prints movers.", and CR 1's "`w P`": the letter k, and the fields after it
unfoldable pub by_letter : ℕ → List (List ℕ) → Option Command
by_letter k fs =
    cond (eqb k (code "n")) (new_in fs)
    (cond (eqb k (code "o")) (offer_in fs)
    (cond (eqb k (code "s")) (numbered (λ p. Do (Step p)) fs)
    (cond (eqb k (code "c")) (numbered (λ p. Do (Collect p)) fs)
    (cond (eqb k (code "w")) (numbered (λ p. Do (Withdraw p)) fs)
    (cond (eqb k (code "m")) (provided (is_empty fs) Movers) None)))))

-- the first field is a letter, which is one byte
unfoldable pub command_in : List (List ℕ) → Option Command
command_in [] = None
command_in ([] ∷ fs) = None
command_in ((k ∷ []) ∷ fs) = by_letter k fs
command_in ((k ∷ b ∷ bs) ∷ fs) = None

-- the command that a line says. "Anything else .. gives 8": `None`
unfoldable pub command_of : List ℕ → Option Command
command_of line = command_in (fields line)
