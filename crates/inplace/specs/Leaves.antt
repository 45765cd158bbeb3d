-- To be believed. What a call leaves of the bytes of the table that it works on in their place.
use Rattle.std.specs.Prelude.{◌≡◌, Result, Ok, Err}
use Rattle.rendezvous.specs.declared.Reply.{Reply}
use Rattle.inplace.specs.Types.{ℕ, Bool, true, false, List, drop, Answer}
use Rattle.inplace.specs.Layout.{table_length, record_bytes}
use Rattle.inplace.specs.Reading.{table_of}
use Rattle.rendezvous.specs.declared.Refusal.{Refusal}

-- a refusal, a step without change, a withdrawal that is too late, and the question who can move
abbrev pub changes_nothing : Result Answer Refusal → Bool
changes_nothing (Ok Answer.Made) = false
changes_nothing (Ok (Answer.Offered t)) = false
changes_nothing (Ok (Answer.Moved place)) = false
changes_nothing (Ok Answer.Unchanged) = true
changes_nothing (Ok (Answer.Collected i q m)) = false
changes_nothing (Ok Answer.Withdrawn) = false
changes_nothing (Ok Answer.TooLate) = true
changes_nothing (Ok (Answer.Runnable set)) = true
changes_nothing (Err r) = true

-- The bytes before and after a call, and its answer: the bytes afterwards stand for the reply's table. Where the call changes nothing, every byte is as it was, a NaN's payload and unused bytes
-- among them. Else it writes only into the head and into records that it changes, and what stands behind the table stays.
pub record Leaves (reply : Reply) (changed : ℕ → Bool) (before after : List ℕ) (answer : Result Answer Refusal) : Type 0 where
  pub answers : answer ≡ reply.answer
  pub stands_for : table_of after ≡ reply.table
  pub still : changes_nothing answer ≡ true → after ≡ before
  pub others : (r : ℕ) → changed r ≡ false → record_bytes after r ≡ record_bytes before r
  pub behind : drop table_length after ≡ drop table_length before
