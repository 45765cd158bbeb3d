-- To be believed. Document 01's numbers and values for each case of an answer, and those of CRs 1 and 3 of document 02.
use Rattle.std.specs.Prelude.{Option, Result, Ok, Err}
use Rattle.process.specs.Process.{letter_of, index_of}
use Rattle.rendezvous.specs.Types.{ℕ, Message, Refusal, Answer}

-- "What turns a call away"; 14 is CR 1's, 15 is CR 3's
abbrev pub refusal_number : Refusal → ℕ
refusal_number Refusal.ProcessCount = 1
refusal_number Refusal.NapLength = 15
refusal_number Refusal.NotWellFormed = 7
refusal_number Refusal.NoSuchProcess = 2
refusal_number Refusal.GuardCount = 3
refusal_number Refusal.Partner = 4
refusal_number Refusal.NotANumber = 5
refusal_number Refusal.NoneEnabled = 6
refusal_number Refusal.NotIdle = 11
refusal_number Refusal.LastTransaction = 12
refusal_number Refusal.NotMet = 13
refusal_number Refusal.NothingToWithdraw = 14

-- What an answer says: a place by its letter, "with the guard index at A, T and C"; an outcome by guard index, partner and message; of a withdrawal "withdrawn" or "too late".
pub data Said : Type 0 where
  made : Said
  ticket : ℕ → Said
  place : ℕ → Option ℕ → Said
  same : Said
  outcome : ℕ → ℕ → Message → Said
  withdrawn : Said
  too_late : Said
  movers : ℕ → Said
  refusal : ℕ → Said

abbrev pub said : Result Answer Refusal → Said
said (Ok Answer.Made) = made
said (Ok (Answer.Offered t)) = ticket t.0
said (Ok (Answer.Moved at)) = place (letter_of at) (index_of at)
said (Ok Answer.Unchanged) = same
said (Ok (Answer.Collected i q m)) = outcome i q m
said (Ok Answer.Withdrawn) = withdrawn
said (Ok Answer.TooLate) = too_late
said (Ok (Answer.Runnable set)) = movers set
said (Err r) = refusal (refusal_number r)
