-- To be believed. CR 1 of document 02, as a claim about the definitions: a withdrawal is answered "withdrawn" exactly where an offer is open, which then is open no more.
use Rattle.std.specs.Prelude.{◌≡◌, Ok}
use Rattle.rendezvous.specs.Types.{ℕ, false, cond, ProcessTable, Answer}
use Rattle.rendezvous.specs.Table.{has_open_offer}
use Rattle.rendezvous.specs.Refusals.{withdraw_verdict}
use Rattle.rendezvous.specs.Calls.{withdraw}

-- of every table, damaged ones too
pub record WithdrawsOpen : Type 0 where
  -- a withdrawal that is not turned away answers "withdrawn" where the process has an open offer, and else "too late"
  pub answers : (t : ProcessTable) (p : ℕ) → withdraw_verdict t p ≡ Ok tt → (withdraw t p).answer ≡ cond (has_open_offer t p) (Ok Answer.Withdrawn) (Ok Answer.TooLate)
  -- "That offer is open no more."
  pub closes : (t : ProcessTable) (p : ℕ) → (withdraw t p).answer ≡ Ok Answer.Withdrawn → has_open_offer (withdraw t p).table p ≡ false
