-- To be believed. Document 01, "What turns a call away": what each call is tested for, in order. 13, of a collection alone, is in Calls. And CRs 1 and 3 of document 02.
use Rattle.std.specs.Prelude.{◌&&◌, ◌∷◌, Result, Ok, Err, ⊤}
use Rattle.alternative.specs.Guards.{most_guards, any_guard}
use Rattle.alternative.specs.Exchange.{action_holds_nan}
use Rattle.process.specs.Process.{is_at, is_idle}
use Rattle.process.specs.Fits.{partner_fits}
use Rattle.rendezvous.specs.Types.{ℕ, Bool, true, false, not, List, [], take, ltb, leb, Guard, GuardList, TransactionId, Place, Head, ProcessTable, Refusal}
use Rattle.rendezvous.specs.Table.{last_transaction, process}
use Rattle.rendezvous.specs.WellFormed.{count_fits, nap_fits, well_formed}

-- one test: what fails it is refused, what passes it goes on to the rest
abbrev pub require : Bool → Refusal → Result ⊤ Refusal → Result ⊤ Refusal
require true refusal rest = rest
require false refusal rest = Err refusal

-- a new table of n processes with nap length d: 1, and CR 3: "After the party count is tested, d = 0 gives 15."
unfoldable pub create_verdict : ℕ → ℕ → Result ⊤ Refusal
create_verdict n d = require (count_fits n) Refusal.ProcessCount (require (nap_fits d) Refusal.NapLength (Ok tt))

-- movers: 7
unfoldable pub table_verdict : ProcessTable → Result ⊤ Refusal
table_verdict t = require (well_formed t) Refusal.NotWellFormed (Ok tt)

-- any call of process p, by whether its table of n is well-formed: 7, 2, and then the rest
abbrev pub process_tests : Bool → ℕ → ℕ → Result ⊤ Refusal → Result ⊤ Refusal
process_tests formed n p rest = require formed Refusal.NotWellFormed (require (ltb p n) Refusal.NoSuchProcess rest)

-- a step or a collection by process p: 7, 2
unfoldable pub process_verdict : ProcessTable → ℕ → Result ⊤ Refusal
process_verdict t p = process_tests (well_formed t) t.head.n p (Ok tt)

-- an offer: "4, then 5, guard by guard" ..
unfoldable pub require_guards : ℕ → ℕ → List Guard → Result ⊤ Refusal → Result ⊤ Refusal
require_guards n p [] rest = rest
require_guards n p (g ∷ gs) rest =
    require (partner_fits n p g) Refusal.Partner
    (require (not (action_holds_nan g.action)) Refusal.NotANumber
    (require_guards n p gs rest))

-- .. with 3 before and 6 after them ..
unfoldable pub list_verdict : ℕ → ℕ → GuardList → Result ⊤ Refusal → Result ⊤ Refusal
list_verdict n p list rest =
    let gs = take list.count list.guards in
    require (leb 1 list.count && leb list.count most_guards) Refusal.GuardCount
    (require_guards n p gs
    (require (any_guard (λ g. g.enabled) gs) Refusal.NoneEnabled rest))

-- .. and from the state 11, then 12
unfoldable pub state_verdict : Place → TransactionId → Result ⊤ Refusal
state_verdict place next = require (is_idle place) Refusal.NotIdle (require (ltb next.0 last_transaction) Refusal.LastTransaction (Ok tt))

-- the whole: 7, 2, 3, 4 and 5, 6, 11, 12
abbrev pub offer_tests : Bool → Head → ℕ → GuardList → Place → Result ⊤ Refusal
offer_tests formed h p list place = process_tests formed h.n p (list_verdict h.n p list (state_verdict place h.next))

unfoldable pub offer_verdict : ProcessTable → ℕ → GuardList → Result ⊤ Refusal
offer_verdict t p list = offer_tests (well_formed t) t.head p list (process t p).place

-- CR 1, a withdrawal: "After 7 and 2, a party at I or M is turned away by 14."
abbrev pub withdraw_tests : Bool → ℕ → ℕ → Place → Result ⊤ Refusal
withdraw_tests formed n p place = process_tests formed n p (require (not (is_at "IM" place)) Refusal.NothingToWithdraw (Ok tt))

unfoldable pub withdraw_verdict : ProcessTable → ℕ → Result ⊤ Refusal
withdraw_verdict t p = withdraw_tests (well_formed t) t.head.n p (process t p).place
