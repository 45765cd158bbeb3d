-- Demand 3 of the tables, and that they stay well-formed: from any fresh table every list of calls goes well.
use Rattle.std.specs.Prelude.{Some, None}
use Prim.Native.Nat.{ℕ, ◌≤◌}
use mathlib.Core.Path.{◌≡◌, refl, ◌∙◌, subst⁻¹}
use mathlib.Core.Bool.{Bool, true, false, ◌&&◌, cond}
use mathlib.Core.List.{List}
use Rattle.std.proofs.lemmas.Option.{none-some}
use native.Mathlib.Omega.{arith}
use lib.Dec.{ltb}
use borrow.Author.Tests.{ltb-false}
use Rattle.process.specs.declared.Place.{Place}
use Rattle.rendezvous.specs.declared.ProcessTable.{ProcessTable}
use Rattle.process.specs.Process.{open_at, is_open, is_idle}
use Rattle.rendezvous.specs.Table.{most_processes, process, fresh_table}
use Rattle.rendezvous.specs.Run.{Call}
use Rattle.rendezvous.proofs.Changes.{rest-still}
use Rattle.history.specs.Book.{History, empty_history}
use Rattle.history.specs.Tables.{offer_by, open_offer, tables}
use Rattle.history.specs.Demand3.{Demand3}
use Rattle.history.specs.StaysWellFormed.{StaysWellFormed}
use Rattle.history.proofs.Invariant.{Bound, Good}
use Rattle.history.proofs.Places.{idle-is}
use Rattle.history.proofs.Tame.{Held}
use Rattle.history.proofs.GoodTable.{fresh-each, good-fresh}
use Rattle.history.proofs.Fitting.{well-formed}
use Rattle.history.proofs.Rest.{at_rest}
use Rattle.history.proofs.Due.{open_of, lists_of, Agrees, InStep}
use Rattle.history.proofs.EveryList.{Ends, Reaches, reaches, claim-from}
use Rattle.history.proofs.EveryCall.{Sound, follows}

-- on a good table only processes below n have an open offer
open-offer : (t : ProcessTable) → Good t → (p : ℕ) → open_offer t p ≡ open_of (process t p)
open-offer t good p = at (ltb p t.head.n) refl (is_idle (process t p).place) refl
  where
    at : (a : Bool) → ltb p t.head.n ≡ a → (c : Bool) → is_idle (process t p).place ≡ c
        → cond (a && is_open (process t p)) (Some (offer_by (process t p))) None ≡ open_of (process t p)
    at true e c f = refl
    at false e true f = subst⁻¹ (λ (pl : Place). None ≡ cond (open_at pl (process t p).accepting) (Some (offer_by (process t p))) None) (idle-is (process t p).place f) refl
    at false e false f = absurd (omega (arith, ltb-false p t.head.n e, (good.inv.alone p).there f))

ends : (t : ProcessTable) (b : History) → Sound t b → Ends tables t b
ends t b s = record {
  once = s.in_step.once.differ;
  opens = λ p. open-offer t s.good p ∙ (s.in_step.each p).offer;
  rests = λ rest. at_rest t s.good (rest-still t (well-formed t s.good) rest);
}

pub fresh-in-step : (n d : ℕ) → InStep (fresh_table n d) empty_history
fresh-in-step n d = record {
  counts = refl;
  each = λ p. fresh-each (Agrees (lists_of (process (fresh_table n d))) empty_history p) (record { offer = refl; owed = refl; at = tt; told = tt }) (record { offer = refl; owed = refl; at = tt; told = tt }) n d p;
  once = record { differ = tt; unused = λ t l. tt; below = λ p o e. absurd (none-some o e); unmet = λ p o e. tt; apart = λ p q o r ne e. absurd (none-some o e) };
  awaited = λ p. fresh-each (λ x. Bound x → Held (process (fresh_table n d)) p) (λ b. absurd b.shows) (λ b. absurd b.shows) n d p;
}

-- (The bounds go by arithmetic, so that this would prove a claim for fewer sizes too. That one is refused where demand 3 is used at its ends.)
fresh-sound : (n d : ℕ) → 2 ≤ n → n ≤ most_processes → 1 ≤ d → Sound (fresh_table n d) empty_history
fresh-sound n d least most naps = record { good = good-fresh n d (omega arith) (omega arith) (omega arith); in_step = fresh-in-step n d }

pub demand3 : Demand3
demand3 n d least most naps calls = claim-from tables Sound follows ends (fresh_table n d) empty_history (fresh-sound n d (omega arith) (omega arith) (omega arith)) calls

pub reached : (n d : ℕ) → 2 ≤ n → n ≤ most_processes → 1 ≤ d → (calls : List Call) → Reaches tables Sound (fresh_table n d) empty_history calls
reached n d least most naps calls = reaches tables Sound follows (fresh_table n d) empty_history (fresh-sound n d least most naps) calls

pub stays-well-formed : StaysWellFormed
stays-well-formed n d least most naps calls = well-formed _ (reached n d least most naps calls).related.good
