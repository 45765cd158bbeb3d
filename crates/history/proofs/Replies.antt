-- What each call replies: it is refused and hands back its table, or it does what follows.
use Rattle.std.specs.Prelude.{Result, Ok, Err, ⊤}
use Prim.Native.Nat.{ℕ, ◌<◌}
use mathlib.Core.Path.{◌≡◌, refl, subst⁻¹}
use mathlib.Core.Bool.{Bool, true, false, not}
use mathlib.Core.List.{List}
use Rattle.alternative.specs.declared.Message.{Message}
use Rattle.alternative.specs.declared.Guard.{Guard}
use Rattle.alternative.specs.Guards.{lent}
use Rattle.process.specs.declared.Place.{Place}
use Rattle.rendezvous.specs.declared.ProcessTable.{ProcessTable}
use Rattle.rendezvous.specs.declared.Refusal.{Refusal}
use Rattle.rendezvous.specs.declared.Reply.{Reply}
use Rattle.process.specs.Process.{is_open}
use Rattle.rendezvous.specs.Table.{process}
use Rattle.rendezvous.specs.Refusals.{process_verdict, offer_verdict, withdraw_verdict}
use Rattle.rendezvous.specs.Calls.{refused, if_accepted, offered, offer_list, offer, stepped, step, collected, collect, withdrawn_or_late, withdraw}
use Rattle.process.proofs.PlaceCases.{if-met}
use Rattle.rendezvous.proofs.Verdicts.{process-passed, Admitted, offer-passed, withdraw-passed, first-closed}

module _ (P : Reply → Type 0) (t : ProcessTable) (turned-away : (r : Refusal) → P (refused r t)) (p : ℕ) where
  verdict-elim : (verdict : Result ⊤ Refusal) (reply : Reply) → (verdict ≡ Ok tt → P reply) → P (if_accepted verdict t reply)
  verdict-elim (Ok tt) reply h = h refl
  verdict-elim (Err r) reply h = turned-away r

  pub offer-elim : (gs : List Guard) → (Admitted t p (lent gs) → P (offered t p (lent gs))) → P (offer t p gs)
  unfolding offer_list
  offer-elim gs h = verdict-elim (offer_verdict t p (lent gs)) _ (λ e. h (offer-passed t p (lent gs) e))

  pub step-elim : (p < t.head.n → P (stepped t p)) → P (step t p)
  unfolding step
  step-elim h = verdict-elim (process_verdict t p) _ (λ e. h (process-passed t p e).below)

  pub collect-elim : (p < t.head.n → (i : ℕ) (m : Message) → (process t p).place ≡ Place.Met i m → P (collected t p (process t p) (Place.Met i m))) → P (collect t p)
  unfolding collect
  collect-elim h = verdict-elim (process_verdict t p) _ (λ e. if-met P _ _ (process t p).place (h (process-passed t p e).below) (turned-away Refusal.NotMet))

  -- too late, or an open offer is taken back
  pub withdraw-elim : P (withdrawn_or_late t p (process t p) true)
      → (p < t.head.n → is_open (process t p) ≡ true → P (withdrawn_or_late t p (process t p) false)) → P (withdraw t p)
  unfolding withdraw
  withdraw-elim late h = verdict-elim (withdraw_verdict t p) _ (λ e.
      let a = withdraw-passed t p e in
      subst⁻¹ (λ (first : Bool). P (withdrawn_or_late t p (process t p) first)) (first-closed (process t p).place (process t p).accepting a.elsewhere) (go a.below (is_open (process t p)) refl))
    where
      go : p < t.head.n → (o : Bool) → is_open (process t p) ≡ o → P (withdrawn_or_late t p (process t p) (not o))
      go below true e = h below e
      go below false e = late
