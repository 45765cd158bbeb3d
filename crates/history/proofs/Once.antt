-- No offer ends twice: in every book, the tickets of its moments, the open ones and the next one all differ.
use Rattle.std.specs.Prelude.{Option, Some, None}
use Prim.Native.Nat.{ℕ, suc, ◌≤◌, ◌<◌}
use mathlib.Core.Path.{◌≡◌, refl, sym, ◌∙◌, ap, subst}
use mathlib.Core.List.{List, [], ◌∷◌, ◌++◌, append_assoc}
use mathlib.Core.Logic.{◌⊎◌, inl, inr, ⊎_elim}
use Rattle.std.proofs.lemmas.Option.{same_Some, none-some}
use native.Mathlib.Omega.{arith}
use Rattle.alternative.specs.declared.Guard.{Guard}
use Rattle.history.specs.Book.{Transaction, Rendezvous, Withdrawal, Moment, Joined, Withdrew, entered_for}
use Rattle.history.specs.Demand3.{ids_of, NotIn, AllDiffer}
use Rattle.history.proofs.View.{entered-each}

-- one ticket more at a list's end
module _ (t : ℕ) where
  not-in-one : (s : ℕ) (ts : List ℕ) → NotIn s ts → (s ≡ t → ⊥) → NotIn s (ts ++ (t ∷ []))
  not-in-one s [] n a = (a, tt)
  not-in-one s (r ∷ ts) n a = (n.0, not-in-one s ts n.1 a)

  differ-one : (ts : List ℕ) → AllDiffer ts → NotIn t ts → AllDiffer (ts ++ (t ∷ []))
  differ-one [] d a = (tt, tt)
  differ-one (s ∷ ts) d a = (not-in-one s ts d.0 (λ e. a.0 (sym e)), differ-one ts d.1 a.1)

-- and two
module _ (t u : ℕ) where
  not-in-more : (s : ℕ) (ts : List ℕ) → NotIn s ts → (s ≡ t → ⊥) → (s ≡ u → ⊥) → NotIn s (ts ++ (t ∷ u ∷ []))
  not-in-more s ts n a b = subst (NotIn s) (append_assoc ts (t ∷ []) (u ∷ [])) (not-in-one u s (ts ++ (t ∷ [])) (not-in-one t s ts n a) b)

  differ-more : (ts : List ℕ) → (t ≡ u → ⊥) → AllDiffer ts → NotIn t ts → NotIn u ts → AllDiffer (ts ++ (t ∷ u ∷ []))
  differ-more ts ne d a b = subst AllDiffer (append_assoc ts (t ∷ []) (u ∷ [])) (differ-one u (ts ++ (t ∷ [])) (differ-one t ts d a) (not-in-one t u ts b (λ e. ne (sym e))))

ids_more : (ms ns : List Moment) → ids_of (ms ++ ns) ≡ ids_of ms ++ ids_of ns
ids_more [] ns = refl
ids_more (Joined r ∷ ms) ns = rw (ids_more ms ns)
ids_more (Withdrew w ∷ ms) ns = rw (ids_more ms ns)

-- of a book's next ticket, open offers and run
pub record Once (next : ℕ) (opened : ℕ → Option Transaction) (run : List Moment) : Type 0 where
  pub differ : AllDiffer (ids_of run)
  pub unused : (t : ℕ) → next ≤ t → NotIn t (ids_of run)
  pub below : (p : ℕ) (o : Transaction) → opened p ≡ Some o → o.id < next
  pub unmet : (p : ℕ) (o : Transaction) → opened p ≡ Some o → NotIn o.id (ids_of run)
  pub apart : (p q : ℕ) (o r : Transaction) → (p ≡ q → ⊥) → opened p ≡ Some o → opened q ≡ Some r → o.id ≡ r.id → ⊥

-- what is open after p's offer closed was open, and is another's
closed : (p : ℕ) (opened : ℕ → Option Transaction) (q : ℕ) (o : Transaction) → entered_for p None opened q ≡ Some o → (opened q ≡ Some o) × (q ≡ p → ⊥)
closed p opened q o = entered-each (λ q x. x ≡ Some o → (opened q ≡ Some o) × (q ≡ p → ⊥)) opened p None (λ e. absurd (none-some o e)) (λ q ne e. (e, ne)) q

module _ {next : ℕ} {opened : ℕ → Option Transaction} {run : List Moment} (k : Once next opened run) where
  pub once-offers : (p : ℕ) (gs : List Guard) → Once (suc next) (entered_for p (Some (record { id = next; guards = gs })) opened) run
  once-offers p gs = record {
    differ = k.differ;
    unused = λ t l. k.unused t (omega arith);
    below = λ q o e. ⊎_elim (λ n. omega (arith, n.1)) (λ h. omega (arith, k.below q o h)) (newer q o e);
    unmet = λ q o e. ⊎_elim (λ n. k.unused o.id (omega (arith, n.1))) (λ h. k.unmet q o h) (newer q o e);
    apart = λ q r o s ne e f z. ⊎_elim
        (λ n. ⊎_elim (λ m. ne (n.0 ∙ sym m.0)) (λ h. omega (arith, n.1, k.below r s h)) (newer r s f))
        (λ h. ⊎_elim (λ m. omega (arith, m.1, k.below q o h)) (λ l. k.apart q r o s ne h l z) (newer r s f))
        (newer q o e);
  }
    where
      newer : (q : ℕ) (o : Transaction) → entered_for p (Some (record { id = next; guards = gs })) opened q ≡ Some o → ((q ≡ p) × (o.id ≡ next)) ⊎ (opened q ≡ Some o)
      newer q o = entered-each (λ q x. x ≡ Some o → ((q ≡ p) × (o.id ≡ next)) ⊎ (opened q ≡ Some o)) opened p _
          (λ e. inl (refl, ap (λ (t : Transaction). t.id) (sym (same_Some _ o e)))) (λ q _ e. inr e) q

  -- the offers o of p and s of q close, and their tickets have met in r
  pub once-commits : (p q : ℕ) (o s : Transaction) (r : Rendezvous) → (p ≡ q → ⊥) → opened p ≡ Some o → opened q ≡ Some s → r.id_p ≡ o.id → r.id_q ≡ s.id
      → Once next (entered_for p None (entered_for q None opened)) (run ++ (Joined r ∷ []))
  once-commits p q o s r ne e f a b = record {
    differ = rw z (differ-more o.id s.id (ids_of run) (k.apart p q o s ne e f) k.differ (k.unmet p o e) (k.unmet q s f));
    unused = λ t l. rw z (not-in-more o.id s.id t (ids_of run) (k.unused t l) (λ h. omega (arith, k.below p o e)) (λ h. omega (arith, k.below q s f)));
    below = λ u c h. k.below u c (still u c h).0;
    unmet = λ u c h. let d = still u c h in
        rw z (not-in-more o.id s.id c.id (ids_of run) (k.unmet u c d.0) (k.apart u p c o d.1 d.0 e) (k.apart u q c s d.2 d.0 f));
    apart = λ u w c d l g h. k.apart u w c d l (still u c g).0 (still w d h).0;
  }
    where
      z : ids_of (run ++ (Joined r ∷ [])) ≡ ids_of run ++ (o.id ∷ s.id ∷ [])
      z = ids_more run (Joined r ∷ []) ∙ rw (a, b)

      still : (u : ℕ) (c : Transaction) → entered_for p None (entered_for q None opened) u ≡ Some c → (opened u ≡ Some c) × (u ≡ p → ⊥) × (u ≡ q → ⊥)
      still u c g = let a = closed p (entered_for q None opened) u c g in let d = closed q opened u c a.0 in (d.0, a.1, d.1)

  -- the offer o of p closes, and its ticket stands in w
  pub once-withdraws : (p : ℕ) (o : Transaction) (w : Withdrawal) → opened p ≡ Some o → w.id ≡ o.id → Once next (entered_for p None opened) (run ++ (Withdrew w ∷ []))
  once-withdraws p o w e a = record {
    differ = rw z (differ-one o.id (ids_of run) k.differ (k.unmet p o e));
    unused = λ t l. rw z (not-in-one o.id t (ids_of run) (k.unused t l) (λ h. omega (arith, k.below p o e)));
    below = λ u c h. k.below u c (closed p opened u c h).0;
    unmet = λ u c h. let d = closed p opened u c h in rw z (not-in-one o.id c.id (ids_of run) (k.unmet u c d.0) (k.apart u p c o d.1 d.0 e));
    apart = λ u w c d l g h. k.apart u w c d l (closed p opened u c g).0 (closed p opened w d h).0;
  }
    where
      z : ids_of (run ++ (Withdrew w ∷ [])) ≡ ids_of run ++ (o.id ∷ [])
      z = ids_more run (Withdrew w ∷ []) ∙ rw a
