-- What a call leaves: nothing is written, or only where it may be.
use Rattle.std.specs.Prelude.{Result, Ok}
use Prim.Native.Nat.{ℕ, ◌<◌}
use mathlib.Core.Path.{◌≡◌, refl, sym, ap, subst, ◌∙◌}
use mathlib.Core.Bool.{Bool, true, false, ◌||◌, cond, false≢true}
use lib.ListN.{drop}
use mathlib.Core.List.{List}
use lib.Dec.{eqb}
use borrow.Author.Tests.{eq-eqb}
use Rattle.process.specs.Rules.{Effect, Neither, Own, Both, partner_of}
use Rattle.rendezvous.specs.Table.{process, put, with_head}
use Rattle.rendezvous.specs.Calls.{effect_on, head_after, applied, stepped}
use Rattle.records.specs.Reading.{process_of}
use Rattle.records.specs.Private.{own_effect}
use Rattle.records.proofs.Cuts.{Wrote, wrote-same}
use Rattle.inplace.specs.Types.{Process, Answer, Reply}
use Rattle.inplace.specs.Layout.{table_length, record_start, record_bytes}
use Rattle.inplace.specs.Reading.{table_of}
use Rattle.inplace.specs.Calls.{changed_by, stepped_by}
use Rattle.inplace.specs.Leaves.{changes_nothing, Leaves}
use Rattle.inplace.specs.Private.{Steps}
use Rattle.inplace.proofs.Rows.{record-at}
use Rattle.inplace.proofs.Writing.{Within, record-put, within-record}
use Rattle.rendezvous.specs.declared.Refusal.{Refusal}

-- every byte is as it was
pub nothing_left : (reply : Reply) (changed : ℕ → Bool) (t t' : List ℕ) (answer : Result Answer Refusal) → reply ≡ record { answer = answer; table = table_of t } → t' ≡ t → Leaves reply changed t t' answer
nothing_left reply changed t t' answer e f = record {
  answers = sym (ap (λ (r : Reply). r.answer) e);
  stands_for = ap table_of f ∙ sym (ap (λ (r : Reply). r.table) e);
  still = λ _. f;
  others = λ r _. ap (λ (b : List ℕ). record_bytes b r) f;
  behind = ap (drop table_length) f;
}

-- bytes are written, and the answer says so
pub left-within : (reply : Reply) (changed : ℕ → Bool) (t t' : List ℕ) (answer : Result Answer Refusal) → Within changed t t' → reply ≡ record { answer = answer; table = table_of t' } → changes_nothing answer ≡ false
    → Leaves reply changed t t' answer
left-within reply changed t t' answer w e f = record {
  answers = sym (ap (λ (r : Reply). r.answer) e);
  stands_for = sym (ap (λ (r : Reply). r.table) e);
  still = λ g. absurd (false≢true (sym f ∙ g));
  others = w.others;
  behind = w.behind;
}

-- a step that is not turned away
module _ (t t' : List ℕ) (p : ℕ) (h : p < 32) where
  abbrev q : ℕ
  q = partner_of (process (table_of t) p)

  stepped-is : (e : Effect) → effect_on (table_of t) p ≡ e → stepped (table_of t) p ≡ applied (table_of t) p q e
  unfolding stepped
  stepped-is e f = ap (applied (table_of t) p q) f

  abbrev said : Bool → Result Answer Refusal
  said moved = cond moved (Ok (Answer.Moved (process (table_of t') p).place)) (Ok Answer.Unchanged)

  by-effect : (e : Effect) → effect_on (table_of t) p ≡ e → (moved : Bool) → Leaves (applied (table_of t) p q e) (changed_by p q e) t t' (said moved) → Steps t p t' moved
  by-effect e f moved l = subst (λ (r : Reply). Leaves r (stepped_by (table_of t) p) t t' (said moved)) (sym (stepped-is e f)) (subst (λ (x : Effect). Leaves (applied (table_of t) p q e) (changed_by p q x) t t' (said moved)) (sym f) l)

  -- neither record is changed
  pub steps-not : effect_on (table_of t) p ≡ Neither → t' ≡ t → Steps t p t' false
  steps-not f g = by-effect Neither f false (nothing_left _ (changed_by p q Neither) t t' (Ok Answer.Unchanged) refl g)

  -- the own record alone, whose bytes become r
  pub steps-own : (r : List ℕ) → Wrote t t' (record_start p) 256 r → effect_on (table_of t) p ≡ Own (process_of r) → Steps t p t' true
  steps-own r w f =
      let here : process (table_of t') p ≡ process_of r = record-at t' p h ∙ ap process_of w.there in
      let table : applied (table_of t) p q (Own (process_of r)) ≡ record { answer = said true; table = table_of t' } = rw (here, record-put h w) in
      by-effect (Own (process_of r)) f true (left-within _ (changed_by p q (Own (process_of r))) t t' (said true) (within-record h w (changed_by p q (Own (process_of r))) (eq-eqb p p refl)) table refl)

  -- either, as the code says it
  pub steps-by : (r : List ℕ) (moved : Bool) → Wrote t t' (record_start p) 256 r → effect_on (table_of t) p ≡ own_effect moved r → (moved ≡ false → r ≡ record_bytes t p) → Steps t p t' moved
  steps-by r true w f g = steps-own r w f
  steps-by r false w f g = steps-not f (wrote-same w (g refl))

  -- both records, and the head, which counts a commit
  pub steps-both : (x y : Process) → effect_on (table_of t) p ≡ Both x y → table_of t' ≡ with_head (put (put (table_of t) q y) p x) (head_after (table_of t).head x.place) → process (table_of t') p ≡ x
      → Within (λ r. eqb r p || eqb r q) t t' → Steps t p t' true
  steps-both x y f e here w =
      let table : applied (table_of t) p q (Both x y) ≡ record { answer = said true; table = table_of t' } = rw (here, e) in
      by-effect (Both x y) f true (left-within _ (changed_by p q (Both x y)) t t' (said true) w table refl)
