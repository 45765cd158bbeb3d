-- Rules 7 and 9, which write two records.
use Rattle.std.specs.Prelude.{Option, Some, None}
use Prim.Native.Nat.{ℕ, ◌+◌, ◌^◌, ◌≤◌, ◌<◌}
use mathlib.Core.Path.{◌≡◌, refl, sym, ap, subst, ◌∙◌}
use mathlib.Core.Bool.{Bool, true, false, not, ◌||◌, false≢true}
use mathlib.Core.Logic.{◌⊎◌, inl, inr, ⊎_elim}
use native.Mathlib.Numerals.{add-one}
use mathlib.Core.List.{List}
use native.Mathlib.Omega.{arith}
use lib.ListN.{get_or, take}
use lib.Seq.{get_or-take}
use lib.Dec.{eqb}
use borrow.Author.Tests.{eq-eqb, ne_eqb}
use Rattle.alternative.specs.Guards.{blank, kept_match, next_enabled}
use Rattle.alternative.specs.Exchange.{sent_by, received_by}
use Rattle.alternative.specs.declared.{Guard.Guard, Action.Action}
use Rattle.wire.specs.Reading.{byte, message_of}
use Rattle.wire.specs.Writing.{long_bytes}
use Rattle.process.specs.Process.{own_list, own_guard, posted_list}
use Rattle.process.specs.Rules.{Own, Both, at_place, with_accepting, with_signal, scan_at, scan_from, try, hand_over}
use Rattle.rendezvous.specs.Table.{process, put, with_head, with_meeting}
use Rattle.rendezvous.specs.Calls.{effect_on, head_after}
use Rattle.records.specs.Layout.{part}
use Rattle.records.specs.Reading.{action_of, guard_of, guards_at, process_of}
use Rattle.records.proofs.Cuts.{Wrote}
use Rattle.records.proofs.Guards.{guard-at, partner-at}
use Rattle.inplace.specs.Types.{Place, Process, ProcessTable}
use Rattle.inplace.specs.Layout.{record_start, record_bytes}
use Rattle.inplace.specs.Reading.{head_of, table_of}
use Rattle.inplace.specs.Private.{Ready, Paired, Steps, Keeps}
use Rattle.inplace.proofs.Rows.{record-at, byte_of}
use Rattle.inplace.proofs.Writing.{Within, within-then, others, record-put, within-record, rows_stay, head-put, within-head, meeting-put}
use Rattle.inplace.proofs.Ready.{count_most, index_below, partner-is, partner-below, partner-other, ready-other, kept-below}
use Rattle.inplace.proofs.Effects.{effect-with}
use Rattle.inplace.proofs.Left.{steps-own, steps-both}

-- the records that both rules write
abbrev both : ℕ → ℕ → ℕ → Bool
both p q r = eqb r p || eqb r q

both_own : (p q : ℕ) → both p q p ≡ true
both_own p q = rw (eq-eqb p p refl)

both-other : (p q : ℕ) → both p q q ≡ true
both-other p q = go (eqb q p)
  where
    go : (a : Bool) → (a || eqb q q) ≡ true
    go true = refl
    go false = eq-eqb q q refl

-- the record of q is written, then that of p: s and r are their bytes, which stand for g and f of what was there
module _ {t t₁ t₂ : List ℕ} {p q : ℕ} {r s : List ℕ} (hp : p < 32) (hq : q < 32) (ne : p ≡ q → ⊥) (v : Wrote t t₁ (record_start q) 256 s) (w : Wrote t₁ t₂ (record_start p) 256 r) where
  pub two-put : (f g : List ℕ → Process) → process_of s ≡ g (record_bytes t q) → process_of r ≡ f (record_bytes t₁ p) → table_of t₂ ≡ put (put (table_of t) q (g (record_bytes t q))) p (f (record_bytes t p))
  two-put f g es er = record-put hp w ∙ rw (record-put hq v, es, er, others hq v p ne)

  pub two-within : Within (both p q) t t₂
  two-within = within-then (within-record hq v (both p q) (both-other p q)) (within-record hp w (both p q) (both_own p q))

  pub own-there : process (table_of t₂) p ≡ process_of r
  own-there = record-at t₂ p hp ∙ ap process_of w.there

-- the partner is another process, and can be stepped too
module _ (t : List ℕ) (p q : ℕ) {tag : ℕ} (paired : Paired t p q tag) (from : 2 ≤ tag) (to : tag ≤ 4) where
  named : q ≡ byte t (record_start p + 8 + byte t (record_start p + 1))
  named = paired.4 ∙ partner-is t p paired.2 (omega (arith, paired.3)) (omega (arith, paired.3))

  pub apart : p ≡ q → ⊥
  apart e = partner-other t p paired.2 (omega (arith, paired.3)) (omega (arith, paired.3)) (sym named ∙ sym e)

  pub other-ready : Ready t q
  other-ready = ready-other t p paired.2 q (subst (λ (k : ℕ). k < byte t 0) (sym named) (partner-below t p paired.2 (omega (arith, paired.3)) (omega (arith, paired.3))))

  -- the guard's index
  pub index-most : byte t (record_start p + 1) < 8
  index-most = omega (arith, index_below t p paired.2 (omega (arith, paired.3)) (omega (arith, paired.3)), count_most t p paired.2)

  -- the kept index, at C
  pub kept-guard : tag ≡ 4 → byte t (record_start p + 2) < byte t (record_start q + 6)
  kept-guard e = subst (λ (k : ℕ). byte t (record_start p + 2) < byte t (record_start k + 6)) (sym named) (kept-below t p paired.2 (paired.3 ∙ e))

head-is : (t : List ℕ) → head_of t ≡ (table_of t).head
unfolding table_of
head-is t = refl

-- a step that changes both
both-steps : (t t' : List ℕ) (p q : ℕ) {tag : ℕ} → Paired t p q tag → (x y : Process) → effect_on (table_of t) p ≡ Both x y → table_of t' ≡ with_head (put (put (table_of t) q y) p x) (head_after (table_of t).head x.place)
    → process (table_of t') p ≡ x → Within (both p q) t t' → Steps t p t' true
both-steps t t' p q paired x y e f here w =
    steps-both t t' p paired.0 x y e (subst (λ (k : ℕ). table_of t' ≡ with_head (put (put (table_of t) k y) p x) (head_after (table_of t).head x.place)) paired.4 f) here (subst (λ (k : ℕ). Within (both p k) t t') paired.4 w)

-- rule 7
module _ (t t₁ t₂ t₃ : List ℕ) (p q j m : ℕ) (r s : List ℕ) (paired : Paired t p q 3) (ne : p ≡ q → ⊥) where
  abbrev x : List ℕ
  x = record_bytes t p

  abbrev own : List ℕ → Process
  own b = at_place (process_of b) (Place.Committed (byte b 1) j)

  abbrev other : List ℕ → Process
  other b = with_accepting (process_of b) false

  commit-effect : Keeps t p q j → effect_on (table_of t) p ≡ Both (own x) (other (record_bytes t q))
  commit-effect k =
      let y = record_bytes t q in
      let index : byte t (record_start p + 1) ≡ byte x 1 = sym (byte_of t p 1 (omega arith)) in
      let accepts : (process_of y).accepting ≡ true = rw (← record-at t q paired.1) k.0 in
      let found : kept_match p (own_guard (process_of x) (byte x 1)) q (posted_list (process_of y)) ≡ Some j = rw (← record-at t q paired.1, ← record-at t p paired.0, ← index) k.1 in
      effect-with t p paired.2 q 3 paired.4 paired.1 paired.3 ∙ rw (accepts, found)

  pub commit-steps : Keeps t p q j → m < 2 ^ 64 → m ≡ (head_of t).meetings + 1 → Wrote t t₁ 8 8 (long_bytes m) → Wrote t₁ t₂ (record_start q) 256 s → Wrote t₂ t₃ (record_start p) 256 r
      → process_of s ≡ other (record_bytes t₁ q) → process_of r ≡ own (record_bytes t₂ p) → Steps t p t₃ true
  commit-steps k h e u v w es er =
      let y = record_bytes t q in
      let rows = rows_stay (omega arith) u in
      let head : head_of t₁ ≡ with_meeting (table_of t).head = meeting-put h u e ∙ ap with_meeting (head-is t) in
      let table : table_of t₃ ≡ with_head (put (put (table_of t) q (other y)) p (own x)) (with_meeting (table_of t).head) =
      two-put paired.0 paired.1 ne v w own other es er
      ∙ ap (λ (b : List ℕ). put (put (table_of t₁) q (other b)) p (own (record_bytes t₁ p))) (rows q)
      ∙ ap (λ (b : List ℕ). put (put (table_of t₁) q (other y)) p (own b)) (rows p)
      ∙ ap (λ (z : ProcessTable). put (put z q (other y)) p (own x)) (head-put (omega arith) u ∙ ap (with_head (table_of t)) head) in
      let here : process (table_of t₃) p ≡ own x = own-there paired.0 paired.1 ne v w ∙ er ∙ ap own (others paired.1 v p ne ∙ rows p) in
      let within = within-then (within-head (omega arith) u (both p q)) (two-within paired.0 paired.1 ne v w) in
      both-steps t t₃ p q paired (own x) (other y) (commit-effect k) table here within

-- what a guard of a list does, from the rest of the list
action-at : (r : List ℕ) (a b count i : ℕ) → i < count → i < 8 → (get_or (take count (guards_at r a b)) i blank).action ≡ action_of (part r b 104) i
unfolding guard_of
action-at r a b count i h l = ap (λ (g : Guard). g.action) (get_or-take count (guards_at r a b) i blank h ∙ guard-at r a b i l)

-- rule 9
module _ (t t₁ t₂ : List ℕ) (p q : ℕ) (r s sent received : List ℕ) (paired : Paired t p q 4) (ne : p ≡ q → ⊥) where
  abbrev i : ℕ
  i = byte (record_bytes t p) 1

  abbrev j : ℕ
  j = byte (record_bytes t p) 2

  abbrev sends : Action
  sends = action_of (part (record_bytes t p) 48 104) i

  abbrev kept : Action
  kept = action_of (part (record_bytes t q) 152 104) j

  hand-effect : i < byte (record_bytes t p) 5 → i < 8 → j < byte (record_bytes t q) 6 → j < 8
      → effect_on (table_of t) p ≡ Both (at_place (process_of (record_bytes t p)) (Place.Met i (received_by sends kept))) (with_signal (process_of (record_bytes t q)) (Some (j, sent_by sends)))
  unfolding hand_over process_of
  hand-effect a b c d =
      effect-with t p paired.2 q 4 paired.4 paired.1 paired.3
      ∙ rw (action-at (record_bytes t p) 8 48 (byte (record_bytes t p) 5) i a b, action-at (record_bytes t q) 16 152 (byte (record_bytes t q) 6) j c d)

  pub hand-steps : i < byte (record_bytes t p) 5 → i < 8 → j < byte (record_bytes t q) 6 → j < 8 → message_of sent ≡ sent_by sends → message_of received ≡ received_by sends kept
      → Wrote t t₁ (record_start q) 256 s → Wrote t₁ t₂ (record_start p) 256 r
      → process_of s ≡ with_signal (process_of (record_bytes t q)) (Some (j, message_of sent)) → process_of r ≡ at_place (process_of (record_bytes t₁ p)) (Place.Met (byte (record_bytes t₁ p) 1) (message_of received)) → Steps t p t₂ true
  hand-steps a b c d es er v w fs fr =
      let own : List ℕ → Process = λ z. at_place (process_of z) (Place.Met (byte z 1) (received_by sends kept)) in
      let other : List ℕ → Process = λ z. with_signal (process_of z) (Some (j, sent_by sends)) in
      let gs : process_of s ≡ other (record_bytes t q) = fs ∙ rw es refl in
      let gr : process_of r ≡ own (record_bytes t₁ p) = fr ∙ rw er refl in
      let here : process (table_of t₂) p ≡ own (record_bytes t p) = own-there paired.0 paired.1 ne v w ∙ gr ∙ ap own (others paired.1 v p ne) in
      both-steps t t₂ p q paired (own (record_bytes t p)) (other (record_bytes t q)) (hand-effect a b c d) (two-put paired.0 paired.1 ne v w own other gs gr) here (two-within paired.0 paired.1 ne v w)

-- rule 8
module _ (t t' : List ℕ) (p q : ℕ) (r : List ℕ) (paired : Paired t p q 3) where
  -- q does not accept, or none of its posted guards is to be kept
  abbrev pub Passes : Type 0
  Passes = (byte t (record_start q + 7) ≡ 0) ⊎ (kept_match p (own_guard (process_of (record_bytes t p)) (byte (record_bytes t p) 1)) q (posted_list (process_of (record_bytes t q))) ≡ None)

  try-passes : (x : Process) (k : ℕ) (y : Process) (accepting : Bool) (found : Option ℕ) → (accepting ≡ false) ⊎ (found ≡ None) → try x k y accepting found ≡ scan_from x (k + 1)
  try-passes x k y true (Some j) (inl e) = absurd (false≢true (sym e))
  try-passes x k y true (Some j) (inr e) = let z : ◌≡◌ {A = ℕ} 0 1 = cc in absurd (omega arith)
  try-passes x k y true None e = ap (scan_from x) (sym (add-one k))
  try-passes x k y false (Some j) e = ap (scan_from x) (sym (add-one k))
  try-passes x k y false None e = ap (scan_from x) (sym (add-one k))

  pub pass-steps : Passes → Wrote t t' (record_start p) 256 r → process_of r ≡ at_place (process_of (record_bytes t p)) (scan_at (next_enabled (own_list (process_of (record_bytes t p))) (byte (record_bytes t p) 1 + 1))) → Steps t p t' true
  unfolding process_of scan_from
  pass-steps e w f =
      let x = process_of (record_bytes t p) in
      let y = process_of (record_bytes t q) in
      let closed : byte t (record_start q + 7) ≡ 0 → y.accepting ≡ false = λ z. ap (λ (k : ℕ). not (eqb k 0)) (byte_of t q 7 (omega arith) ∙ z) in
      let passing = try-passes x (byte (record_bytes t p) 1) y y.accepting (kept_match p (own_guard x (byte (record_bytes t p) 1)) q (posted_list y)) (⊎_elim (λ z. inl (closed z)) inr e) in
      steps-own t t' p paired.0 r w (effect-with t p paired.2 q 3 paired.4 paired.1 paired.3 ∙ passing ∙ ap Own (sym f))

-- at T: q is the process that the guard names, by the bytes of the record
pub partner-guard : (t : List ℕ) (p q : ℕ) {tag : ℕ} → Paired t p q tag → 2 ≤ tag → tag ≤ 4 → q ≡ (own_guard (process_of (record_bytes t p)) (byte t (record_start p + 1))).partner
unfolding process_of
partner-guard t p q paired from to =
    let x = record_bytes t p in
    let i = byte_of t p 1 (omega arith) in
    let n = byte_of t p 5 (omega arith) in
    let below = index_below t p paired.2 (omega (arith, paired.3)) (omega (arith, paired.3)) in
    let most = index-most t p q paired from to in
    named t p q paired from to
    ∙ sym (ap (λ (g : Guard). g.partner) (get_or-take (byte x 5) (guards_at x 8 48) (byte t (record_start p + 1)) blank (omega (arith, n, below))) ∙ partner-at x 8 48 (byte t (record_start p + 1)) most ∙ byte_of t p (8 + byte t (record_start p + 1)) (omega arith) ∙ ap (byte t) (omega arith))

-- what rule 7's search has found, of the bytes of both records
pub keeps-by : (t : List ℕ) (p q : ℕ) {tag : ℕ} → Paired t p q tag → (byte t (record_start q + 7) ≡ 0 → ⊥) → (j : ℕ)
    → kept_match p (own_guard (process_of (record_bytes t p)) (byte t (record_start p + 1))) q (posted_list (process_of (record_bytes t q))) ≡ Some j → Keeps t p q j
unfolding process_of
keeps-by t p q paired accepts j e =
    (ap (λ (y : Process). y.accepting) (record-at t q paired.1) ∙ rw (byte_of t q 7 (omega arith), ne_eqb (byte t (record_start q + 7)) 0 accepts) refl, rw (record-at t p paired.0, record-at t q paired.1) e)
