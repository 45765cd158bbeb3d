-- What is known of a table of which process p can be stepped, read from its bytes.
use Rattle.std.specs.Prelude.{Some}
use Prim.Native.Nat.{ℕ, zero, suc, ◌+◌, ◌*◌, ◌^◌, ◌≤◌, ◌<◌}
use mathlib.Core.Path.{◌≡◌, refl, sym, ap, subst, ◌∙◌}
use mathlib.Core.Bool.{Bool, true, false, not, ◌&&◌, ◌||◌, false≢true}
use mathlib.Core.List.{List, [], ◌∷◌}
use native.Mathlib.Nat.{not-suc-le-zero, le_of_suc-le-suc}
use native.Mathlib.Omega.{arith}
use lib.ListN.{length, get_or, take, length-take}
use lib.Seq.{get_or-take}
use lib.Dec.{ltb, leb, eqb}
use borrow.Author.Tests.{ltb-true, leb-true, eqb-false, not-true, le-leb, eq-eqb}
use Rattle.alternative.specs.Guards.{blank}
use Rattle.alternative.specs.declared.{Message.Message, Guard.Guard}
use Rattle.alternative.proofs.Tests.{and_parts}
use Rattle.wire.specs.Reading.{byte, word_of, long_of, message_of}
use Rattle.process.specs.declared.Process.{Process}
use Rattle.process.specs.Process.{index_of}
use Rattle.process.specs.Rules.{partner_of, named_by}
use Rattle.process.specs.Fits.{all_guards, partner_fits, list_fits, signal_fits, process_fits}
use Rattle.rendezvous.specs.Table.{process, open_offers}
use Rattle.rendezvous.specs.WellFormed.{all_below, count_fits, nap_fits, fits_at, totals_fit, well_formed}
use Rattle.rendezvous.proofs.Forms.{formed-most, formed-fits}
use Rattle.records.specs.Layout.{part}
use Rattle.records.specs.Reading.{guards_at, place_by, place_of, process_of}
use Rattle.records.specs.Private.{indexed}
use Rattle.records.proofs.Guards.{guards-length, partner-at}
use Rattle.records.proofs.Tags.{place-fits}
use Rattle.inplace.specs.Layout.{record_start, record_bytes}
use Rattle.inplace.specs.Reading.{head_of, table_of}
use Rattle.inplace.specs.Private.{Ready}
use mir.Syntax.{w8}
use mir.Val.{Fits}
use Rattle.inplace.proofs.Rows.{record-at, byte_of}
use Rattle.inplace.proofs.Words.{word-most}

-- a guard of a list that passes a test
guard-passes : (test : Guard → Bool) (gs : List Guard) (i : ℕ) → i < length gs → all_guards test gs ≡ true → test (get_or gs i blank) ≡ true
unfolding all_guards
guard-passes test [] i h e = absurd (not-suc-le-zero h)
guard-passes test (g ∷ gs) zero h e = (and_parts (test g) (all_guards test gs) e).0
guard-passes test (g ∷ gs) (suc i) h e = guard-passes test gs i (le_of_suc-le-suc h) (and_parts (test g) (all_guards test gs) e).1

-- at A, T and C a place has an index
index-of : (tag i j : ℕ) (m : Message) → 2 ≤ tag → tag ≤ 4 → index_of (place_by tag i j m) ≡ Some i
index-of zero i j m h l = absurd (omega arith)
index-of (suc zero) i j m h l = absurd (omega arith)
index-of (suc (suc zero)) i j m h l = refl
index-of (suc (suc (suc zero))) i j m h l = refl
index-of (suc (suc (suc (suc zero)))) i j m h l = refl
index-of (suc (suc (suc (suc (suc k))))) i j m h l = absurd (omega arith)

-- a test that is passed wherever another is
passed : (a b : Bool) → a ≡ true → (not a || b) ≡ true → b ≡ true
passed true b e f = f
passed false b e f = absurd (false≢true e)

-- what refusal 7 has tested of a record, and that it has
record Fitted (n nap p : ℕ) (r : List ℕ) (posted : ℕ) : Type 0 where
  count : byte r 5 ≤ 8
  partners : all_guards (partner_fits n p) (take (byte r 5) (guards_at r 8 48)) ≡ true
  altcount : byte r 6 ≤ 8
  index : indexed (byte r 0) ≡ true → byte r 1 < byte r 5
  kept : byte r 0 ≡ 4 → byte r 2 < posted

fitted : (n nap p : ℕ) (r : List ℕ) (posted : ℕ) → process_fits n nap p (process_of r) posted ≡ true → Fitted n nap p r posted
unfolding process_fits process_of list_fits place_of
fitted n nap p r posted e =
    let a = and_parts (list_fits n p (byte r 5) (guards_at r 8 48)) _ e in
    let b = and_parts (list_fits n p (byte r 6) (guards_at r 16 152)) _ a.1 in
    let c = and_parts (signal_fits (byte r 5) (process_of r).signal) _ b.1 in
    let own = and_parts (leb (byte r 5) 8) _ a.0 in
    let alt = and_parts (leb (byte r 6) 8) _ b.0 in
    let place = sym (place-fits nap (byte r 1) (byte r 2) (message_of (part r 28 9)) (byte r 5) posted (byte r 0)) ∙ c.1 in
    let d = and_parts (not (indexed (byte r 0)) || ltb (byte r 1) (byte r 5)) _ place in
    let f = and_parts (not (eqb (byte r 0) 8) || ltb (byte r 1) nap) _ d.1 in
    record {
      count = leb-true _ _ own.0;
      partners = own.1;
      altcount = leb-true _ _ alt.0;
      index = λ h. ltb-true _ _ (passed (indexed (byte r 0)) (ltb (byte r 1) (byte r 5)) h d.0);
      kept = λ h. ltb-true _ _ (passed (eqb (byte r 0) 4) (ltb (byte r 2) posted) (eq-eqb (byte r 0) 4 h) f.1);
    }

-- a table has at most 32 processes
pub formed-count : (t : List ℕ) → well_formed (table_of t) ≡ true → byte t 0 ≤ 32
unfolding table_of head_of
formed-count t e = formed-most (table_of t) e

module _ (t : List ℕ) (p : ℕ) (ready : Ready t p) where
  abbrev r : List ℕ
  r = record_bytes t p

  abbrev n : ℕ
  n = byte t 0

  pub most : byte t 0 ≤ 32
  most = formed-count t ready.1

  pub below-most : p < 32
  below-most = omega (arith, most)

  -- its record lies in the table
  pub room : record_start p + 256 ≤ length t
  room = omega (arith, below-most, ready.0)

  -- every other process can be stepped too
  pub ready-other : (q : ℕ) → q < byte t 0 → Ready t q
  ready-other q h = (ready.0, ready.1, h)

  fits : Fitted n (byte t 1) p r (process (table_of t) (partner_of (process_of r))).altcount
  unfolding fits_at table_of head_of
  fits = fitted n (byte t 1) p r _ (rw (record-at t p below-most) at (formed-fits (table_of t) p ready.1 ready.2))

  -- both lists have at most eight guards
  pub count_most : byte t (record_start p + 5) ≤ 8
  count_most = omega (arith, fits.count, byte_of t p 5 (omega arith))

  pub altcount-most : byte t (record_start p + 6) ≤ 8
  altcount-most = omega (arith, fits.altcount, byte_of t p 6 (omega arith))

  -- a place with an index, which has a guard
  index-fits : indexed (byte t (record_start p + 0)) ≡ true → byte t (record_start p + 1) < byte t (record_start p + 5)
  index-fits e =
      let l = fits.index (rw (byte_of t p 0 (omega arith)) e) in
      omega (arith, l, byte_of t p 1 (omega arith), byte_of t p 5 (omega arith))

  -- .. at M
  pub outcome-below : 10 ≤ byte t (record_start p + 0) → byte t (record_start p + 1) < byte t (record_start p + 5)
  outcome-below h = index-fits (met (leb 2 (byte t (record_start p + 0)) && leb (byte t (record_start p + 0)) 4) (le-leb 10 _ h))
    where
      met : (a : Bool) {b : Bool} → b ≡ true → (a || b) ≡ true
      met true e = refl
      met false e = e

  -- .. and at A, T and C
  module _ (from : 2 ≤ byte t (record_start p + 0)) (to : byte t (record_start p + 0) ≤ 4) where
    pub index_below : byte t (record_start p + 1) < byte t (record_start p + 5)
    index_below = index-fits (rw (le-leb 2 _ from, le-leb _ 4 to))

    pub index-most : byte t (record_start p + 1) < 8
    index-most = omega (arith, index_below, count_most)

    at-index : byte r 1 < byte r 5
    at-index = omega (arith, index_below, byte_of t p 1 (omega arith), byte_of t p 5 (omega arith))

    -- this guard, and the process that it names
    abbrev guard : Guard
    guard = get_or (take (byte r 5) (guards_at r 8 48)) (byte r 1) blank

    named : guard.partner ≡ byte t (record_start p + 8 + byte t (record_start p + 1))
    named =
        let i : byte r 1 < 8 = omega (arith, at-index, fits.count) in
        ap (λ (g : Guard). g.partner) (get_or-take (byte r 5) (guards_at r 8 48) (byte r 1) blank at-index)
        ∙ partner-at r 8 48 (byte r 1) i
        ∙ byte_of t p (8 + byte r 1) (omega arith)
        ∙ ap (byte t) (omega (arith, byte_of t p 1 (omega arith)))

    named-fits : partner_fits n p guard ≡ true
    named-fits = guard-passes (partner_fits n p) (take (byte r 5) (guards_at r 8 48)) (byte r 1) (omega (arith, at-index, fits.count, length-take (byte r 5) (guards_at r 8 48), guards-length r 8 48)) fits.partners

    record-partner : partner_of (process_of r) ≡ byte t (record_start p + 8 + byte t (record_start p + 1))
    unfolding process_of place_of
    record-partner =
        let e = byte_of t p 0 (omega arith) in
        ap (named_by (process_of r)) (index-of (byte r 0) (byte r 1) (byte r 2) (message_of (part r 28 9)) (omega arith) (omega arith)) ∙ named

    pub partner-is : partner_of (process (table_of t) p) ≡ byte t (record_start p + 8 + byte t (record_start p + 1))
    partner-is = ap (λ (x : Process). partner_of x) (record-at t p below-most) ∙ record-partner

    -- it is another process of the table
    pub partner-below : byte t (record_start p + 8 + byte t (record_start p + 1)) < byte t 0
    unfolding partner_fits
    partner-below = subst (λ (q : ℕ). q < n) named (ltb-true guard.partner n (and_parts (not (eqb guard.partner p)) _ named-fits).1)

    pub partner-other : byte t (record_start p + 8 + byte t (record_start p + 1)) ≡ p → ⊥
    unfolding partner_fits
    partner-other e = eqb-false guard.partner p (not-true _ (and_parts (not (eqb guard.partner p)) _ named-fits).0) (named ∙ e)

    -- so that it can be stepped too
    pub partner-ready : (q : ℕ) → q ≡ partner_of (process (table_of t) p) → Ready t q
    partner-ready q e = ready-other q (rw (e ∙ partner-is) partner-below)

  -- at C the kept index has a guard in the posted list of that process
  pub kept-below : byte t (record_start p + 0) ≡ 4 → byte t (record_start p + 2) < byte t (record_start (byte t (record_start p + 8 + byte t (record_start p + 1))) + 6)
  unfolding process_of
  kept-below e =
      let q = byte t (record_start p + 8 + byte t (record_start p + 1)) in
      let from : 2 ≤ byte t (record_start p + 0) = omega arith in
      let to : byte t (record_start p + 0) ≤ 4 = omega arith in
      let h : q < 32 = omega (arith, most, partner-below from to) in
      let kept = fits.kept (byte_of t p 0 (omega arith) ∙ e) in
      let posted : (process (table_of t) (partner_of (process_of r))).altcount ≡ byte t (record_start q + 6) = rw (record-partner from to, record-at t q h) (byte_of t q 6 (omega arith)) in
      omega (arith, kept, posted, byte_of t p 2 (omega arith))

  -- no total overflows
  pub totals : 2 * long_of (part t 8 8) + long_of (part t 16 8) + open_offers (table_of t) ≤ word_of (part t 4 4)
  unfolding well_formed totals_fit table_of head_of
  totals =
      let a = and_parts (count_fits n) _ ready.1 in
      let b = and_parts (nap_fits (byte t 1)) _ a.1 in
      leb-true _ _ (and_parts (all_below (fits_at (table_of t)) n) _ b.1).1

  -- .. so that the meetings can grow by one, in a table of bytes
  pub meetings-fit : ((k : ℕ) → Fits w8 (byte t k)) → long_of (part t 8 8) + 1 < 2 ^ 64
  meetings-fit small = omega (arith, totals, word-most t 4 small)
