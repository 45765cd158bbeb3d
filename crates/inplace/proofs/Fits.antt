-- Whether a table is well-formed, read from its bytes.
use Rattle.std.specs.Prelude.{Some, None}
use Prim.Native.Nat.{ℕ, zero, suc, ◌+◌, ◌*◌, ◌-◌, ◌%◌, ◌≤◌, ◌<◌}
use mathlib.Core.Path.{◌≡◌, refl, sym, ap, subst, ◌∙◌}
use mathlib.Core.Bool.{Bool, true, false, ◌&&◌, ◌||◌, not, cond, false≢true}
use mathlib.Core.List.{List}
use mathlib.Core.Logic.{⊎_elim}
use native.Mathlib.Nat.{mod-eq_of_lt, not-suc-le-zero, le_of_suc-le-suc, eq-or-lt_of_le}
use native.Mathlib.Numerals.{add-one}
use native.Mathlib.Omega.{arith}
use lib.Seq.{get_or-take}
use lib.Dec.{ltb, leb, eqb}
use borrow.Author.Tests.{ltb-true, ltb-false, leb-true, lt-ltb, le-ltb, le-leb, lt-leb, eqb-true, eqb-false, ne_eqb}
use Rattle.alternative.specs.declared.Guard.{Guard}
use Rattle.alternative.specs.Guards.{most_guards, blank}
use Rattle.alternative.proofs.Tests.{and_parts, same_test}
use Rattle.wire.specs.Reading.{byte, word_of, long_of, message_of}
use Rattle.process.specs.declared.Process.{Process}
use Rattle.process.specs.Process.{is_open, index_of}
use Rattle.process.specs.Rules.{partner_of, named_by}
use Rattle.process.specs.Fits.{list_fits, process_fits}
use Rattle.process.proofs.OnlyTold.{partner-below}
use Rattle.rendezvous.specs.Table.{most_processes, process, open_offers}
use Rattle.rendezvous.specs.WellFormed.{all_below, count_fits, nap_fits, fits_at, totals_fit, well_formed}
use Rattle.rendezvous.proofs.Forms.{open_below}
use Rattle.records.specs.Layout.{part}
use Rattle.records.specs.Reading.{guards_at, place_by, place_of, signal_of, process_of}
use Rattle.records.specs.Private.{indexed, indexes_fit, record_fits}
use Rattle.records.proofs.Guards.{partner-at}
use Rattle.records.proofs.Tags.{place-fits, signal-fits}
use Rattle.inplace.specs.Layout.{record_start, record_bytes}
use Rattle.inplace.specs.Reading.{head_of, table_of}
use Rattle.inplace.specs.Private.{kept_fits}
use Rattle.inplace.proofs.Rows.{record-at, byte_of}

-- six tests in the order of the definition, and in that of the code
shuffle : (a b i d s k : Bool) → (a && (b && (s && (i && (d && k))))) ≡ (((a && b) && (i && (d && s))) && k)
shuffle false b i d s k = refl
shuffle true false i d s k = refl
shuffle true true false d true k = refl
shuffle true true false d false k = refl
shuffle true true true false true k = refl
shuffle true true true false false k = refl
shuffle true true true true true k = refl
shuffle true true true true false k = refl

-- the test of a record in two: all but the kept index, and the kept index
pub process-fits : (n d p : ℕ) (r : List ℕ) (posted : ℕ) → process_fits n d p (process_of r) posted ≡ (record_fits n d p r && (not (eqb (byte r 0) 4) || ltb (byte r 2) posted))
unfolding process_fits process_of record_fits indexes_fit place_of signal_of
process-fits n d p r posted =
    rw (place-fits d (byte r 1) (byte r 2) (message_of (part r 28 9)) (byte r 5) posted (byte r 0), signal-fits (byte r 3) (byte r 4) (message_of (part r 37 9)) (byte r 5))
    (shuffle (list_fits n p (byte r 5) (guards_at r 8 48)) (list_fits n p (byte r 6) (guards_at r 16 152)) (not (indexed (byte r 0)) || ltb (byte r 1) (byte r 5)) (not (eqb (byte r 0) 8) || ltb (byte r 1) d) (eqb (byte r 3) 0 || ltb (byte r 4) (byte r 5)) (not (eqb (byte r 0) 4) || ltb (byte r 2) posted))

-- at C, the process that the guard names, in the bytes
module _ (n d p : ℕ) (r : List ℕ) (most : n ≤ most_processes) (own : p < n) (fits : record_fits n d p r ≡ true) (at_c : byte r 0 ≡ 4) where
  -- its index is in the own list
  index_below : byte r 1 < byte r 5
  unfolding record_fits indexes_fit
  index_below =
      let lists = list_fits n p (byte r 5) (guards_at r 8 48) && list_fits n p (byte r 6) (guards_at r 16 152) in
      let first = (and_parts (not (indexed (byte r 0)) || ltb (byte r 1) (byte r 5)) _ (and_parts lists (indexes_fit d r) fits).1).0 in
      ltb-true (byte r 1) (byte r 5) (rw at_c at first)

  -- which has eight guards at the most
  count_most : byte r 5 ≤ most_guards
  unfolding record_fits list_fits
  count_most =
      let a = list_fits n p (byte r 5) (guards_at r 8 48) in
      let b = list_fits n p (byte r 6) (guards_at r 16 152) in
      leb-true (byte r 5) most_guards (and_parts (leb (byte r 5) most_guards) _ (and_parts a b (and_parts (a && b) (indexes_fit d r) fits).0).0).0

  -- it stands among the own partners
  named : partner_of (process_of r) ≡ byte r (8 + byte r 1)
  unfolding process_of place_of
  named =
      ap (λ (k : ℕ). named_by (process_of r) (index_of (place_by k (byte r 1) (byte r 2) (message_of (part r 28 9))))) at_c
      ∙ ap (λ (g : Guard). g.partner) (get_or-take (byte r 5) (guards_at r 8 48) (byte r 1) blank index_below)
      ∙ partner-at r 8 48 (byte r 1) (omega (arith, index_below, count_most))

  -- and is below n
  named-below : partner_of (process_of r) < n
  named-below =
      let e : process_fits n d p (process_of r) (suc (byte r 2)) ≡ true = rw (process-fits n d p r (suc (byte r 2)), fits, at_c, lt-ltb (byte r 2) (suc (byte r 2)) (omega arith)) in
      partner-below n d p (process_of r) (suc (byte r 2)) e (omega arith)

  -- how many guards it has posted
  pub posted-at : (t : List ℕ) → (process (table_of t) (partner_of (process_of r))).altcount ≡ byte t (record_start (byte r (8 + byte r 1 % 8) % 32) + 6)
  unfolding process_of
  posted-at t =
      let q = byte r (8 + byte r 1) in
      let e : byte r 1 % 8 ≡ byte r 1 = mod-eq_of_lt (omega (arith, index_below, count_most)) in
      let h : q < 32 = omega (arith, named, named-below) in
      let f : q % 32 ≡ q = mod-eq_of_lt h in
      rw (named, record-at t q h, byte_of t q 6 (omega arith), e, f)

-- the kept index of a record that fits otherwise
kept-fits : (n d p : ℕ) (r t : List ℕ) → n ≤ most_processes → p < n → record_fits n d p r ≡ true
    → (not (eqb (byte r 0) 4) || ltb (byte r 2) (process (table_of t) (partner_of (process_of r))).altcount) ≡ kept_fits t r
unfolding kept_fits
kept-fits n d p r t most own fits = go (eqb (byte r 0) 4) refl
  where
    go : (b : Bool) → eqb (byte r 0) 4 ≡ b
        → (not b || ltb (byte r 2) (process (table_of t) (partner_of (process_of r))).altcount) ≡ (not b || ltb (byte r 2) (byte t (record_start (byte r (8 + byte r 1 % 8) % 32) + 6)))
    go false e = refl
    go true e = ap (ltb (byte r 2)) (posted-at n d p r most own fits (eqb-true (byte r 0) 4 e) t)

-- the test of process p in the table, by the two tests of its bytes
pub fits_by : (t : List ℕ) (n d p : ℕ) → n ≡ byte t 0 → d ≡ byte t 1 → n ≤ most_processes → p < n → (r : List ℕ) → r ≡ record_bytes t p → (b c : Bool) → b ≡ record_fits n d p r → c ≡ kept_fits t r
    → fits_at (table_of t) p ≡ (b && c)
unfolding fits_at table_of head_of
fits_by t n d p en ed most own r er b c eb ec = whole ∙ go b eb
  where
    posted : ℕ
    posted = (process (table_of t) (partner_of (process_of r))).altcount

    whole : fits_at (table_of t) p ≡ (record_fits n d p r && (not (eqb (byte r 0) 4) || ltb (byte r 2) posted))
    whole = rw (record-at t p (omega arith), ← er, ← en, ← ed) (process-fits n d p r posted)

    go : (b : Bool) → b ≡ record_fits n d p r → (record_fits n d p r && (not (eqb (byte r 0) 4) || ltb (byte r 2) posted)) ≡ (b && c)
    go true e = rw (← e) (kept-fits n d p r t most own (sym e) ∙ sym ec)
    go false e = rw (← e)

-- a test of all numbers below k, and of k
pub all_more : (test : ℕ → Bool) (k : ℕ) → all_below test k ≡ true → test k ≡ true → all_below test (k + 1) ≡ true
unfolding all_below
all_more test k e f = rw (add-one, e, f)

-- one that fails
pub all-not : (test : ℕ → Bool) (k n : ℕ) → k < n → test k ≡ false → false ≡ all_below test n
unfolding all_below
all-not test k zero h e = absurd (not-suc-le-zero h)
all-not test k (suc n) h e =
    ⊎_elim
    (λ q. sym (ap (λ (b : Bool). all_below test n && b) (subst (λ (j : ℕ). test j ≡ false) q e) ∙ and-false (all_below test n)))
    (λ l. ap (λ (b : Bool). b && test n) (all-not test k n l e))
    (eq-or-lt_of_le (le_of_suc-le-suc h))
  where
    and-false : (a : Bool) → (a && false) ≡ false
    and-false true = refl
    and-false false = refl

-- whose offer is open, by the bytes
pub open_at : (t : List ℕ) (p : ℕ) → p < most_processes → (r : List ℕ) → r ≡ record_bytes t p → is_open (process_of r) ≡ is_open (process (table_of t) p)
open_at t p h r e = ap (λ (x : Process). is_open x) (ap process_of e ∙ sym (record-at t p h))

-- all of them are counted
pub open-all : (t : List ℕ) (k : ℕ) → k ≡ byte t 0 → open_below (table_of t) k ≡ open_offers (table_of t)
unfolding table_of head_of
open-all t k e = rw e

-- what is told of the records: that one does not fit, or that all do, and how many offers are open
pub counted-none : (fit : Bool) (n : ℕ) → None ≡ cond fit (Some n) None → fit ≡ false
counted-none false n e = refl
counted-none true n e = let z : ◌≡◌ {A = ℕ} 0 1 = cc in absurd (omega arith)

pub counted-some : (fit : Bool) (n pending : ℕ) → Some pending ≡ cond fit (Some n) None → (fit ≡ true) × (pending ≡ n)
counted-some true n pending e = (refl, cc)
counted-some false n pending e = let z : ◌≡◌ {A = ℕ} 0 1 = cc in absurd (omega arith)

-- refusal 7, in the order in which the code asks
pub formed-is : (t : List ℕ) → well_formed (table_of t) ≡ (count_fits (byte t 0) && (nap_fits (byte t 1)
    && (all_below (fits_at (table_of t)) (byte t 0) && leb (2 * (head_of t).meetings + (head_of t).withdrawn + open_offers (table_of t)) (head_of t).next.0)))
unfolding well_formed totals_fit table_of head_of
formed-is t = refl

-- the test of n and of the nap's length fails: the table is not well-formed, whatever else it holds
pub head-fails : (n d : ℕ) (rest : Bool) → ((ltb n 2 || ltb 32 n) || eqb d 0) ≡ true → false ≡ (count_fits n && (nap_fits d && rest))
unfolding count_fits nap_fits
head-fails n d rest e = go (leb 2 n) (leb n 32) (leb 1 d) refl refl refl
  where
    go : (a b c : Bool) → leb 2 n ≡ a → leb n 32 ≡ b → leb 1 d ≡ c → false ≡ ((a && b) && (c && rest))
    go false b c f g h = refl
    go true false c f g h = refl
    go true true false f g h = refl
    go true true true f g h =
        let l = leb-true 1 d h in
        let k : ((ltb n 2 || ltb 32 n) || eqb d 0) ≡ false = rw (le-ltb n 2 (leb-true 2 n f), le-ltb 32 n (leb-true n 32 g), ne_eqb d 0 (λ q. omega arith)) in
        absurd (false≢true (sym k ∙ e))

or_parts : (a b : Bool) → (a || b) ≡ false → (a ≡ false) × (b ≡ false)
or_parts true b e = absurd (false≢true (sym e))
or_parts false b e = (refl, e)

-- it holds
pub record HeadFits (n d : ℕ) : Type 0 where
  pub most : n ≤ most_processes
  pub counted : count_fits n ≡ true
  pub napped : nap_fits d ≡ true

pub head-holds : (n d : ℕ) → ((ltb n 2 || ltb 32 n) || eqb d 0) ≡ false → HeadFits n d
unfolding count_fits nap_fits
head-holds n d e =
    let a = or_parts (ltb n 2 || ltb 32 n) (eqb d 0) e in
    let b = or_parts (ltb n 2) (ltb 32 n) a.0 in
    let m = ltb-false 32 n b.1 in
    let z = eqb-false d 0 a.1 in
    record { most = m; counted = rw (le-leb 2 n (ltb-false n 2 b.0), le-leb n 32 m); napped = le-leb 1 d (omega arith) }

-- a number taken from both sides of a test
leb-less : (a b k : ℕ) → k ≤ b → leb a (b - k) ≡ leb (a + k) b
leb-less a b k h = same_test _ _ (λ e. let l = leb-true a (b - k) e in le-leb (a + k) b (omega arith)) (λ e. let l = leb-true (a + k) b e in le-leb a (b - k) (omega arith))

-- the test of the totals, with so many open offers
module _ (t : List ℕ) (next pending : ℕ) (is : next ≡ word_of (part t 4 4)) where
  abbrev Totals : Bool → Type 0
  Totals ok = ok ≡ leb (2 * (head_of t).meetings + (head_of t).withdrawn + pending) (head_of t).next.0

  -- it fails by these alone
  pub totals-over : next < pending → Totals false
  unfolding head_of
  totals-over h = rw (← is) (sym (lt-leb (2 * long_of (part t 8 8) + long_of (part t 16 8) + pending) next (omega arith)))

  -- or holds where there is room for the others
  pub totals-left : pending ≤ next → (meetings withdrawn : ℕ) (ok : Bool) → meetings ≡ long_of (part t 8 8) → withdrawn ≡ long_of (part t 16 8) → ok ≡ leb (2 * meetings + withdrawn) (next - pending) → Totals ok
  unfolding head_of
  totals-left h meetings withdrawn ok m w e = rw (← is, ← m, ← w) (e ∙ leb-less (2 * meetings + withdrawn) next pending h)
