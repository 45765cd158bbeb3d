-- Laws of a well-formed table, and of the form test in its three parts.
use Rattle.std.specs.Prelude.{Some, None}
use Rattle.std.specs.Bool.{then_some}
use Prim.Native.Nat.{ℕ, zero, suc, ◌+◌, ◌*◌, ◌-◌, ◌≤◌, ◌<◌, ◌%◌}
use mathlib.Core.Path.{◌≡◌, refl, sym, ap, subst, ◌∙◌}
use mathlib.Core.Logic.{⊎_elim}
use mathlib.Core.Bool.{Bool, true, false, false≢true, ◌&&◌, cond}
use native.Mathlib.Nat.{mod-eq_of_lt, not-suc-le-zero, le_of_suc-le-suc, eq-or-lt_of_le}
use native.Mathlib.Numerals.{add-one}
use native.Mathlib.Omega.{arith}
use lib.Dec.{leb}
use borrow.Author.Tests.{leb-true, le-leb}
use Rattle.rendezvous.specs.declared.{Head.Head, ProcessTable.ProcessTable}
use Rattle.rendezvous.specs.Table.{most_processes, process, count_below, accounted_for}
use Rattle.process.specs.declared.Process.{Process}
use Rattle.process.specs.Rules.{partner_of}
use Rattle.process.specs.Process.{is_open}
use Rattle.process.specs.Fits.{process_fits}
use Rattle.process.specs.InCode.{committed_at}
use Rattle.process.proofs.OnlyTold.{fits-committed, partner-below}
use Rattle.alternative.proofs.Tests.{and_parts, both, same_test}
use Rattle.rendezvous.specs.WellFormed.{all_below, count_fits, nap_fits, fits_at, totals_fit, well_formed}
use Rattle.rendezvous.specs.Forms.{Form, form_start, form_more, form_end, form_below, FormsAreWellFormed}
use Rattle.rendezvous.specs.Acts.{FormOf}

all-at : (test : ℕ → Bool) (k n : ℕ) → k < n → all_below test n ≡ true → test k ≡ true
unfolding all_below
all-at test k zero h e = absurd (not-suc-le-zero h)
all-at test k (suc n) h e =
    let a = and_parts (all_below test n) (test n) e in
    ⊎_elim (λ q. subst (λ (j : ℕ). test j ≡ true) (sym q) a.1) (λ l. all-at test k n l a.0) (eq-or-lt_of_le (le_of_suc-le-suc h))

count-least : (n : ℕ) → count_fits n ≡ true → 2 ≤ n
unfolding count_fits
count-least n e = leb-true 2 n (and_parts (leb 2 n) (leb n most_processes) e).0

count_most : (n : ℕ) → count_fits n ≡ true → n ≤ most_processes
unfolding count_fits
count_most n e = leb-true n most_processes (and_parts (leb 2 n) (leb n most_processes) e).1

-- what a well-formed table has passed
record FormParts (t : ProcessTable) : Type 0 where
  counted : count_fits t.head.n ≡ true
  napped : nap_fits t.head.nap ≡ true
  fitted : all_below (fits_at t) t.head.n ≡ true
  totalled : accounted_for t ≤ t.head.next.0

form-parts : (t : ProcessTable) → well_formed t ≡ true → FormParts t
unfolding well_formed totals_fit
form-parts t e =
    let a = and_parts (count_fits t.head.n) _ e in
    let b = and_parts (nap_fits t.head.nap) _ a.1 in
    let c = and_parts (all_below (fits_at t) t.head.n) _ b.1 in
    record { counted = a.0; napped = b.0; fitted = c.0; totalled = leb-true _ _ c.1 }

pub formed-most : (t : ProcessTable) → well_formed t ≡ true → t.head.n ≤ most_processes
formed-most t e = count_most t.head.n (form-parts t e).counted

pub formed-fits : (t : ProcessTable) (p : ℕ) → well_formed t ≡ true → p < t.head.n → fits_at t p ≡ true
formed-fits t p e h = all-at (fits_at t) p t.head.n h (form-parts t e).fitted

-- One that fits names a process below n. So the record may be read at any place that is the partner's where it is below the most processes.
partner-read : (t : ProcessTable) (k : ℕ) (x : Process) → count_fits t.head.n ≡ true → let q = partner_of x in
    process_fits t.head.n t.head.nap k x (process t (q % most_processes)).altcount ≡ process_fits t.head.n t.head.nap k x (process t q).altcount
partner-read t k x c = go (fits (q % most_processes)) (fits q) refl refl
  where
    q : ℕ
    q = partner_of x

    fits : ℕ → Bool
    fits j = process_fits t.head.n t.head.nap k x (process t j).altcount

    same : (j : ℕ) → fits j ≡ true → fits (q % most_processes) ≡ fits q
    same j e =
        let below : q < t.head.n = partner-below t.head.n t.head.nap k x _ e (omega (arith, count-least t.head.n c)) in
        let inside : q < most_processes = omega (arith, count_most t.head.n c) in
        rw (mod-eq_of_lt inside)

    go : (a b : Bool) → fits (q % most_processes) ≡ a → fits q ≡ b → fits (q % most_processes) ≡ fits q
    go true b e f = same _ e
    go false true e f = same _ f
    go false false e f = e ∙ sym f

-- What a loop that tests a table has found before process k. Where the number of processes does not fit, what else is read does not count.
pub record FormAt (t : ProcessTable) (k : ℕ) (form : Form) : Type 0 where
  so_far : count_fits t.head.n ≡ true → form ≡ form_below t k
  unfit : count_fits t.head.n ≡ false → form ≡ None

pub form-start : (t : ProcessTable) (form : Form) → form ≡ form_start t.head → FormAt t 0 form
unfolding form_below
form-start t form e = record { so_far = λ _. e; unfit = λ c. rw (e, c) }

-- of what the partner has posted, only whether x fits counts
more-same : (form : Form) (h : Head) (k : ℕ) (x : Process) (a b : ℕ) → process_fits h.n h.nap k x a ≡ process_fits h.n h.nap k x b → form_more form h k x a ≡ form_more form h k x b
more-same None h k x a b e = refl
more-same (Some left) h k x a b e = rw e

-- one turn of the loop, from what it reads: q is the process that k is committed to
pub form-more : (t : ProcessTable) (k : ℕ) (form form' : Form) (q : ℕ) (x y : Process) → k < t.head.n → FormAt t k form → x ≡ process t (k % most_processes)
    → q ≡ committed_at x x.place → y ≡ process t (q % most_processes) → form' ≡ form_more form t.head k x y.altcount → FormAt t (k + 1) form'
unfolding form_below
form-more t k form form' q x' y' below f own named other e = record { so_far = fits; unfit = λ c. rw (e, f.unfit c) refl }
  where
    fits : count_fits t.head.n ≡ true → form' ≡ form_below t (k + 1)
    fits c =
        let i : k < most_processes = omega (arith, count_most t.head.n c) in
        let j : k % most_processes ≡ k = mod-eq_of_lt i in
        let x = process t k in
        let at-q : q ≡ committed_at x x.place = rw (own, j) at named in
        let tested : form' ≡ form_more form t.head k x (process t (q % most_processes)).altcount = rw (other, own, j) at e in
        let partner : process_fits t.head.n t.head.nap k x (process t (q % most_processes)).altcount ≡ process_fits t.head.n t.head.nap k x (process t (partner_of x)).altcount =
        rw at-q (fits-committed t.head.n t.head.nap k x (λ j. (process t (j % most_processes)).altcount) ∙ partner-read t k x c) in
        tested ∙ rw (f.so_far c, add-one) (more-same (form_below t k) t.head k x _ _ partner)

-- the open offers of the processes below k
abbrev pub open_below : ProcessTable → ℕ → ℕ
open_below t k = count_below (λ p. is_open (process t p)) k

-- the head fits and the processes below k do, and each of their open offers has taken one of the tickets given out
record Below (t : ProcessTable) (k left : ℕ) : Type 0 where
  head : (count_fits t.head.n && nap_fits t.head.nap) ≡ true
  fitted : all_below (fits_at t) k ≡ true
  taken : left + open_below t k ≡ t.head.next.0

some-passed : (b : Bool) (m n : ℕ) → then_some b m ≡ Some n → (b ≡ true) × (m ≡ n)
some-passed true m n e = (refl, cc)
some-passed false m n e = absurd (let z : ◌≡◌ {A = ℕ} 0 1 = cc in omega arith)

below_parts : (t : ProcessTable) (k left : ℕ) → form_below t k ≡ Some left → Below t k left
unfolding form_below all_below fits_at count_below
below_parts t zero left e = let a = some-passed _ _ _ e in record { head = a.0; fitted = refl; taken = omega (arith, a.1) }
below_parts t (suc k) left e = go (form_below t k) (below_parts t k) e
  where
    x : Process
    x = process t k

    go : (form : Form) → ((before : ℕ) → form ≡ Some before → Below t k before) → form_more form t.head k x (process t (partner_of x)).altcount ≡ Some left → Below t (suc k) left
    go None l e = absurd (let z : ◌≡◌ {A = ℕ} 0 1 = cc in omega arith)
    go (Some before) f e =
        let a = some-passed _ _ _ e in
        let b = and_parts (fits_at t k) _ a.0 in
        let l = f before refl in
        record { head = l.head; fitted = both _ _ l.fitted b.0; taken = omega (arith, l.taken, a.1, leb-true _ before b.1) }

below-fits : (t : ProcessTable) (k left : ℕ) → Below t k left → form_below t k ≡ Some left
unfolding form_below all_below fits_at count_below
below-fits t zero left l = rw l.head (ap Some (omega (arith, l.taken)))
below-fits t (suc k) left l =
    let taken : ℕ = cond (is_open (process t k)) 1 0 in
    let a = and_parts (all_below (fits_at t) k) _ l.fitted in
    let before = below-fits t k (left + taken) (record { head = l.head; fitted = a.0; taken = omega (arith, l.taken) }) in
    rw (before, a.1, le-leb taken (left + taken) (omega arith)) (ap Some (omega arith))

pub forms-are-well-formed : FormsAreWellFormed
unfolding well_formed totals_fit
forms-are-well-formed t = same_test _ _ (there (form_below t n) refl) back
  where
    n : ℕ
    n = t.head.n

    there : (form : Form) → form_below t n ≡ form → form_end form t.head ≡ true → well_formed t ≡ true
    there None f e = absurd (false≢true e)
    there (Some left) f e =
        let l = below_parts t n left f in
        let h = and_parts (count_fits n) _ l.head in
        both _ _ h.0 (both _ _ h.1 (both _ _ l.fitted (le-leb (accounted_for t) t.head.next.0 (omega (arith, l.taken, leb-true _ left e)))))

    back : well_formed t ≡ true → form_end (form_below t n) t.head ≡ true
    back e =
        let a = form-parts t e in
        let left : ℕ = t.head.next.0 - open_below t n in
        rw (below-fits t n left (record { head = both _ _ a.counted a.napped; fitted = a.fitted; taken = omega (arith, a.totalled) }))
        (le-leb (2 * t.head.meetings + t.head.withdrawn) left (omega (arith, a.totalled)))

-- what the loop has found once it has tested all
pub form_of : (t : ProcessTable) (k : ℕ) (form : Form) → k ≡ t.head.n → FormAt t k form → FormOf t form
unfolding well_formed
form_of t k form at f = go (count_fits t.head.n) refl
  where
    go : (b : Bool) → count_fits t.head.n ≡ b → FormOf t form
    go true c = rw (f.so_far c, at) (forms-are-well-formed t)
    go false c = rw (f.unfit c, c) refl
