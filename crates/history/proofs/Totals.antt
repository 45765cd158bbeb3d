-- What each rule does to the open offers, and so to the totals: a commit closes two offers, and no other rule closes or opens one.
use Rattle.std.specs.Prelude.{Option, Some, None}
use Prim.Native.Nat.{ℕ, zero, suc, ◌+◌, ◌*◌, ◌≤◌, ◌<◌}
use mathlib.Core.Path.{◌≡◌, refl, ap, ◌∙◌}
use mathlib.Core.Bool.{Bool, true, false, cond, false≢true}
use native.Mathlib.Omega.{arith}
use lib.Dec.{ltb}
use Rattle.alternative.specs.Guards.{kept_match, next_enabled}
use Rattle.process.specs.declared.Place.{Place}
use Rattle.process.specs.declared.State.{State}
use Rattle.process.specs.declared.Process.{Process}
use Rattle.process.specs.Process.{is_at, state_of, index_of, own_list, own_guard, posted_list, open_at, is_open}
use Rattle.process.specs.Rules.{Effect, Neither, Own, Both, at_place, with_accepting, scan_at, scan_from, sleep_at, scan, try, hand_over, absorb, rule_at, rule, named_by, partner_of}
use Rattle.rendezvous.specs.declared.Head.{Head}
use Rattle.rendezvous.specs.Table.{count_below, with_meeting}
use Rattle.rendezvous.specs.Calls.{head_after}
use Rattle.history.proofs.View.{split, View, upd, effected, upd_same, upd_other}
use Rattle.history.proofs.Invariant.{Inv, Totalled, open_in}
use Rattle.history.proofs.Places.{shows-elim, told-woken}
use Rattle.history.proofs.Facts.{fine, at_names, accepts}
use Rattle.alternative.specs.declared.Message.{Message}

-- the part of one process in the count of open offers, and of a step to its place in that of the meetings
abbrev pub part : Process → ℕ
part x = cond (is_open x) 1 0

abbrev pub met_at : Place → ℕ
met_at place = cond (is_at "C" place) 1 0

-- a new record changes the count by the parts of the new and of the old one
count_past : (v : View) (p : ℕ) (x : Process) (n : ℕ) → n ≤ p → open_in (upd v p x) n ≡ open_in v n
unfolding count_below
count_past v p x zero h = refl
count_past v p x (suc n) h = rw (count_past v p x n (omega arith), upd_other v p x n (λ e. omega (arith, e))) refl

count-below : (v : View) (p : ℕ) (x : Process) (n : ℕ) → p < n → open_in (upd v p x) n + part (v p) ≡ open_in v n + part x → open_in (upd v p x) (suc n) + part (v p) ≡ open_in v (suc n) + part x
unfolding count_below
count-below v p x n l e = rw (upd_other v p x n (λ z. omega (arith, z))) (omega (arith, e))

count_at : (v : View) (p : ℕ) (x : Process) (n : ℕ) → n ≡ p → open_in (upd v p x) (suc n) + part (v p) ≡ open_in v (suc n) + part x
unfolding count_below
count_at v p x n z =
    let new : upd v p x n ≡ x = ap (upd v p x) z ∙ upd_same v p x in
    let old : v n ≡ v p = ap v z in
    rw (new, old, count_past v p x n (omega (arith, z))) (omega arith)

pub count-put : (v : View) (p : ℕ) (x : Process) (n : ℕ) → p < n → open_in (upd v p x) n + part (v p) ≡ open_in v n + part x
count-put v p x zero h = absurd (omega arith)
count-put v p x (suc n) h = split p n (λ l. count-below v p x n l (count-put v p x n l)) (λ l. count_at v p x n (omega arith))

-- What a rule changes: one record, whose offer stays open or closed, and which does not come to C; or two, by a commit from T, which closes two offers, or by rule 9, which closes none.
pub record OneMoved (old new : Process) : Type 0 where
  pub stays : part new ≡ part old
  pub uncommitted : is_at "C" new.place ≡ false

pub record TwoMoved (p q : ℕ) (old-p old-q x y : Process) : Type 0 where
  pub apart : p ≡ q → ⊥
  pub opens : part x + part y + 2 * met_at x.place ≡ part old-p + part old-q
  pub tried : is_at "C" x.place ≡ true → is_at "T" old-p.place ≡ true

abbrev pub Moved : View → ℕ → ℕ → Effect → Type 0
Moved v p q Neither = Unit {0}
Moved v p q (Own x) = OneMoved (v p) x
Moved v p q (Both x y) = TwoMoved p q (v p) (v q) x y

module _ {head : Head} (v : View) (inv : Inv head v) (p : ℕ) where
  -- from one place at which the offer is open to another
  opened : (pl : Place) → (v p).place ≡ pl → open_at pl (v p).accepting ≡ true → (x : Process) → is_open x ≡ true → is_at "C" x.place ≡ false → OneMoved (v p) x
  opened pl e o x f c = record { stays = rw (f, e, o) refl; uncommitted = c }

  moved-scan-on : (q : ℕ) (pl : Place) → (v p).place ≡ pl → open_at pl (v p).accepting ≡ true → (k : ℕ) → Moved v p q (scan_from (v p) k)
  unfolding scan_from
  moved-scan-on q pl e o k = go (next_enabled (own_list (v p)) k)
    where
      go : (f : Option ℕ) → OneMoved (v p) (at_place (v p) (scan_at f))
      go (Some i) = opened pl e o _ refl refl
      go None = opened pl e o _ refl refl

  moved-sleep : (s q : ℕ) → (v p).place ≡ Place.Asleep s → (early : Bool) → Moved v p q (sleep_at (v p) s early)
  moved-sleep s q e true = opened _ e refl _ refl refl
  moved-sleep s q e false = moved-scan-on q _ e refl 0

  moved-scan : (i q : ℕ) → (v p).place ≡ Place.Scanning i → (s : State) (older : Bool) → Moved v p q (scan (v p) i s older)
  moved-scan i q e State.Running older = moved-scan-on q _ e refl (suc i)
  moved-scan i q e State.Sleeping older = moved-scan-on q _ e refl (suc i)
  moved-scan i q e State.Waiting older = opened _ e refl _ refl refl
  moved-scan i q e State.Alt true = opened _ e refl _ refl refl
  moved-scan i q e State.Alt false = tt

  -- rule 7: the partner's offer is shown, and open until now
  moved-commit : (i j : ℕ) → (v p).place ≡ Place.Trying i → let q = (own_guard (v p) i).partner in (v q).accepting ≡ true
      → TwoMoved p q (v p) (v q) (at_place (v p) (Place.Committed i j)) (with_accepting (v q) false)
  moved-commit i j e a =
      let q = (own_guard (v p) i).partner in
      let s = accepts v inv q a in
      let before : open_at (v q).place true ≡ true = shows-elim (λ pl. open_at pl true ≡ true) refl refl (v q).place s in
      let after : open_at (v q).place false ≡ false = shows-elim (λ pl. open_at pl false ≡ false) refl refl (v q).place s in
      record { apart = (at_names v inv p i (rw e refl)).other; opens = rw (after, e, a, before) refl; tried = λ _. rw e refl }

  moved-try : (i : ℕ) → (v p).place ≡ Place.Trying i → let q = (own_guard (v p) i).partner in (accepting : Bool) → (v q).accepting ≡ accepting → (found : Option ℕ)
      → Moved v p q (try (v p) i (v q) accepting found)
  moved-try i e true a (Some j) = moved-commit i j e a
  moved-try i e true a None = moved-scan-on _ _ e refl (suc i)
  moved-try i e false a (Some j) = moved-scan-on _ _ e refl (suc i)
  moved-try i e false a None = moved-scan-on _ _ e refl (suc i)

  moved-hand : (i j : ℕ) → (v p).place ≡ Place.Committed i j → let q = (own_guard (v p) i).partner in Moved v p q (hand_over (v p) i j (v q))
  unfolding hand_over
  moved-hand i j e = record { apart = (at_names v inv p i (rw e refl)).other; opens = rw e (omega arith); tried = λ c. absurd (false≢true c) }

  moved-absorb : (q : ℕ) → (v p).place ≡ Place.Waiting → (s : Option (ℕ × Message)) → (v p).signal ≡ s → Moved v p q (absorb (v p) s)
  moved-absorb q e None f = tt
  moved-absorb q e (Some (j, m)) f = record { stays = rw (e, told-woken _ _ j m (fine v inv p _ e).deaf f) refl; uncommitted = refl }

  moved_at : (d : ℕ) (pl : Place) → (v p).place ≡ pl → let q = named_by (v p) (index_of pl) in Moved v p q (rule_at d p (v p) q (v q) pl)
  moved_at d Place.Idle e = tt
  moved_at d Place.Entering e = moved-scan-on _ _ e refl 0
  moved_at d (Place.Scanning i) e = let q = (own_guard (v p) i).partner in moved-scan i q e (state_of (v q).place) (ltb (v q).transaction.0 (v p).transaction.0)
  moved_at d (Place.Trying i) e = let q = (own_guard (v p) i).partner in moved-try i e (v q).accepting refl (kept_match p (own_guard (v p) i) q (posted_list (v q)))
  moved_at d (Place.Committed i j) e = moved-hand i j e
  moved_at d Place.Posting e = opened _ e refl _ refl refl
  moved_at d Place.Opening e = opened _ e refl _ refl refl
  moved_at d Place.Showing e = record { stays = rw e refl; uncommitted = refl }
  moved_at d (Place.Asleep s) e = moved-sleep s _ e (ltb (s + 1) d)
  moved_at d Place.Waiting e = moved-absorb _ e (v p).signal refl
  moved_at d (Place.Met i m) e = tt

  pub moved-rule : (d : ℕ) → let q = partner_of (v p) in Moved v p q (rule d p (v p) q (v q))
  unfolding rule
  moved-rule d = moved_at d (v p).place refl

-- the head after a rule
abbrev pub head_by : Head → Effect → Head
head_by h Neither = h
head_by h (Own x) = h
head_by h (Both x y) = head_after h x.place

pub totalled-rule : (h : Head) (v : View) (p q : ℕ) → Totalled h v → p < h.n → q < h.n → (e : Effect) → Moved v p q e → Totalled (head_by h e) (effected v p q e)
totalled-rule h v p q t below other Neither m = t
totalled-rule h v p q t below other (Own x) m = omega (arith, t, count-put v p x h.n below, m.stays)
totalled-rule h v p q t below other (Both x y) m = go (is_at "C" x.place) refl
  where
    theirs : open_in (upd v q y) h.n + part (v q) ≡ open_in v h.n + part y
    theirs = count-put v q y h.n other

    mine : open_in (upd (upd v q y) p x) h.n + part (v p) ≡ open_in (upd v q y) h.n + part x
    mine = rw (upd_other v q y p m.apart) at (count-put (upd v q y) p x h.n below)

    go : (b : Bool) → is_at "C" x.place ≡ b → Totalled (cond b (with_meeting h) h) (upd (upd v q y) p x)
    go true c = let o : part x + part y + 2 ≡ part (v p) + part (v q) = rw c at m.opens in omega (arith, t, mine, theirs, o)
    go false c = let o : part x + part y + 0 ≡ part (v p) + part (v q) = rw c at m.opens in omega (arith, t, mine, theirs, o)
