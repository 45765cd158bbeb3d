-- A fresh table is good, every call leaves a good table, and what each call does to the records of one.
use Rattle.std.specs.Prelude.{Option, Some, None}
use Prim.Native.Nat.{ℕ, zero, suc, ◌+◌, ◌≤◌, ◌<◌}
use mathlib.Core.Path.{◌≡◌, refl, ◌∙◌, ap, subst⁻¹}
use mathlib.Core.List.{List, ◌++◌}
use mathlib.Core.Bool.{Bool, true, false, cond, true≢false}
use native.Mathlib.Omega.{arith}
use lib.ListN.{take, set, length, replicate, length-set, get_or-replicate, get_or-eq_default}
use lib.Seq.{take-take, take-append_seam}
use borrow.Author.Tests.{le-leb}
use Rattle.alternative.specs.declared.Message.{Message}
use Rattle.alternative.specs.declared.Guard.{Guard}
use Rattle.alternative.specs.Guards.{most_guards, blank, slots, lent}
use Rattle.process.specs.declared.Place.{Place}
use Rattle.process.specs.declared.Process.{Process}
use Rattle.rendezvous.specs.declared.ProcessTable.{ProcessTable}
use Rattle.process.specs.Process.{is_at, index_of, nobody, fresh_process, is_open}
use Rattle.rendezvous.specs.Table.{most_processes, process, put, with_head, with_meeting, fresh_head, fresh_table, count_below}
use Rattle.process.specs.Rules.{Effect, Neither, Own, Both, at_place, named_by, partner_of}
use Rattle.process.specs.Fits.{all_guards, list_fits}
use Rattle.rendezvous.specs.Calls.{entering, offered, effect_on, applied, stepped, given_up, withdrawn_or_late}
use Rattle.rendezvous.proofs.Verdicts.{Admitted}
use Rattle.rendezvous.specs.Run.{Call, Offer, Step, Collect, Withdraw, reply_to, table_after}
use Rattle.history.proofs.View.{split, View, upd, effected, upd_same, put_view}
use Rattle.history.proofs.Invariant.{Alone, Paired, Inv, Formed, AllFormed, open_in, Totalled, Good}
use Rattle.history.proofs.Tame.{recounted}
use Rattle.history.proofs.Places.{idle-is}
use Rattle.history.proofs.Facts.{fine, at_names}
use Rattle.history.proofs.Keeps.{inv-rule, inv-offered, inv-collected, inv-withdrawn}
use Rattle.history.proofs.Formed.{placed, with-own, formed-rule}
use Rattle.history.proofs.Totals.{part, count-put, Moved, moved-rule, totalled-rule}
use Rattle.history.proofs.Replies.{offer-elim, step-elim, collect-elim, withdraw-elim}

-- a list of at most eight guards comes back from the slots that it is lent in
pub lent_back : (gs : List Guard) → length gs ≤ most_guards → take (length gs) (slots gs) ≡ gs
unfolding slots
lent_back gs h = take-take (length gs) most_guards (gs ++ replicate most_guards blank) h ∙ take-append_seam gs (replicate most_guards blank)

module _ {t : ProcessTable} (good : Good t) (p : ℕ) where
  -- where no rule reads a partner it is process 0, which is there
  pub partner-below : partner_of (process t p) < t.head.n
  partner-below = at (index_of (process t p).place) refl
    where
      at : (index : Option ℕ) → index_of (process t p).place ≡ index → named_by (process t p) index < t.head.n
      at (Some i) e = (at_names (process t) good.inv p i e).below
      at None e = omega (arith, good.least)

  module _ (x : Process) (below : p < t.head.n) where
    pub put_one : process (put t p x) ≡ upd (process t) p x
    put_one = put_view t p x (omega (arith, good.long, good.most))

    pub put-there : process (put t p x) p ≡ x
    put-there = ap (λ (v : View). v p) put_one ∙ upd_same (process t) p x

    pub put_two : (q : ℕ) (y : Process) → q < t.head.n → process (put (put t q y) p x) ≡ upd (upd (process t) q y) p x
    put_two q y other =
        put_view (put t q y) p x (omega (arith, good.long, good.most, length-set t.processes q y))
        ∙ ap (λ (v : View). upd v p x) (put_view t q y (omega (arith, good.long, good.most)))

    pub put-two-there : (q : ℕ) (y : Process) → q < t.head.n → process (put (put t q y) p x) p ≡ x
    put-two-there q y other = ap (λ (v : View). v p) (put_two q y other) ∙ upd_same (upd (process t) q y) p x

  -- A table of as many processes is good by what holds of its head and its records.
  good_of : (u : ProcessTable) (v : View) → process u ≡ v → length u.processes ≡ most_processes → u.head.n ≡ t.head.n → u.head.nap ≡ t.head.nap
      → Inv u.head v → AllFormed u.head.n u.head.nap v → Totalled u.head v → Good u
  good_of u v seen long n nap inv f counted = record {
    long = long;
    least = omega (arith, n, good.least);
    most = omega (arith, n, good.most);
    naps = omega (arith, nap, good.naps);
    inv = rw seen inv;
    formed = subst⁻¹ (AllFormed u.head.n u.head.nap) seen f;
    totals = subst⁻¹ (Totalled u.head) seen counted;
  }

  -- one record is new, and its offer as open as it was
  good-own : (x : Process) → p < t.head.n → part x ≡ part (process t p) → Inv t.head (upd (process t) p x) → AllFormed t.head.n t.head.nap (upd (process t) p x) → Good (put t p x)
  good-own x h stays inv f =
      good_of (put t p x) _ (put_one x h) (length-set t.processes p x ∙ good.long) refl refl inv f (omega (arith, good.totals, count-put (process t) p x t.head.n h, stays))

  good-both : p < t.head.n → (q : ℕ) → q < t.head.n → (x y : Process) (met : Bool) → let v = upd (upd (process t) q y) p x in let h = cond met (with_meeting t.head) t.head in
      Inv t.head v → AllFormed t.head.n t.head.nap v → Totalled h v → Good (with_head (put (put t q y) p x) h)
  good-both h q l x y met inv f counted = go met counted
    where
      long : length (set (set t.processes q y) p x) ≡ most_processes
      long = length-set (set t.processes q y) p x ∙ length-set t.processes q y ∙ good.long

      go : (b : Bool) → let v = upd (upd (process t) q y) p x in let h = cond b (with_meeting t.head) t.head in Totalled h v → Good (with_head (put (put t q y) p x) h)
      go true counted = good_of _ _ (put_two x h q y l) long refl refl (recounted inv (t.head.meetings + 1) t.head.withdrawn) f counted
      go false counted = good_of _ _ (put_two x h q y l) long refl refl inv f counted

  good-applied : p < t.head.n → (q : ℕ) → q < t.head.n → (effect : Effect) → Moved (process t) p q effect → Inv t.head (effected (process t) p q effect)
      → AllFormed t.head.n t.head.nap (effected (process t) p q effect) → Good (applied t p q effect).table
  good-applied h q l Neither m inv f = good
  good-applied h q l (Own x) m inv f = good-own x h m.stays inv f
  good-applied h q l (Both x y) m inv f = good-both h q l x y (is_at "C" x.place) inv f (totalled-rule t.head (process t) p q good.totals h l (Both x y) m)

  good-stepped : p < t.head.n → Good (stepped t p).table
  unfolding stepped effect_on
  good-stepped h = good-applied h (partner_of (process t p)) partner-below (effect_on t p) (moved-rule (process t) good.inv p t.head.nap)
      (inv-rule (process t) good.inv p) (formed-rule (process t) good.inv good.formed p good.naps)

  good-offered : (gs : List Guard) → Admitted t p (lent gs) → Good (offered t p (lent gs)).table
  unfolding offered entering lent list_fits
  good-offered gs a =
      let x = entering (process t p) t.head.next (lent gs) in
      let idle = idle-is _ a.idle in
      let silent = (fine (process t) good.inv p Place.Idle idle).1 in
      let back = lent_back gs a.most in
      let fits : list_fits t.head.n p (length gs) (slots (take (length gs) (slots gs))) ≡ true = rw (back, le-leb (length gs) most_guards a.most) a.partners in
      let closed : part (process t p) ≡ 0 = rw idle refl in
      good_of _ _ (put_one x a.below) (length-set t.processes p _ ∙ good.long) refl refl
      (inv-offered (process t) good.inv p (lent gs) idle a.below fits)
      (with-own (process t) good.inv good.formed p x (record { posted = (good.formed p).posted; signal = rw silent refl; place = tt }))
      (omega (arith, good.totals, count-put (process t) p x t.head.n a.below, closed))

  good-withdrawn : p < t.head.n → is_open (process t p) ≡ true → Good (withdrawn_or_late t p (process t p) false).table
  good-withdrawn h o =
      let f = good.formed p in
      let x = given_up (process t p) in
      let opened : part (process t p) ≡ 1 = rw o refl in
      good_of _ _ (put_one x h) (length-set t.processes p x ∙ good.long) refl refl
      (recounted (inv-withdrawn (process t) good.inv p o) t.head.meetings (t.head.withdrawn + 1))
      (with-own (process t) good.inv good.formed p x (record { posted = f.posted; signal = f.signal; place = tt }))
      (omega (arith, good.totals, count-put (process t) p x t.head.n h, opened))

  good-collected : p < t.head.n → (i : ℕ) (m : Message) → (process t p).place ≡ Place.Met i m → Good (put t p (at_place (process t p) Place.Idle))
  good-collected h i m e = good-own _ h (rw e refl) (inv-collected (process t) good.inv p i m e) (with-own (process t) good.inv good.formed p _ (placed (good.formed p) Place.Idle tt))

pub good-after : (t : ProcessTable) → Good t → (c : Call) → Good (table_after t c)
unfolding reply_to
good-after t good (Offer p gs) = offer-elim (λ r. Good r.table) t (λ r. good) p gs (good-offered good p gs)
good-after t good (Step p) = step-elim (λ r. Good r.table) t (λ r. good) p (good-stepped good p)
good-after t good (Collect p) = collect-elim (λ r. Good r.table) t (λ r. good) p (good-collected good p)
good-after t good (Withdraw p) = withdraw-elim (λ r. Good r.table) t (λ r. good) p good (good-withdrawn good p)

-- the records of a fresh table
pub fresh-each : (P : Process → Type 0) → P fresh_process → P nobody → (n d p : ℕ) → P (process (fresh_table n d) p)
fresh-each P a b n d p = split p most_processes (λ h. rw (get_or-replicate most_processes p fresh_process nobody h) a) (λ h. rw (get_or-eq_default (replicate most_processes fresh_process) nobody {n = p} h) b)

idle-paired : (p q : ℕ) (x y : Process) → x.place ≡ Place.Idle → Paired p q x y
idle-paired p q x y e = record {
  past = λ k l f g h. rw e at g;
  tries = λ k l f g h. absurd (rw e at g);
  never = λ k l f g h. rw e at g;
  bound = λ i j g m. absurd (rw e at g);
  single = λ i j k l g h m. rw e at g;
  differ = λ b c f. true≢false (rw e at b);
}

-- where no offer is open none is counted
none_open : (v : View) → ((p : ℕ) → is_open (v p) ≡ false) → (n : ℕ) → open_in v n ≡ 0
unfolding count_below
none_open v h zero = refl
none_open v h (suc n) = rw (none_open v h n, h n) refl

pub good-fresh : (n d : ℕ) → 2 ≤ n → n ≤ most_processes → 1 ≤ d → Good (fresh_table n d)
unfolding list_fits all_guards
good-fresh n d a b c = record {
  long = refl;
  least = a;
  most = b;
  naps = c;
  inv = record {
    alone = λ p. fresh-each (Alone (fresh_head n d) p)
        (record { fine = (refl, refl); own = refl; on = tt; there = λ b. absurd (true≢false b); given = λ b. absurd (true≢false b) })
        (record { fine = (refl, refl); own = refl; on = tt; there = λ b. absurd (true≢false b); given = λ b. absurd (true≢false b) }) n d p;
    paired = λ p q _. idle-paired p q _ _ (fresh-each (λ x. x.place ≡ Place.Idle) refl refl n d p);
  };
  formed = λ p. fresh-each (Formed n d p) (record { posted = refl; signal = refl; place = tt }) (record { posted = refl; signal = refl; place = tt }) n d p;
  totals = omega (arith, none_open (process (fresh_table n d)) (λ p. fresh-each (λ x. is_open x ≡ false) refl refl n d p) n);
}
