-- Every rule, an accepted offer, a collection and a withdrawal keep what holds of each process and of each two.
use Rattle.std.specs.Prelude.{Option, Some, None}
use Prim.Native.Nat.{ℕ, suc, ◌+◌, ◌<◌}
use mathlib.Core.Path.{◌≡◌, refl, sym, ◌∙◌, subst}
use mathlib.Core.List.{List}
use mathlib.Core.Bool.{Bool, true, false, false≢true, true≢false}
use mathlib.Core.Logic.{inl, inr}
use native.Mathlib.Omega.{arith}
use lib.ListN.{take}
use lib.Dec.{ltb}
use Rattle.alternative.specs.declared.Message.{Message}
use Rattle.alternative.specs.declared.Guard.{Guard}
use Rattle.alternative.specs.declared.GuardList.{GuardList}
use Rattle.alternative.specs.Guards.{guards_match, next_enabled, slots}
use Rattle.process.specs.declared.Place.{Place}
use Rattle.process.specs.declared.State.{State}
use Rattle.process.specs.declared.Process.{Process}
use Rattle.process.specs.Process.{state_of, index_of, own_list, posted_list, own_guard, posted_guard, is_idle, is_open}
use Rattle.process.specs.Rules.{at_place, with_signal, with_accepting, scan_at, scan_from, sleep_at, scan, try, hand_over, absorb, rule_at, rule, named_by, partner_of}
use Rattle.process.specs.Fits.{list_fits}
use Rattle.rendezvous.specs.Table.{with_next}
use Rattle.rendezvous.specs.Calls.{entering, given_up}
use Rattle.rendezvous.specs.declared.Head.{Head}
use Rattle.history.proofs.View.{split, View, upd, effected, upd_same, upd_other, entered-each, upd-comm}
use Rattle.history.proofs.Invariant.{Past, Tries, Commits, Shows, Quiet, Waits, On, OnAt, Calm, Shown, Fine, Bound, Inv}
use Rattle.history.proofs.Matches.{match, Searched, searched, next-view}
use Rattle.history.proofs.Places.{shows-elim, waits-elim, quiet-elim, absent-present, told-woken}
use Rattle.history.proofs.Facts.{fine, at_on, at_names, shown, accepts, silent, commit-binds, open-unbound}
use Rattle.history.proofs.Tame.{Held, Near, past, trying, Committing, put_inv, held, free, tame, moves}

-- what a scan from guard s on comes to
record Ahead (gs : List Guard) (s : ℕ) (pl : Place) : Type 0 where
  past : (accepting : Bool) (k : ℕ) → On gs k → Past pl accepting k → k < s
  tries : (k : ℕ) → Tries pl k → ⊥
  commits : (i j : ℕ) → Commits pl i j → ⊥
  calm : (hs : List Guard) (accepting : Bool) (signal : Option (ℕ × Message)) → Calm accepting signal → Fine pl gs hs accepting signal
  on : OnAt gs (index_of pl)

ahead : (gs : List Guard) (s : ℕ) → Ahead gs s (scan_at (next_enabled gs s))
ahead gs s = next-view (λ f. Ahead gs s (scan_at f)) gs s
    (λ i o n. record { past = λ a k b l. split k s (λ c. c) (λ c. absurd (n k c l b)); tries = λ k a. a; commits = λ i j a. a; calm = λ hs a g c. c; on = o })
    (λ n. record { past = λ a k b l. split k s (λ c. c) (λ c. absurd (n k c b)); tries = λ k a. a; commits = λ i j a. a; calm = λ hs a g c. c; on = tt })

module _ {head : Head} (v : View) (inv : Inv head v) (p : ℕ) where
  -- one that shows its list, with the wake count and the signal as they were, is bound if it was
  still : (x : Process) → Shows x.place → x.accepting ≡ (v p).accepting → x.signal ≡ (v p).signal → Held v p → Bound x
  still x s a b h = let o = held v inv p h in record { shows = s; woken = a ∙ o.woken; deaf = b ∙ o.deaf }

  -- The scan goes on from guard s: of the guards before it none but the past ones is near to one that matches.
  advance : (q : ℕ) (pl : Place) → (v p).place ≡ pl → (s : ℕ) → (Shows pl → ⊥) → is_idle pl ≡ false → Calm (v p).accepting (v p).signal
      → ((k r l : ℕ) → (r ≡ p → ⊥) → guards_match p (own_guard (v p) k) r (own_guard (v r) l) ≡ true → Near (v r) l → k < s → Past pl (v p).accepting k)
      → Inv head (effected v p q (scan_from (v p) s))
  unfolding scan_from
  advance q pl e s hides busy c d =
      let h = ahead (own_list (v p)) s in
      moves v inv p _ e _ _ _ (h.calm _ _ _ c) h.on (record {
        passes = λ k r l ne f m g. d k r l ne f m (h.past _ k (match f).here g);
        tries = λ k r l ne f g. absurd (h.tries k g);
        waits = λ k g w. absurd (hides (waits-elim Shows tt pl w));
        commits = λ i j g. absurd (h.commits i j g);
        bound = free v inv p pl e _ hides;
        busy = λ b. busy;
      })

  -- rules 1 and 2
  enter : (q : ℕ) (pl : Place) → (v p).place ≡ pl → (Shows pl → ⊥) → is_idle pl ≡ false → Calm (v p).accepting (v p).signal → Inv head (effected v p q (scan_from (v p) 0))
  enter q pl e hides busy c = advance q pl e 0 hides busy c (λ k r l ne f m h. absurd (omega arith))

  -- a match at guard i is with the process that it names
  named : (i k r l : ℕ) → k ≡ i → guards_match p (own_guard (v p) k) r (own_guard (v r) l) ≡ true → r ≡ (own_guard (v p) i).partner
  named i k r l m f = rw (← m) (sym (match f).to)

  -- rule 3: the partner is quiet, so no guard of it is near
  rule-3 : (i : ℕ) → (v p).place ≡ Place.Scanning i → Quiet (v (own_guard (v p) i).partner).place → Inv head (effected v p (own_guard (v p) i).partner (scan_from (v p) (suc i)))
  rule-3 i e q = advance _ _ e (suc i) (λ a. a) refl (fine v inv p _ e)
      (λ k r l ne f m h. split k i (λ a. a) (λ a. absurd (apart r l (rw (named i k r l (omega arith) f) q) m)))
    where
      apart : (r l : ℕ) → Quiet (v r).place → Near (v r) l → ⊥
      apart r l q (past b) = quiet-elim (λ at. Past at (v r).accepting l → ⊥) (λ a. a) (λ a. a) (λ s a. a) (λ i m a. a) (v r).place q b
      apart r l q (trying b) = quiet-elim (λ at. Tries at l → ⊥) (λ a. a) (λ a. a) (λ s a. a) (λ i m a. a) (v r).place q b

  -- rule 4: the partner waits
  rule-4 : (i : ℕ) → (v p).place ≡ Place.Scanning i → Waits (v (own_guard (v p) i).partner).place → Inv head (upd v p (at_place (v p) (Place.Trying i)))
  rule-4 i e w =
      let waits : (k r l : ℕ) → guards_match p (own_guard (v p) k) r (own_guard (v r) l) ≡ true → i ≡ k → Waits (v r).place = λ k r l f g. rw (named i k r l (sym g) f) w in
      moves v inv p _ e _ _ _ (fine v inv p _ e) (at_on v inv p i (rw e refl)) (search (absurd, inr, waits, free v inv p _ e))

  -- a process past a guard that matches the one tried waits and is still accepting
  tried : (i r l : ℕ) → (v p).place ≡ Place.Trying i → (r ≡ p → ⊥) → guards_match p (own_guard (v p) i) r (own_guard (v r) l) ≡ true → Near (v r) l → (v r).accepting ≡ true
  tried i r l e ne f (past g) = waits-elim (λ at. Past at (v r).accepting l → (v r).accepting ≡ true) (λ a. a) (v r).place ((inv.paired p r (λ a. ne (sym a))).tries i l f (rw e refl) g) g
  tried i r l e ne f (trying g) = absurd ((inv.paired p r (λ a. ne (sym a))).never i l f (rw e refl) g)

  -- rule 8: a partner that waits has no guard that matches, or the search would have found it
  rule-8 : (i : ℕ) → (v p).place ≡ Place.Trying i
      → ((l : ℕ) → (v (own_guard (v p) i).partner).accepting ≡ true → guards_match p (own_guard (v p) i) (own_guard (v p) i).partner (own_guard (v (own_guard (v p) i).partner) l) ≡ true → ⊥)
      → Inv head (effected v p (own_guard (v p) i).partner (scan_from (v p) (suc i)))
  rule-8 i e missing = advance _ _ e (suc i) (λ a. a) refl (fine v inv p _ e)
      (λ k r l ne f m h. split k i (λ a. a) (λ a.
      let z : k ≡ i = omega arith in
      let t : r ≡ (own_guard (v p) i).partner = named i k r l z f in
      let f' : guards_match p (own_guard (v p) i) r (own_guard (v r) l) ≡ true = rw z at f in
      absurd (missing l (rw t at (tried i r l e ne f' m)) (rw t at f'))))

  -- the partner's part of rule 7
  woken : (v p).accepting ≡ true → Inv head (upd v p (with_accepting (v p) false))
  woken z =
      let s = accepts v inv p z in
      let closed : (k : ℕ) → Past (v p).place false k → Past (v p).place (v p).accepting k = λ k g. absurd (shows-elim (λ at. Past at false k → ⊥) false≢true false≢true (v p).place s g) in
      let unheld : (x : Process) → Held v p → Bound x = λ x b. absurd (false≢true (sym (held v inv p b).woken ∙ z)) in
      let h : Shown (own_list (v p)) (posted_list (v p)) false (v p).signal = record { posted = (shown v inv p s).posted; deaf = λ b. absurd (false≢true b) } in
      moves v inv p _ refl _ _ _ (shows-elim (λ at. Fine at (own_list (v p)) (posted_list (v p)) false (v p).signal) h h (v p).place s) (inv.alone p).on (search (inl, closed, unheld))

  -- the partner's part of rule 9, where no other process has committed to it
  told : (signal : Option (ℕ × Message)) → Bound (v p) → (Held v p → ⊥) → Inv head (upd v p (with_signal (v p) signal))
  told signal b alone =
      let unheld : (x : Process) → Held v p → Bound x = λ x h. absurd (alone h) in
      let h : Shown (own_list (v p)) (posted_list (v p)) (v p).accepting signal = record { posted = (shown v inv p b.shows).posted; deaf = λ a. absurd (false≢true (sym b.woken ∙ a)) } in
      moves v inv p _ refl _ _ _ (shows-elim (λ at. Fine at (own_list (v p)) (posted_list (v p)) (v p).accepting signal) h h (v p).place b.shows) (inv.alone p).on (search (inl, unheld))

  -- the own part of rule 7, where no other process has committed to the partner
  committed : (i j : ℕ) → (v p).place ≡ Place.Trying i → (q : ℕ) → (own_guard (v p) i).partner ≡ q → Bound (v q) → guards_match p (own_guard (v p) i) q (own_guard (v q) j) ≡ true
      → ((r k l : ℕ) → Commits (v r).place k l → q ≡ (own_guard (v r) k).partner → ⊥)
      → Inv head (upd v p (at_place (v p) (Place.Committed i j)))
  committed i j e q z b f only =
      let rightly : (a c : ℕ) → (i ≡ a) × (j ≡ c) → Committing v p a c = λ a c g. rw (← g.0, ← g.1) (record { to = λ r ne m. let t : q ≡ r = sym z ∙ m in (rw (← t) b, rw (← t) f); only = λ r k l ne c m. only r k l c (sym z ∙ m) }) in
      moves v inv p _ e _ _ _ (fine v inv p _ e) (at_on v inv p i (rw e refl)) (search (absurd, inr, rightly, free v inv p _ e))

  -- an accepted offer: the list is new, and nothing is said of a process at E but that its ticket is the next one, which then grows
  pub inv-offered : (list : GuardList) → (v p).place ≡ Place.Idle → p < head.n → list_fits head.n p list.count (slots (take list.count list.guards)) ≡ true
      → Inv (with_next head (head.next.0 + 1)) (upd v p (entering (v p) head.next list))
  unfolding entering
  inv-offered list e h fits = put_inv v p _ later (record { fine = fine v inv p _ e; own = fits; on = tt; there = λ _. h; given = λ _. omega arith })
      (λ r ne. record {
        past = λ k l f g h. g;
        tries = λ k l f g h. absurd g;
        never = λ k l f g h. g;
        bound = λ i j g m. absurd g;
        single = λ i j k l g. absurd g;
        differ = λ _ b f. omega (arith, (inv.alone r).given b);
      })
      (λ r ne. record {
        past = λ k l f g h. h;
        tries = λ k l f g h. absurd h;
        never = λ k l f g h. h;
        bound = λ i j c b. absurd (rw e at (held v inv p (record { by = r; at = i; kept = j; other = ne; there = c; names = b })).shows);
        single = λ i j k l g h. absurd h;
        differ = λ b _ f. omega (arith, (inv.alone r).given b);
      })
    where
      later : Inv (with_next head (head.next.0 + 1)) v
      later = record {
        alone = λ q. let a = inv.alone q in record { fine = a.fine; own = a.own; on = a.on; there = a.there; given = λ b. omega (arith, a.given b) };
        paired = inv.paired;
      }

  pub inv-collected : (i : ℕ) (m : Message) → (v p).place ≡ Place.Met i m → Inv head (upd v p (at_place (v p) Place.Idle))
  inv-collected i m e = moves v inv p _ e _ _ _ (fine v inv p _ e) tt (search (absurd, free v inv p _ e))

  pub inv-withdrawn : is_open (v p) ≡ true → Inv head (upd v p (given_up (v p)))
  inv-withdrawn o =
      let unheld : (x : Process) → Held v p → Bound x = λ x h. absurd (open-unbound (v p) o (held v inv p h)) in
      let still-idle : true ≡ false → is_idle (v p).place ≡ false = λ b. absurd (true≢false b) in
      moves v inv p _ refl _ _ _ (refl, silent v inv p o) tt (search (absurd, unheld, still-idle))

module _ {head : Head} (v : View) (inv : Inv head v) (p i j : ℕ) where
  -- the partner first, then the mover
  rule-7 : let q = (own_guard (v p) i).partner in (v p).place ≡ Place.Trying i → (v q).accepting ≡ true
      → guards_match p (own_guard (v p) i) q (posted_guard (v q) j) ≡ true → Inv head (upd (upd v q (with_accepting (v q) false)) p (at_place (v p) (Place.Committed i j)))
  rule-7 e z f = subst (λ (x : Process). x.place ≡ Place.Trying i → (own_guard x i).partner ≡ q → guards_match p (own_guard x i) q (own_guard (u q) j) ≡ true → Inv head (upd u p (at_place x (Place.Committed i j)))) up
      (λ e' z' f'. committed u (woken v inv q z) p i j e' q z' (rw uq (record { shows = s; woken = refl; deaf = (shown v inv q s).deaf z })) f' only)
      e refl (rw uq (rw (shown v inv q s).posted at f))
    where
      q : ℕ
      q = (own_guard (v p) i).partner

      u : View
      u = upd v q (with_accepting (v q) false)

      up : u p ≡ v p
      up = upd_other v q _ p (at_names v inv p i (rw e refl)).other

      uq : u q ≡ with_accepting (v q) false
      uq = upd_same v q _

      s : Shows (v q).place
      s = accepts v inv q z

      only : (r k l : ℕ) → Commits (u r).place k l → q ≡ (own_guard (u r) k).partner → ⊥
      only = entered-each (λ r y. (k l : ℕ) → Commits y.place k l → q ≡ (own_guard y k).partner → ⊥) v q _
          (λ k l c _. shows-elim (λ at. Commits at k l → ⊥) (λ a. a) (λ a. a) (v q).place s c)
          (λ r ne k l c m. false≢true (sym ((inv.paired r q ne).bound k l c (sym m)).0.woken ∙ z))

  -- the mover first, then the partner: no other process has committed to it
  rule-9 : let q = (own_guard (v p) i).partner in (k : ℕ) (m : Message) (signal : Option (ℕ × Message)) → (v p).place ≡ Place.Committed i j → Inv head (upd (upd v q (with_signal (v q) signal)) p (at_place (v p) (Place.Met k m)))
  rule-9 k m signal e = rw (upd-comm v p q (at_place (v p) (Place.Met k m)) (with_signal (v q) signal) ne)
      (subst (λ (y : Process). Bound y → Inv head (upd u q (with_signal y signal))) uq (λ b. told u met q signal b alone) (commit-binds v inv p i j e).0)
    where
      q : ℕ
      q = (own_guard (v p) i).partner

      u : View
      u = upd v p (at_place (v p) (Place.Met k m))

      met : Inv head u
      met = moves v inv p _ e _ _ _ (fine v inv p _ e) tt (search (absurd, free v inv p _ e))

      ne : p ≡ q → ⊥
      ne = (at_names v inv p i (rw e refl)).other

      uq : u q ≡ v q
      uq = upd_other v p _ q (λ a. ne (sym a))

      alone : Held u q → ⊥
      alone h = entered-each (λ r y. (k l : ℕ) → Commits y.place k l → (own_guard y k).partner ≡ q → ⊥) v p _
          (λ k l c _. c)
          (λ r ne' k l c a. (inv.paired p r (λ z. ne' (sym z))).single i j k l (rw e (refl, refl)) c (sym a))
          h.by h.at h.kept h.there h.names

-- The rules, by the place and what they read. Most say nothing new of any guard, so that nothing is left to show but what holds of the mover alone.
module _ {head : Head} (v : View) (inv : Inv head v) (p : ℕ) where
  inv-sleep : (s : ℕ) → (v p).place ≡ Place.Asleep s → (early : Bool) → Inv head (effected v p 0 (sleep_at (v p) s early))
  inv-sleep s e true = moves v inv p _ e _ _ _ (fine v inv p _ e) tt (search (absurd, free v inv p _ e))
  inv-sleep s e false = enter v inv p _ _ e (λ a. a) refl (fine v inv p _ e)

  inv-scan : (i : ℕ) → (v p).place ≡ Place.Scanning i → let q = (own_guard (v p) i).partner in (s : State) → state_of (v q).place ≡ s → (older : Bool) → Inv head (effected v p q (scan (v p) i s older))
  inv-scan i e State.Running f older = rule-3 v inv p i e (rw f tt)
  inv-scan i e State.Sleeping f older = rule-3 v inv p i e (rw f tt)
  inv-scan i e State.Waiting f older = rule-4 v inv p i e (rw f tt)
  inv-scan i e State.Alt f true = moves v inv p _ e _ _ _ (fine v inv p _ e) tt (search (absurd, free v inv p _ e))
  inv-scan i e State.Alt f false = inv

  inv-try : (i : ℕ) → (v p).place ≡ Place.Trying i → let q = (own_guard (v p) i).partner in
      (accepting : Bool) → (v q).accepting ≡ accepting → (found : Option ℕ) → Searched p (own_guard (v p) i) q (posted_list (v q)) found → Inv head (effected v p q (try (v p) i (v q) accepting found))
  inv-try i e true f (Some j) s = rule-7 v inv p i j e f s
  inv-try i e true f None s = rule-8 v inv p i e (λ l z g. s l (rw (shown v inv _ (accepts v inv _ z)).posted g))
  inv-try i e false f (Some j) s = rule-8 v inv p i e (λ l z g. false≢true (sym f ∙ z))
  inv-try i e false f None s = rule-8 v inv p i e (λ l z g. false≢true (sym f ∙ z))

  inv-absorb : (v p).place ≡ Place.Waiting → (signal : Option (ℕ × Message)) → (v p).signal ≡ signal → Inv head (effected v p 0 (absorb (v p) signal))
  inv-absorb e None f = inv
  inv-absorb e (Some (j, m)) f =
      let b : (x : Process) → Held v p → Bound x = λ x h. absurd (absent-present _ j m (held v inv p h).deaf f) in
      moves v inv p _ e _ _ _ (told-woken _ _ j m (fine v inv p _ e).deaf f, refl) tt (search (absurd, b))

  inv_at : (pl : Place) → (v p).place ≡ pl → let q = named_by (v p) (index_of pl) in Inv head (effected v p q (rule_at head.nap p (v p) q (v q) pl))
  unfolding hand_over
  inv_at Place.Idle e = inv
  inv_at Place.Entering e = enter v inv p _ _ e (λ a. a) refl (fine v inv p _ e)
  inv_at (Place.Scanning i) e = inv-scan i e _ refl _
  inv_at (Place.Trying i) e = inv-try i e _ refl _ (searched p (own_guard (v p) i) (own_guard (v p) i).partner (posted_list (v (own_guard (v p) i).partner)))
  inv_at (Place.Committed i j) e = rule-9 v inv p i j _ _ _ e
  inv_at Place.Posting e = tame v inv p _ e _ refl refl (search (absurd, free v inv p _ e)) (fine v inv p _ e, refl) (inv.alone p).own tt
  inv_at Place.Opening e = let f = fine v inv p _ e in moves v inv p _ e _ _ _ (record { posted = f.1; deaf = λ _. f.0.1 }) tt (search (absurd, free v inv p _ e))
  inv_at Place.Showing e = moves v inv p _ e _ _ _ (fine v inv p _ e) tt (search (absurd, still v inv p))
  inv_at (Place.Asleep s) e = inv-sleep s e (ltb (s + 1) head.nap)
  inv_at Place.Waiting e = inv-absorb e (v p).signal refl
  inv_at (Place.Met i m) e = inv

-- a step keeps the invariant
pub inv-rule : {head : Head} (v : View) → Inv head v → (p : ℕ) → let q = partner_of (v p) in Inv head (effected v p q (rule head.nap p (v p) q (v q)))
unfolding rule
inv-rule v inv p = inv_at v inv p (v p).place refl
