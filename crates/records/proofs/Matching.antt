-- When guards match, from their bytes.
use Rattle.std.specs.Prelude.{Option, Some}
use Prim.Native.Nat.{ℕ, zero, suc, ◌+◌, ◌*◌, ◌≤◌, ◌<◌}
use mathlib.Core.Path.{◌≡◌, refl, sym, ap, ◌∙◌}
use mathlib.Core.Bool.{Bool, true, false, ◌&&◌, ◌||◌, not}
use mathlib.Core.List.{List, [], ◌∷◌}
use native.Mathlib.Omega.{arith}
use lib.ListN.{length, get_or, drop, length-take}
use lib.Seq.{get_or-take, get_or-drop}
use lib.Dec.{eqb, leb}
use borrow.Author.Tests.{eq-eqb, ne_eqb}
use Rattle.alternative.specs.Guards.{blank, opposite, guards_match, kept_match}
use Rattle.alternative.proofs.Kept.{SoFar, takes, leaves, searched-all}
use Rattle.process.specs.Process.{own_guard, posted_list}
use Rattle.records.specs.Types.{Message, Action, Guard}
use Rattle.wire.specs.Reading.{byte, message_of}
use Rattle.records.specs.Layout.{part}
use Rattle.records.specs.Reading.{action_of, guard_of, guards_at, process_of}
use Rattle.records.specs.Private.{match_by}
use Rattle.records.proofs.Guards.{guards-length, guard-at}

-- one sends and the other receives, by the bytes that say so
opposite-by : (a b : ℕ) (m n : Message) → opposite (get_or (Action.Receive ∷ []) a (Action.Send m)) (get_or (Action.Receive ∷ []) b (Action.Send n)) ≡ ((eqb a 0 && not (eqb b 0)) || (not (eqb a 0) && eqb b 0))
opposite-by zero zero m n = refl
opposite-by zero (suc b) m n = rw (ne_eqb (suc b) 0 (λ e. omega arith))
opposite-by (suc a) zero m n = rw (ne_eqb (suc a) 0 (λ e. omega arith))
opposite-by (suc a) (suc b) m n = rw (ne_eqb (suc a) 0 (λ e. omega arith), ne_eqb (suc b) 0 (λ e. omega arith))

-- a byte of a list's rest
in_rest : (r : List ℕ) (b j a : ℕ) → j < 104 → b + j ≡ a → byte (part r b 104) j ≡ byte r a
in_rest r b j a h e = get_or-take 104 (drop b r) j 0 h ∙ get_or-drop b r j 0 ∙ ap (byte r) e

-- rule 7's search on bytes: own guard i in x, the record of p, names q, whose record is y
module _ (p : ℕ) (x y : List ℕ) (i q : ℕ) (own : i < byte x 5) (most : byte x 5 ≤ 8) (posted : byte y 6 ≤ 8) (names : q ≡ (own_guard (process_of x) i).partner) where
  abbrev test : Guard → Bool
  test = guards_match p (own_guard (process_of x) i) q

  abbrev list : List Guard
  list = posted_list (process_of y)

  -- the own guard, from its bytes
  own_at : own_guard (process_of x) i ≡ guard_of (part x 8 8) (part x 48 104) i
  unfolding process_of
  own_at = get_or-take (byte x 5) (guards_at x 8 48) i blank own ∙ guard-at x 8 48 i (omega arith)

  module _ (k : ℕ) (below : k < byte y 6) where
    -- the posted guard, from its bytes
    posted-at : get_or list k blank ≡ guard_of (part y 16 8) (part y 152 104) k
    unfolding process_of
    posted-at = get_or-take (byte y 6) (guards_at y 16 152) k blank below ∙ guard-at y 16 152 k (omega arith)

    abbrev match_here : Bool
    match_here = match_by (byte x (48 + i)) (byte x (56 + i)) (byte x (64 + i)) (byte y (152 + k)) (byte y (16 + k)) (byte y (160 + k)) (byte y (168 + k)) p

    -- the test of the code is the match of the two guards
    match-at : test (guard_of (part y 16 8) (part y 152 104) k) ≡ match_here
    unfolding guards_match guard_of action_of match_by
    match-at =
        let named : q ≡ byte (part x 8 8) i = names ∙ ap (λ (g : Guard). g.partner) own_at in
        let partner : byte (part y 16 8) k ≡ byte y (16 + k) = get_or-take 8 (drop 16 y) k 0 (omega arith) ∙ get_or-drop 16 y k 0 in
        ap (λ (g : Guard). guards_match p g q (guard_of (part y 16 8) (part y 152 104) k)) own_at
        ∙ rw (opposite-by (byte (part x 48 104) (8 + i)) (byte (part y 152 104) (8 + k)) (message_of (part (part x 48 104) (32 + 9 * i) 9)) (message_of (part (part y 152 104) (32 + 9 * k) 9)), eq-eqb (byte (part x 8 8) i) q (sym named), in_rest x 48 i (48 + i) (omega arith) refl, in_rest x 48 (8 + i) (56 + i) (omega arith) (omega arith), in_rest x 48 (16 + i) (64 + i) (omega arith) (omega arith), in_rest y 152 k (152 + k) (omega arith) refl, in_rest y 152 (8 + k) (160 + k) (omega arith) (omega arith), in_rest y 152 (16 + k) (168 + k) (omega arith) (omega arith), partner)

    -- the rank that the code compares
    rank-at : (guard_of (part y 16 8) (part y 152 104) k).rank ≡ byte y (176 + k)
    unfolding guard_of
    rank-at = in_rest y 152 (24 + k) (176 + k) (omega arith) (omega arith)

    -- a turn of the search: posted guard k takes the place of the kept one
    pub turn-takes : (kept : Option ℕ) (least : ℕ) → SoFar test list k kept least → (match_here && leb least (byte y (176 + k))) ≡ true → SoFar test list (k + 1) (Some k) (byte y (176 + k) + 1)
    turn-takes kept least s e = rw (← rank-at) (takes test list k kept least _ posted-at s (rw (match-at, rank-at) e))

    -- or is passed over
    pub turn-leaves : (kept : Option ℕ) (least : ℕ) → SoFar test list k kept least → (match_here && leb least (byte y (176 + k))) ≡ false → SoFar test list (k + 1) kept least
    turn-leaves kept least s e = leaves test list k kept least _ posted-at s (rw (match-at, rank-at) e)

  -- after the last guard what is kept is rule 7's
  pub turn_last : (k : ℕ) (kept : Option ℕ) (least : ℕ) → k ≡ byte y 6 → SoFar test list k kept least → kept ≡ kept_match p (own_guard (process_of x) i) q list
  unfolding process_of
  turn_last k kept least e s =
      let whole : k ≡ length list = omega (arith, length-take (byte y 6) (guards_at y 16 152), guards-length y 16 152) in
      sym (searched-all p (own_guard (process_of x) i) q list kept least (rw whole at s))
