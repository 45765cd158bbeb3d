-- One pass of the loop, and the passes so far.
use Rattle.std.proofs.Common.{ℕ, zero, suc, ◌+◌, ◌≡◌, refl, sym, ◌∙◌, subst, Bool, true, false, List, [], ◌∷◌, ◌++◌, append_assoc, append-nil, arith, length, take, length-append, Option, Some, None, Result, Ok, Err, is_ok}
use Rattle.std.specs.Io.{ReadsAtMost}
use lib.Dec.{T}
use Rattle.script.specs.Feeding.{SessionState, fed, fed_pieces}
use Rattle.passes.specs.declared.Failure.{Failure}
use Rattle.passes.specs.declared.Failure.TheVariants.{Unwritable, Endless}
use Rattle.passes.specs.Turns.{Moved, Pass, answer, count, piece_of, after_read, after_write, goes_on, is_going, ended_by, status_of, pieces, status_after, AllPasses, AtEnd, ProgramEnds}

-- the pass of a read, by what it promises
abbrev pub pass_of : {E : Type 0} (read : Result ℕ E) (buffer : List ℕ) → ReadsAtMost read buffer → Bool → Pass
pass_of {E} read buffer m written = record { got = answer read; buffer = buffer; written = written; moved = go read m }
  where
    go : (r : Result ℕ E) → ReadsAtMost r buffer → Moved (length buffer) (answer r)
    go (Ok n) h = h.0
    go (Err e) h = tt

-- a pass whose read does not go on feeds nothing
pub pass-stops : (s : SessionState) (p : Pass) → is_going (goes_on (after_read p.got) (Ok tt)) ≡ false → s ≡ (fed s (piece_of p)).state
unfolding fed
pass-stops s p e = go p.got e
  where
    go : (z : Option ℕ) → is_going (goes_on (after_read z) (Ok tt)) ≡ false → s ≡ (fed s (take (count z) p.buffer)).state
    go None e = refl
    go (Some zero) e = refl
    go (Some (suc n)) e = absurd (subst T e tt)

-- where it goes on, as many bytes are fed as were read
pub counted : (z : Option ℕ) (n : ℕ) → after_read z ≡ Ok (Some n) → n ≡ count z
counted None n e = let z : ◌≡◌ {A = ℕ} 0 1 = cc in omega arith
counted (Some zero) n e = let z : ◌≡◌ {A = ℕ} 0 1 = cc in omega arith
counted (Some (suc k)) n e = cc

-- a pass does not say that there were too many
not-endless : (p : Pass) → status_of p ≡ Err Endless → ⊥
not-endless p = go p.got p.written
  where
    go : (z : Option ℕ) (written : Bool) → goes_on (after_read z) (after_write written) ≡ Err Endless → ⊥
    go None written e = let z : ◌≡◌ {A = ℕ} 0 1 = cc in omega arith
    go (Some zero) written e = let z : ◌≡◌ {A = ℕ} 0 1 = cc in omega arith
    go (Some (suc n)) true e = let z : ◌≡◌ {A = ℕ} 0 1 = cc in omega arith
    go (Some (suc n)) false e = let z : ◌≡◌ {A = ℕ} 0 1 = cc in omega arith

-- .. nor, where its write took all, that one failed
not-unwritable : (p : Pass) → p.written ≡ true → status_of p ≡ Err Unwritable → ⊥
not-unwritable p w e = go p.got (rw w at e)
  where
    go : (z : Option ℕ) → goes_on (after_read z) (after_write true) ≡ Err Unwritable → ⊥
    go None e = let z : ◌≡◌ {A = ℕ} 0 1 = cc in omega arith
    go (Some zero) e = let z : ◌≡◌ {A = ℕ} 0 1 = cc in omega arith
    go (Some (suc n)) e = let z : ◌≡◌ {A = ℕ} 0 1 = cc in omega arith

same-error : (status : Result Bool Failure) (failure : Failure) → is_going status ≡ false → ended_by status (Err Endless) ≡ Err failure → status ≡ Err failure
same-error (Ok true) failure g e = absurd (subst T g tt)
same-error (Ok false) failure g e = cc
same-error (Err f) failure g e = cc

-- The passes so far, which are so many: whatever follows them, goes on from here.
pub record SoFar (s here : SessionState) (done : ℕ) : Type 0 where
  pub passes : List Pass
  pub counted : length passes ≡ done
  pub status : (ps : List Pass) → status_after (passes ++ ps) ≡ status_after ps
  pub state : (ps : List Pass) → (fed_pieces s (pieces (passes ++ ps))).state ≡ (fed_pieces here (pieces ps)).state

pub none_yet : (s : SessionState) → SoFar s s 0
none_yet s = record { passes = []; counted = refl; status = λ ps. refl; state = λ ps. refl }

module _ (s here : SessionState) (done : ℕ) (so_far : SoFar s here done) where
  pub one_more : (p : Pass) (after : SessionState) → status_of p ≡ Ok true → after ≡ (fed here (piece_of p)).state → SoFar s after (done + 1)
  unfolding status_after pieces fed_pieces
  one_more p after e a = record {
    passes = so_far.passes ++ p ∷ [];
    counted = rw length-append (omega (arith, so_far.counted));
    status = λ ps. rw append_assoc (so_far.status (p ∷ ps) ∙ rw e);
    state = λ ps. rw (append_assoc, a) (so_far.state (p ∷ ps) ∙ rw e);
  }

  -- the last pass, by how it ends
  pub stopped : (prints : Bool) (p : Pass) (last : SessionState) (status : Result Bool Failure) → status ≡ status_of p → is_going status ≡ false
      → (prints ≡ false → p.written ≡ true) → last ≡ (fed here (piece_of p)).state → AllPasses prints s last (ended_by status (Err Endless))
  unfolding status_after pieces fed_pieces
  stopped prints p last status is g thrown a =
      let g : is_going (status_of p) ≡ false = rw is at g in (
        so_far.passes ++ p ∷ [],
        rw is (sym (so_far.status (p ∷ []))),
        a ∙ sym (so_far.state (p ∷ []) ∙ rw g),
        λ q. absurd (not-endless p (same-error _ _ g (rw is at q))),
        λ silent q. not-unwritable p (thrown silent) (same-error _ _ g (rw is at q)),
      )

  pub used-up : (prints : Bool) → done ≡ 18446744073709551615 → AllPasses prints s here (Err Endless)
  unfolding status_after pieces fed_pieces
  used-up prints h = (
    so_far.passes ++ [],
    sym (so_far.status []),
    sym (so_far.state []),
    λ q. rw append-nil (omega (arith, so_far.counted)),
    λ silent q. let z : ◌≡◌ {A = ℕ} 0 1 = cc in omega arith,
  )

-- how a program ends, whatever the write of its end may answer
pub program-ends : {E : Type 0} (Writes : Result (Unit {0}) E → Type 0) (read after : Result (Unit {0}) Failure) → AtEnd Writes read after → ProgramEnds read after
program-ends Writes (Ok u) after h = (is_ok h.0, h.2)
program-ends Writes (Err failure) after h = h
