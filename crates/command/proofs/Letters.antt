-- A line by its first bytes: a letter alone, a letter and a space, or no command.
use Rattle.std.specs.Prelude.{Option, Some, None}
use Rattle.std.specs.Bool.{then_some}
use Prim.Native.Nat.{ℕ, ◌-◌, ◌≤◌, ◌<◌}
use Prim.Native.Char.{code}
use mathlib.Core.Path.{◌≡◌, refl, sym, ◌∙◌}
use mathlib.Core.Bool.{Bool, true, false, cond}
use mathlib.Core.List.{List, [], ◌∷◌}
use native.Mathlib.Omega.{arith}
use borrow.Author.Tests.{eqb-true, eqb-false, ne_eqb}
use lib.Dec.{eqb}
use lib.ListN.{length, get_or, take, drop}
use Rattle.text.specs.Reading.{provided}
use Rattle.command.specs.Types.{Command, Movers, InCode}
use Rattle.command.specs.InCode.{as_parsed}
use Rattle.command.specs.Commands.{is_empty, fields, put_before, number_in, new_in, numbered, offer_in, by_letter, command_in, command_of}
use Rattle.command.proofs.Heads.{empty_of, part-rest}
use Rattle.command.proofs.Cuts.{fields-cut}

-- a space is no letter
space-none : (fs : List (List ℕ)) → by_letter (code " ") fs ≡ None
unfolding by_letter
space-none fs = refl

command-alone : (k : ℕ) → command_of (k ∷ []) ≡ by_letter k []
unfolding command_of fields command_in
command-alone k = go (eqb k (code " ")) refl
  where
    go : (t : Bool) → eqb k (code " ") ≡ t → command_in (cond t ([] ∷ [] ∷ []) ((k ∷ []) ∷ [])) ≡ by_letter k []
    go true e = rw (eqb-true k (code " ") e) (sym (space-none []))
    go false e = refl

command-with : (k : ℕ) (bs : List ℕ) → command_of (k ∷ code " " ∷ bs) ≡ by_letter k (fields bs)
unfolding command_of fields command_in
command-with k bs = go (eqb k (code " ")) refl
  where
    go : (t : Bool) → eqb k (code " ") ≡ t → command_in (cond t ([] ∷ [] ∷ fields bs) ((k ∷ []) ∷ fields bs)) ≡ by_letter k (fields bs)
    go true e = rw (eqb-true k (code " ") e) (sym (space-none (fields bs)))
    go false e = refl

-- two bytes before a space, or a space first
glued : (k b : ℕ) (fs : List (List ℕ)) (t : Bool) → command_in (cond t ([] ∷ put_before b fs) (put_before k (put_before b fs))) ≡ None
unfolding command_in
glued k b fs true = refl
glued k b [] false = refl
glued k b (f ∷ fs) false = refl

command-glued : (k b : ℕ) (bs : List ℕ) → (b ≡ code " " → ⊥) → command_of (k ∷ b ∷ bs) ≡ None
unfolding command_of fields
command-glued k b bs h = rw (ne_eqb b (code " ") h) (glued k b (fields bs) (eqb k (code " ")))

-- of the letters only `m` stands alone
alone-none : (k : ℕ) → (k ≡ code "m" → ⊥) → by_letter k [] ≡ None
unfolding by_letter numbered number_in new_in offer_in
alone-none k h = rw (ne_eqb k (code "m") h) (same (eqb k (code "n")) (eqb k (code "o")) (eqb k (code "s")) (eqb k (code "c")) (eqb k (code "w")))
  where
    same : (n o s c w : Bool) → ◌≡◌ {A = Option Command} (cond n None (cond o None (cond s None (cond c None (cond w None None))))) None
    same true o s c w = refl
    same false true s c w = refl
    same false false true c w = refl
    same false false false true w = refl
    same false false false false true = refl
    same false false false false false = refl

pub alone-parsed : (k : ℕ) (o : Option InCode) → o ≡ then_some (eqb k (code "m")) InCode.Movers → o ≡ as_parsed (by_letter k [])
unfolding by_letter
alone-parsed k o e = e ∙ go (eqb k (code "m")) refl
  where
    go : (t : Bool) → eqb k (code "m") ≡ t → then_some t InCode.Movers ≡ as_parsed (by_letter k [])
    go true f = rw (eqb-true k (code "m") f)
    go false f = rw (alone-none k (eqb-false k (code "m") f))

-- a letter with bytes after its space: there is a field, so the movers are malformed
no-movers : (s : List ℕ) (m : Bool) → cond m (provided (is_empty (fields s)) Movers) None ≡ None
no-movers s true = rw (fields-cut s)
no-movers s false = refl

pub with_none : (k : ℕ) (s : List ℕ) → (k ≡ code "n" → ⊥) → (k ≡ code "o" → ⊥) → (k ≡ code "s" → ⊥) → (k ≡ code "c" → ⊥) → (k ≡ code "w" → ⊥) → by_letter k (fields s) ≡ None
unfolding by_letter
with_none k s n o t c w = rw (ne_eqb k (code "n") n, ne_eqb k (code "o") o, ne_eqb k (code "s") t, ne_eqb k (code "c") c, ne_eqb k (code "w") w) (no-movers s (eqb k (code "m")))

-- a line by its length and its first two bytes
pub line-empty : (s : List ℕ) → length s < 1 → command_of s ≡ None
unfolding command_of fields command_in
line-empty s h = rw (empty_of s h)

pub line-alone : (s : List ℕ) → length s ≡ 1 → command_of s ≡ by_letter (get_or s 0 0) []
line-alone [] e = absurd (omega arith)
line-alone (k ∷ []) e = command-alone k
line-alone (k ∷ b ∷ bs) e = absurd (omega arith)

pub line-with : (s : List ℕ) → 2 ≤ length s → get_or s 1 0 ≡ code " " → command_of s ≡ by_letter (get_or s 0 0) (fields (take (length s - 2) (drop 2 s)))
line-with [] h e = absurd (omega arith)
line-with (k ∷ []) h e = absurd (omega arith)
line-with (k ∷ b ∷ bs) h e = rw (part-rest 2 (k ∷ b ∷ bs), e) (command-with k bs)

pub line-glued : (s : List ℕ) → 2 ≤ length s → (get_or s 1 0 ≡ code " " → ⊥) → command_of s ≡ None
line-glued [] h e = absurd (omega arith)
line-glued (k ∷ []) h e = absurd (omega arith)
line-glued (k ∷ b ∷ bs) h e = command-glued k b bs e
