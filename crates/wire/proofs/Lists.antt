-- Bytes written one part after another, and values that stand one after another.
use Prim.Native.Nat.{ℕ, zero, suc, ◌+◌, ◌-◌, ◌*◌, ◌≤◌, ◌<◌, min}
use mathlib.Core.Path.{◌≡◌, refl, sym, ap, ◌∙◌}
use mathlib.Core.List.{List, [], ◌∷◌, ◌++◌, append_assoc, append-nil}
use native.Mathlib.Nat.{le_refl, add_comm, mul-zero, mul-suc}
use native.Mathlib.Numerals.{add-one}
use native.Mathlib.Omega.{arith}
use lib.ListN.{length, take, drop, get_or, set, length-append, length-set}
use lib.Seq.{sets, sets-eq, length-sets, set_out, drop-cons, drop-drop, drop-length, drop_at, length-take-le, take_all, take-suc}
use Rattle.std.proofs.lemmas.List.{ext_get_or}
use Rattle.wire.specs.Reading.{each_of}
use Rattle.wire.specs.Writing.{each_bytes}
use Rattle.wire.specs.Claims.{Each}

-- what is written past the end is dropped
pub sets-past : (l : List ℕ) (k : ℕ) (xs : List ℕ) → length l ≤ k → sets l k xs ≡ l
sets-past l k [] h = refl
sets-past l k (x ∷ xs) h = rw (set_out l k x h) (sets-past l (suc k) xs (omega arith))

-- .. so that much as there is room for is written
sets_within : (l : List ℕ) (k : ℕ) (xs : List ℕ) (n : ℕ) → n ≡ min (length xs) (length l - k) → sets l k xs ≡ sets l k (take n xs)
sets_within l k [] zero e = refl
sets_within l k [] (suc n) e = refl
sets_within l k (x ∷ xs) zero e = sets-past l k (x ∷ xs) (omega arith)
sets_within l k (x ∷ xs) (suc n) e = sets_within (set l k x) (suc k) xs n (omega (arith, length-set l k x))

-- the n bytes from byte k on, written at once
pub sets-cut : (l : List ℕ) (k : ℕ) (xs ys : List ℕ) (n m : ℕ) → k < length l → n ≡ min (length xs) (length l - k) → m ≡ n → ys ≡ take n xs → take k l ++ (ys ++ drop m (drop k l)) ≡ sets l k xs
sets-cut l k xs ys n m h e p q =
    let long : length (take n xs) ≡ n = length-take-le n xs (omega arith) in
    rw (sets_within l k xs n e, sets-eq (take n xs) l k (omega arith), long, q, p, drop-drop n k l, append_assoc)

-- one byte of a copy
pub sets-next : (l : List ℕ) (k : ℕ) (xs : List ℕ) (i : ℕ) → i < length xs → sets (set l k (get_or xs i 0)) (k + 1) (drop (i + 1) xs) ≡ sets l k (drop i xs)
sets-next l k xs i h = rw (add-one k, add-one i, drop-cons xs i 0 h)

-- two parts, one behind the other
pub sets-join : (l : List ℕ) (k : ℕ) (xs ys : List ℕ) (j : ℕ) → k + length xs ≡ j → sets (sets l k xs) j ys ≡ sets l k (xs ++ ys)
sets-join l k [] ys j e = let f : k ≡ j = omega arith in rw f
sets-join l k (x ∷ xs) ys j e = sets-join (set l k x) (suc k) xs ys j (omega arith)

-- a part at the front
pub sets-front : (l xs : List ℕ) (n : ℕ) → length xs ≡ n → n ≤ length l → sets l 0 xs ≡ xs ++ drop n l
sets-front l xs n e h =
    let fits : 0 + length xs ≤ length l = omega arith in
    let end : 0 + length xs ≡ n = omega arith in
    sets-eq xs l 0 fits ∙ ap (λ (k : ℕ). xs ++ drop k l) end

-- a part as long as the whole
pub sets-whole : (l xs : List ℕ) → length xs ≡ length l → sets l 0 xs ≡ xs
sets-whole l xs e = sets-front l xs (length l) e (le_refl (length l)) ∙ ap (λ (r : List ℕ). xs ++ r) (drop-length l) ∙ append-nil xs

-- values that are read, `size` bytes each
module _ {A : Type 0} (read : List ℕ → A) (size : ℕ) where
  pub each-count : (n : ℕ) (bytes : List ℕ) → length (each_of read size n bytes) ≡ n
  unfolding each_of
  each-count zero bytes = refl
  each-count (suc n) bytes = ap suc (each-count n (drop size bytes))

  -- value i of those that are read
  pub each_at : (n i : ℕ) (bytes : List ℕ) (d : A) → i < n → get_or (each_of read size n bytes) i d ≡ read (drop (size * i) bytes)
  unfolding each_of
  each_at zero i bytes d h = absurd (omega arith)
  each_at (suc n) zero bytes d h = rw mul-zero
  each_at (suc n) (suc i) bytes d h = rw (mul-suc, add_comm (size * i) size, ← (drop-drop (size * i) size bytes)) (each_at n i (drop size bytes) d (omega arith))

  -- a list of n values, each of them the one that is read
  pub each-is : (n : ℕ) (bytes : List ℕ) (l : List A) (d : A) → length l ≡ n → ((k : ℕ) → k < n → get_or l k d ≡ read (drop (size * k) bytes)) → l ≡ each_of read size n bytes
  each-is n bytes l d e at = ext_get_or d l (each_of read size n bytes) (e ∙ sym (each-count n bytes)) (λ k h. at k (omega arith) ∙ sym (each_at n k bytes d (omega arith)))

-- values that are written
module _ {A : Type 0} (write : A → List ℕ) where
  each_snoc : (xs : List A) (x : A) → each_bytes write (xs ++ (x ∷ [])) ≡ each_bytes write xs ++ write x
  unfolding each_bytes
  each_snoc [] x = append-nil (write x)
  each_snoc (y ∷ xs) x = rw (each_snoc xs x) (sym (append_assoc (write y) (each_bytes write xs) (write x)))

  -- the first k of n values, `size` bytes each, stand from byte `at` on in what was l₀
  abbrev pub WrittenTo : ℕ → ℕ → List A → ℕ → List ℕ → ℕ → List ℕ → Type 0
  WrittenTo size n xs at l₀ k l =
      let done = each_bytes write (take k xs) in
      (k ≤ n) × (length l ≡ length l₀) × (length done ≡ size * k) × (l ≡ sets l₀ at done)

  pub written-more : (size n : ℕ) (xs : List A) (d : A) (at : ℕ) (l₀ : List ℕ) (k : ℕ) (l : List ℕ) (j : ℕ) → length xs ≡ n → k < n → length (write (get_or xs k d)) ≡ size → at + size * k ≡ j
      → WrittenTo size n xs at l₀ k l → WrittenTo size n xs at l₀ (k + 1) (sets l j (write (get_or xs k d)))
  written-more size n xs d at l₀ k l j m h s e w =
      let done = each_bytes write (take k xs) in
      let next = write (get_or xs k d) in
      let grown : each_bytes write (take (k + 1) xs) ≡ done ++ next = rw (add-one, take-suc xs k d (omega arith)) (each_snoc (take k xs) (get_or xs k d)) in (
        omega arith,
        length-sets l j next ∙ w.1,
        rw (grown, length-append done next, w.2, s, add-one, mul-suc),
        rw (grown, w.3) (sets-join l₀ at done next j (omega arith)),
      )

  pub written-end : (size n : ℕ) (xs : List A) (at : ℕ) (l₀ : List ℕ) (k : ℕ) (l : List ℕ) → length xs ≡ n → n ≤ k → WrittenTo size n xs at l₀ k l
      → (length (each_bytes write xs) ≡ size * n) × (l ≡ sets l₀ at (each_bytes write xs))
  written-end size n xs at l₀ k l m h w =
      let e : k ≡ n = omega arith in
      let whole : take k xs ≡ xs = take_all k xs (omega arith) in
      (rw (whole, e) at w.2, rw whole at w.3)

-- values of equal length
module _ {A : Type 0} (P : A → Type 0) (write : A → List ℕ) (size : ℕ) (sized : (x : A) → P x → length (write x) ≡ size) where
  pub each-length : (xs : List A) → Each P xs → length (each_bytes write xs) ≡ size * length xs
  unfolding each_bytes
  each-length [] h = sym (mul-zero size)
  each-length (x ∷ xs) h = rw (length-append, sized x h.0, each-length xs h.1, mul-suc) (add_comm size (size * length xs))

  -- .. each of which is read back
  pub each_back : (read : List ℕ → A) → ((x : A) → P x → (rest : List ℕ) → read (write x ++ rest) ≡ x)
      → (xs : List A) (rest : List ℕ) → Each P xs → each_of read size (length xs) (each_bytes write xs ++ rest) ≡ xs
  unfolding each_of each_bytes
  each_back read back [] rest h = refl
  each_back read back (x ∷ xs) rest h =
      rw (append_assoc (write x) (each_bytes write xs) rest, back x h.0, drop_at (write x) (each_bytes write xs ++ rest) size (sized x h.0))
      (ap (λ (r : List A). x ∷ r) (each_back read back xs rest h.1))
