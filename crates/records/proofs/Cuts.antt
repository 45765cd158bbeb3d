-- Bytes written at one place: what stands there, and that all else is as it was.
use Prim.Native.Nat.{ℕ, ◌+◌, ◌-◌, ◌≤◌, ◌<◌}
use mathlib.Core.Path.{◌≡◌, refl, sym, ap, subst, ◌∙◌}
use mathlib.Core.List.{List, ◌++◌, append_assoc}
use native.Mathlib.Omega.{arith}
use lib.ListN.{length, take, drop, length-append, length-drop, take-append-drop}
use lib.Seq.{sets, sets-eq, paste, get_or-take, get_or-drop, drop-drop, take-append-le, drop-append-le, take_at, drop_at, length-take-le}
use Rattle.wire.specs.Reading.{byte}
use Rattle.records.specs.Layout.{part}

-- l' is l with the n bytes from a on replaced by vs
pub record Wrote (l l' : List ℕ) (a n : ℕ) (vs : List ℕ) : Type 0 where
  pub room : a + n ≤ length l
  pub long : length l' ≡ length l
  pub before : take a l' ≡ take a l
  pub there : part l' a n ≡ vs
  pub after : drop (a + n) l' ≡ drop (a + n) l

-- a part within a front is a part of the whole
pub part-take : (x : List ℕ) (a b m : ℕ) → b + m ≤ a → a ≤ length x → part x b m ≡ part (take a x) b m
part-take x a b m h g =
    let e = length-take-le a x g in
    ap (λ (y : List ℕ). part y b m) (sym (take-append-drop a x))
    ∙ ap (take m) (drop-append-le b (take a x) (drop a x) (omega arith))
    ∙ take-append-le m (drop b (take a x)) (drop a x) (omega (arith, length-drop b (take a x)))

part-drop : (x : List ℕ) (a b m : ℕ) → a ≤ b → part x b m ≡ part (drop a x) (b - a) m
part-drop x a b m h = let e : b ≡ a + (b - a) = omega arith in ap (λ (k : ℕ). part x k m) e ∙ ap (take m) (sym (drop-drop (b - a) a x))

module _ {l l' : List ℕ} {a n : ℕ} {vs : List ℕ} (w : Wrote l l' a n vs) where
  pub part-before : (b m : ℕ) → b + m ≤ a → part l' b m ≡ part l b m
  part-before b m h =
      part-take l' a b m h (omega (arith, w.room, w.long)) ∙ ap (λ (y : List ℕ). part y b m) w.before ∙ sym (part-take l a b m h (omega (arith, w.room)))

  pub part-after : (b m : ℕ) → a + n ≤ b → part l' b m ≡ part l b m
  part-after b m h = part-drop l' (a + n) b m h ∙ ap (λ (y : List ℕ). part y (b - (a + n)) m) w.after ∙ sym (part-drop l (a + n) b m h)

  pub byte-before : (k : ℕ) → k < a → byte l' k ≡ byte l k
  byte-before k h = sym (get_or-take a l' k 0 h) ∙ ap (λ (y : List ℕ). byte y k) w.before ∙ get_or-take a l k 0 h

  pub byte-after : (k : ℕ) → a + n ≤ k → byte l' k ≡ byte l k
  byte-after k h =
      let e : (a + n) + (k - (a + n)) ≡ k = omega arith in
      sym (get_or-drop (a + n) l' (k - (a + n)) 0 ∙ ap (byte l') e) ∙ ap (λ (y : List ℕ). byte y (k - (a + n))) w.after ∙ get_or-drop (a + n) l (k - (a + n)) 0 ∙ ap (byte l) e

  pub byte-there : (k : ℕ) → k < n → byte l' (a + k) ≡ byte vs k
  byte-there k h = sym (get_or-take n (drop a l') k 0 h ∙ get_or-drop a l' k 0) ∙ ap (λ (y : List ℕ). byte y k) w.there

-- a part that was lent and comes back
pub wrote-mid : (l ys : List ℕ) (a n k : ℕ) → k ≡ n → a + n ≤ length l → length ys ≡ n → Wrote l (take a l ++ (ys ++ drop k (drop a l))) a n ys
wrote-mid l ys a n k e h g =
    let front : length (take a l) ≡ a = length-take-le a l (omega arith) in
    let rest : drop k (drop a l) ≡ drop (a + n) l = rw e (drop-drop n a l) in
    let both : length (take a l ++ ys) ≡ a + n = omega (arith, length-append (take a l) ys) in
    let whole : take a l ++ (ys ++ drop k (drop a l)) ≡ (take a l ++ ys) ++ drop (a + n) l = rw rest (sym (append_assoc (take a l) ys (drop (a + n) l))) in
    record {
      room = h;
      long = ap length whole ∙ length-append (take a l ++ ys) (drop (a + n) l) ∙ omega (arith, length-drop (a + n) l);
      before = take_at (take a l) (ys ++ drop k (drop a l)) a front;
      there = ap (take n) (drop_at (take a l) (ys ++ drop k (drop a l)) a front) ∙ take_at ys (drop k (drop a l)) n g;
      after = ap (drop (a + n)) whole ∙ drop_at (take a l ++ ys) (drop (a + n) l) (a + n) both;
    }

-- a copy of the first n of s
pub wrote-paste : (d : List ℕ) (at : ℕ) (s : List ℕ) (n : ℕ) → at + n ≤ length d → n ≤ length s → Wrote d (paste d at s n) at n (take n s)
wrote-paste d at s n h g =
    let e : paste d at s n ≡ take at d ++ (take n s ++ drop n (drop at d)) = rw (drop-drop n at d) (append_assoc (take at d) (take n s) (drop (at + n) d)) in
    rw e (wrote-mid d (take n s) at n n refl h (length-take-le n s g))

part_length : (d : List ℕ) (a n : ℕ) → a + n ≤ length d → length (part d a n) ≡ n
part_length d a n h = length-take-le n (drop a d) (omega (arith, length-drop a d))

-- a copy within a list
pub wrote-copy : (d : List ℕ) (from at count : ℕ) (l : List ℕ) → from + count ≤ length d → at + count ≤ length d → l ≡ paste d at (drop from d) count → Wrote d l at count (part d from count)
wrote-copy d from at count l h g e = subst (λ (x : List ℕ). Wrote d x at count (part d from count)) (sym e) (wrote-paste d at (drop from d) count g (omega (arith, length-drop from d)))

-- how long a part is that is lent as from a to a + n
pub lent_length : (d : List ℕ) (a n k : ℕ) → k ≡ n → a + n ≤ length d → length (take k (drop a d)) ≡ n
lent_length d a n k e h = ap (λ (m : ℕ). length (take m (drop a d))) e ∙ part_length d a n h

pub lent-count : (a n : ℕ) → (a + n) - a ≡ n
lent-count a n = omega arith

pub lent-byte : (d : List ℕ) (a n k i : ℕ) → k ≡ n → i < n → byte (take k (drop a d)) i ≡ byte d (a + i)
lent-byte d a n k i e h = ap (λ (m : ℕ). byte (take m (drop a d)) i) e ∙ get_or-take n (drop a d) i 0 h ∙ get_or-drop a d i 0

-- bytes written one after another
pub sets-mid : (l : List ℕ) (a n k : ℕ) (vs : List ℕ) → k ≡ n → length vs ≡ n → a + n ≤ length l → take a l ++ (vs ++ drop k (drop a l)) ≡ sets l a vs
sets-mid l a n k vs f e h = rw (f, drop-drop n a l) (sym (sets-eq vs l a (omega arith) ∙ rw e (append_assoc (take a l) vs (drop (a + n) l))))

pub wrote-sets : (l : List ℕ) (a n : ℕ) (vs l' : List ℕ) → length vs ≡ n → a + n ≤ length l → l' ≡ sets l a vs → Wrote l l' a n vs
wrote-sets l a n vs l' e h f = subst (λ (x : List ℕ). Wrote l x a n vs) (sets-mid l a n n vs refl e h ∙ sym f) (wrote-mid l vs a n n refl h e)

-- where the bytes are written that stood there, nothing is changed
pub wrote-same : {l l' : List ℕ} {a n : ℕ} {vs : List ℕ} → Wrote l l' a n vs → vs ≡ part l a n → l' ≡ l
wrote-same {l} {l'} {a} {n} {vs} w e = parted l' ∙ rw (w.before, w.there, w.after, e) (sym (parted l))
  where
    parted : (x : List ℕ) → x ≡ take a x ++ (part x a n ++ drop (a + n) x)
    parted x = sym (take-append-drop a x) ∙ ap (λ (y : List ℕ). take a x ++ y) (sym (take-append-drop n (drop a x)) ∙ ap (λ (y : List ℕ). part x a n ++ y) (drop-drop n a x))
