-- The records of a table, in its bytes.
use Prim.Native.Nat.{ℕ, ◌+◌, ◌-◌, ◌≤◌, ◌<◌}
use mathlib.Core.Path.{◌≡◌, refl, sym, ap, ◌∙◌}
use mathlib.Core.Bool.{Bool, true, false, ◌||◌, false≢true}
use mathlib.Core.Logic.{◌⊎◌, inl, inr}
use mathlib.Core.List.{List, ◌++◌}
use native.Mathlib.Omega.{arith}
use lib.ListN.{length, take, drop, length-drop}
use lib.Dec.{ltb}
use borrow.Author.Tests.{ltb-true, ltb-false}
use lib.Seq.{get_or-take, get_or-drop, drop-drop}
use Rattle.wire.specs.Reading.{byte}
use Rattle.process.specs.Process.{nobody}
use Rattle.rendezvous.specs.Table.{process}
use Rattle.records.specs.Layout.{part}
use Rattle.records.specs.Reading.{place_of, process_of}
use Rattle.records.proofs.Values.{value-at}
use Rattle.records.proofs.Cuts.{Wrote, wrote-mid, part-take, lent-count, lent_length, lent-byte}
use Rattle.inplace.specs.Types.{Process}
use Rattle.inplace.specs.Layout.{table_length, record_start, record_bytes}
use Rattle.inplace.specs.Reading.{table_of}

-- the record of p, read from its bytes
pub record-at : (t : List ℕ) (p : ℕ) → p < 32 → process (table_of t) p ≡ process_of (record_bytes t p)
unfolding table_of
record-at t p h = value-at (λ (k : ℕ). process_of (record_bytes t k)) 32 p nobody h

-- its place
pub place_at : (t : List ℕ) (p : ℕ) → p < 32 → (process (table_of t) p).place ≡ place_of (record_bytes t p)
unfolding process_of
place_at t p h = ap (λ (x : Process). x.place) (record-at t p h)

-- byte k of the record of p is a byte of the table
pub byte_of : (t : List ℕ) (p k : ℕ) → k < 256 → byte (record_bytes t p) k ≡ byte t (record_start p + k)
byte_of t p k h = get_or-take 256 (drop (record_start p) t) k 0 h ∙ get_or-drop (record_start p) t k 0

-- a record lies in a table that is long enough
pub record-room : (t : List ℕ) (p : ℕ) → table_length ≤ length t → p < 32 → record_start p + 256 ≤ length t
record-room t p l h = omega arith

-- the bytes of a record, as they are lent
pub row-lent : (t : List ℕ) (p : ℕ) → take ((record_start p + 256) - record_start p) (drop (record_start p) t) ≡ record_bytes t p
row-lent t p = ap (λ (k : ℕ). take k (drop (record_start p) t)) (lent-count (record_start p) 256)

pub row-long : (t : List ℕ) (p : ℕ) → table_length ≤ length t → p < 32 → length (take ((record_start p + 256) - record_start p) (drop (record_start p) t)) ≡ 256
row-long t p l h = lent_length t (record_start p) 256 _ (lent-count (record_start p) 256) (record-room t p l h)

pub row-byte : (t : List ℕ) (p k : ℕ) → k < 256 → byte (take ((record_start p + 256) - record_start p) (drop (record_start p) t)) k ≡ byte t (record_start p + k)
row-byte t p k h = lent-byte t (record_start p) 256 _ k (lent-count (record_start p) 256) h

-- .. and as they come back
pub row_back : (t r : List ℕ) (p : ℕ) → table_length ≤ length t → p < 32 → length r ≡ length (take ((record_start p + 256) - record_start p) (drop (record_start p) t))
    → Wrote t (take (record_start p) t ++ (r ++ drop ((record_start p + 256) - record_start p) (drop (record_start p) t))) (record_start p) 256 r
row_back t r p l h e = wrote-mid t r (record_start p) 256 _ (lent-count (record_start p) 256) (record-room t p l h) (e ∙ row-long t p l h)

-- a tag is one of A, T and C, or it is none
pub tag-between : (tag : ℕ) → (ltb tag 2 || ltb 4 tag) ≡ false → (2 ≤ tag) × (tag ≤ 4)
tag-between tag e = go (ltb tag 2) (ltb 4 tag) refl refl e
  where
    go : (a b : Bool) → ltb tag 2 ≡ a → ltb 4 tag ≡ b → (a || b) ≡ false → (2 ≤ tag) × (tag ≤ 4)
    go true b f g h = absurd (false≢true (sym h))
    go false true f g h = absurd (false≢true (sym h))
    go false false f g h = (ltb-false _ _ f, ltb-false _ _ g)

pub tag-outside : (tag : ℕ) → (ltb tag 2 || ltb 4 tag) ≡ true → (tag < 2) ⊎ (4 < tag)
tag-outside tag e = go (ltb tag 2) refl e
  where
    go : (a : Bool) → ltb tag 2 ≡ a → (a || ltb 4 tag) ≡ true → (tag < 2) ⊎ (4 < tag)
    go true f h = inl (ltb-true _ _ f)
    go false f h = inr (ltb-true _ _ h)

-- a part of a record is a part of the table
pub row-part : (t : List ℕ) (p a n : ℕ) → table_length ≤ length t → p < 32 → a + n ≤ 256 → part (record_bytes t p) a n ≡ part t (record_start p + a) n
row-part t p a n l h g =
    sym (part-take (drop (record_start p) t) 256 a n g (omega (arith, length-drop (record_start p) t)))
    ∙ ap (take n) (drop-drop a (record_start p) t)
