-- A guard without a `:` is read as document 01 has it, and its kind is 0; one without a `^` is read as before there were ranks, and its rank is 0.
use Rattle.std.specs.Prelude.{Option, Some, None}
use Prim.Native.Nat.{ℕ}
use Prim.Native.Char.{code}
use mathlib.Core.Path.{◌≡◌, refl, sym, subst}
use mathlib.Core.Bool.{Bool, true, false, cond}
use mathlib.Core.List.{List, [], ◌∷◌}
use native.Mathlib.Omega.{arith}
use lib.Dec.{eqb}
use borrow.Author.Tests.{ne_eqb}
use lib.ListN.{length, take, drop}
use lib.Seq.{take_all, drop-length}
use Rattle.alternative.specs.Guards.{of_kind, of_rank}
use Rattle.text.specs.Types.{◌>>=◌}
use Rattle.text.specs.Reading.{byte_number}
use Rattle.command.specs.Types.{Action, Guard}
use Rattle.command.specs.Commands.{action_in, digit_count, guard_from, before, plain_guard_in, marked_in, kinded_guard_in, guard_in}
use Rattle.command.specs.KindLeftOut.{Lacks, KindLeftOut}

-- what is read, if anything, has the number 0
abbrev Zero : (Guard → ℕ) → Option Guard → Type 0
Zero number None = Unit {0}
Zero number (Some g) = number g ≡ 0

abbrev kind_of : Guard → ℕ
kind_of g = g.kind

abbrev rank_of : Guard → ℕ
rank_of g = g.rank

-- a plain guard has neither kind nor rank
record Plain (o : Option Guard) : Type 0 where
  kind : Zero kind_of o
  rank : Zero rank_of o

from_zero : (enabled : Bool) (bs : List ℕ) → Plain (guard_from enabled bs)
unfolding guard_from
from_zero enabled bs = go (byte_number (take (digit_count bs) bs)) (action_in (drop (digit_count bs) bs))
  where
    go : (partner : Option ℕ) (action : Option Action)
        → Plain (◌>>=◌ partner (λ p. ◌>>=◌ action (λ a. Some (record { enabled = enabled; partner = p; kind = 0; rank = 0; action = a }))))
    go None action = record { kind = tt; rank = tt }
    go (Some p) None = record { kind = tt; rank = tt }
    go (Some p) (Some a) = record { kind = refl; rank = refl }

plain-zero : (field : List ℕ) → Plain (plain_guard_in field)
unfolding plain_guard_in
plain-zero [] = record { kind = tt; rank = tt }
plain-zero (b ∷ bs) = go (eqb b (code "-"))
  where
    go : (t : Bool) → Plain (cond t (guard_from false bs) (guard_from true (b ∷ bs)))
    go true = from_zero false bs
    go false = from_zero true (b ∷ bs)

-- a kind leaves the rank as it is
kinded-zero : (bytes : List ℕ) → Zero rank_of (kinded_guard_in bytes)
unfolding kinded_guard_in
kinded-zero bytes = go (plain_guard_in (take (before (code ":") bytes) bytes)) (plain-zero _).rank (marked_in (drop (before (code ":") bytes) bytes))
  where
    go : (guard : Option Guard) → Zero rank_of guard → (kind : Option ℕ) → Zero rank_of (◌>>=◌ guard (λ g. ◌>>=◌ kind (λ k. Some (of_kind k g))))
    go None e kind = tt
    go (Some g) e None = tt
    go (Some g) e (Some k) = e

-- to give such a guard the number 0 changes nothing
same_kind : (o : Option Guard) → Zero kind_of o → ◌>>=◌ o (λ g. Some (of_kind 0 g)) ≡ o
same_kind None e = refl
same_kind (Some g) e = rw (sym e)

same_rank : (o : Option Guard) → Zero rank_of o → ◌>>=◌ o (λ g. Some (of_rank 0 g)) ≡ o
same_rank None e = refl
same_rank (Some g) e = rw (sym e)

-- without the mark the cut is at the end
cut-at-end : (mark : ℕ) (bs : List ℕ) → Lacks mark bs → before mark bs ≡ length bs
cut-at-end mark [] h = refl
cut-at-end mark (b ∷ bs) h = rw (ne_eqb b mark h.0) (omega (arith, cut-at-end mark bs h.1))

pub kind-left-out : KindLeftOut
unfolding kinded_guard_in marked_in
kind-left-out = record {
  as_before = λ bytes h. rw (cut-at-end (code ":") bytes h, take_all (length bytes) bytes (omega arith), drop-length) (same_kind (plain_guard_in bytes) (plain-zero bytes).kind);
  zero = λ bytes g e. subst (Zero kind_of) e (plain-zero bytes).kind;
}

pub rank-as-before : (field : List ℕ) → Lacks (code "^") field → guard_in field ≡ kinded_guard_in field
unfolding guard_in marked_in
rank-as-before field h = rw (cut-at-end (code "^") field h, take_all (length field) field (omega arith), drop-length) (same_rank (kinded_guard_in field) (kinded-zero field))

pub rank-zero : (field : List ℕ) (g : Guard) → kinded_guard_in field ≡ Some g → g.rank ≡ 0
rank-zero field g e = subst (Zero rank_of) e (kinded-zero field)
