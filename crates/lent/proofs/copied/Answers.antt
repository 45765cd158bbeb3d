use Rattle.std.proofs.Common.{ℕ, ◌-◌, ◌≡◌, min, List, ◌++◌, length, get_or, take, drop, replicate, ap, ◌∙◌, arith, get_or-take, length-take}
use lib.ListN.{length-append, length-replicate}
use Rattle.std.proofs.lemmas.List.{drop-replicate, take_min}
use Rattle.alternative.specs.declared.Guard.{Guard}
use Rattle.alternative.specs.Guards.{blank, lent, slots}
use Rattle.alternative.proofs.Slots.{slots-are, blank-past}
use Rattle.lent.proofs.copied.Goals as goal

-- the first eight guards, or all where they are fewer, and blanks in the rest of the eight slots
held : (gs : List Guard) (n : ℕ) → n ≡ min 8 (length gs) → take n gs ++ drop n (replicate 8 blank) ≡ slots gs
held gs n e = rw (drop-replicate n 8 blank) (slots-are gs (take n gs ++ replicate (8 - n) blank)
    (omega (arith, length-append (take n gs) (replicate (8 - n) blank), length-take n gs, length-replicate (8 - n) blank))
    (λ i h. blank-past (take n gs) (8 - n) i ∙ ap (λ (l : List Guard). get_or l i blank) (ap (λ (m : ℕ). take m gs) e ∙ take_min 8 gs) ∙ get_or-take 8 gs i blank h))

pub returns : goal.returns
unfolding lent
returns c = rw (c.copy_from_slice.ensures.after, c.blank_guard-slots.ensures, held c.args.guards.now c.min-read.result (omega (arith, c.min-read.ensures)))
