use Rattle.std.proofs.Common.{◌-◌, sym, ◌∙◌, arith}
use Rattle.rendezvous.proofs.Sets.{bit-most, above-start, above_more, above-fits}
use Rattle.inplace.proofs.Ready.{formed-count}
use Rattle.inplace.proofs.Moves.{bit-is, set_gives, set-refused}
use Rattle.inplace.proofs.runnable.runnable_in.Goals as goal

pub returns-then-not-formed_in : goal.returns-then-not-formed_in
returns-then-not-formed_in c = set-refused _ (sym c.formed_in.ensures ∙ c.if-not-formed_in.true)

pub loop-p-init : goal.loop-p-init
loop-p-init c = above-start _ _

pub overflow_mul-set : goal.overflow_mul-set
overflow_mul-set c =
    let l = c.loop-p in
    omega (arith, above-fits _ _ l.p l.set 32 (omega arith) (omega arith) (formed-count _ (sym c.formed_in.ensures ∙ c.if-not-formed_in.false)) l.invariant)

pub overflow_add-set : goal.overflow_add-set
overflow_add-set c =
    let l = c.loop-p in
    omega (arith, c.from.ensures, bit-is c.moves.result, above-fits _ _ l.p l.set 32 (omega arith) (omega arith) (formed-count _ (sym c.formed_in.ensures ∙ c.if-not-formed_in.false)) l.invariant, bit-most c.moves.result)

pub loop-p-preserved : goal.loop-p-preserved
loop-p-preserved c = let l = c.loop-p in above_more _ _ (l.p - 1) l.p _ _ _ (omega arith) (sym c.moves.ensures) (c.from.ensures ∙ bit-is c.moves.result) l.invariant

pub returns : goal.returns
returns c = let l = c.loop-p in set_gives _ l.p l.set (sym c.formed_in.ensures ∙ c.if-not-formed_in.false) (omega arith) l.invariant
