use Rattle.std.proofs.Common.{sym, ◌∙◌, arith}
use mathlib.Core.Logic.{inl, inr}
use native.Mathlib.Nat.{le_of_eq}
use Rattle.inplace.proofs.Rows.{byte_of, row-lent, row-long, row-byte, row_back}
use Rattle.inplace.proofs.Ready.{count_most, altcount-most, index_below}
use Rattle.inplace.proofs.Pairs.{other-ready, index-most, partner-guard, keeps-by, pass-steps}
use Rattle.inplace.proofs.step.try_in.Goals.{then-t-b-ne0+in_default, else-t-b-ne0}
use Rattle.inplace.proofs.step.try_in.Goals as goal

pub kept_in-kept-requires : goal.kept_in-kept-requires
kept_in-kept-requires c =
    let t = c.args.t.now in
    let p = c.args.p in
    let q = c.args.q in
    let s = c.requires in
    let tag = s.3 in
    let other = other-ready t p q s (omega arith) (omega arith) in
    let below = index_below t p s.2 (omega (arith, tag)) (omega (arith, tag)) in
    (le_of_eq (sym (row-long t p s.2.0 s.0)), le_of_eq (sym (row-long t q s.2.0 s.1)), omega (arith, below, row-byte t p 5 (omega arith)), omega (arith, count_most t p s.2, row-byte t p 5 (omega arith)), omega (arith, altcount-most t q other, row-byte t q 6 (omega arith)), rw (row-lent t p) (partner-guard t p q s (omega arith) (omega arith)))

pub commit_in-requires : goal.commit_in-requires
commit_in-requires c =
    let t = c.args.t.now in
    let p = c.args.p in
    let q = c.args.q in
    (c.requires, keeps-by t p q c.requires c.if-t-b-ne0.true _ (rw (← row-lent t p, ← row-lent t q) (sym c.kept_in-kept.ensures ∙ c.in-Some.is)))

pub overflow_add-i-2 : goal.overflow_add-i-2
overflow_add-i-2 c = omega (arith, index-most c.args.t.now c.args.p c.args.q c.requires (omega arith) (omega arith))

pub scanned-requires : goal.scanned-requires
scanned-requires c =
    let t = c.args.t.now in
    let p = c.args.p in
    (le_of_eq (sym (row-long t p c.requires.2.0 c.requires.0)), omega (arith, count_most t p c.requires.2, row-byte t p 5 (omega arith)))

pub returns : goal.returns
returns c =
    let t = c.args.t.now in
    let p = c.args.p in
    let q = c.args.q in
    let done = c.scanned in
    let w = row_back t done.new.r p c.requires.2.0 c.requires.0 done.auto.r in
    let i = byte_of t p 1 (omega arith) in
    pass-steps t _ p q done.new.r c.requires
    (elim c.if-t-b-ne0.branch [
      | then-t-b-ne0+in_default v ↦ inr (rw (i, ← row-lent t p, ← row-lent t q) (sym v.kept_in-kept.ensures ∙ v.in_default.is))
      | else-t-b-ne0 v ↦ inl v.if-t-b-ne0.false
    ])
    w (rw (i, ← row-lent t p) done.ensures)
