use Rattle.std.proofs.Common.{◌≡◌, ℕ, ◌+◌, ◌<◌, refl, sym, subst, ◌∙◌, arith}
use mathlib.Core.Logic.{◌⊎◌}
use native.Mathlib.Nat.{le_of_eq}
use Rattle.wire.specs.Reading.{byte}
use Rattle.process.specs.Rules.{partner_of}
use Rattle.rendezvous.specs.Table.{process}
use Rattle.inplace.specs.Layout.{record_start}
use Rattle.inplace.specs.Reading.{table_of}
use Rattle.inplace.proofs.Rows.{row-lent, row-long, row-byte, row_back, tag-between, tag-outside}
use Rattle.inplace.proofs.Ready.{most, count_most, index_below, partner-is, partner-below}
use Rattle.inplace.proofs.Effects.{effect-at}
use Rattle.inplace.proofs.Left.{steps-by}
use Rattle.inplace.proofs.step.stepped_in.Goals as goal

pub own_rule-requires : goal.own_rule-requires
own_rule-requires c =
    let s = c.requires in
    let t = c.args.t.now in
    let p = c.args.p in
    let tag = tag-outside (byte t (record_start p + 0)) c.if-tag.true in
    (le_of_eq (sym (row-long t p s.1.0 s.0)), omega (arith, count_most t p s.1, row-byte t p 5 (omega arith)), subst (λ (k : ℕ). (k < 2) ⊎ (4 < k)) (sym (row-byte t p 0 (omega arith))) tag)

pub returns-then-tag : goal.returns-then-tag
returns-then-tag c =
    let s = c.requires in
    let t = c.args.t.now in
    let p = c.args.p in
    let q = partner_of (process (table_of t) p) in
    let rule = c.own_rule in
    let w = row_back t rule.new.r p s.1.0 s.0 rule.auto.r in
    steps-by t _ p s.0 rule.new.r rule.result w (effect-at t p s.1 q refl ∙ rw (← row-lent t p) (rule.ensures.rule p q (process (table_of t) q))) (λ e. rule.ensures.still e ∙ row-lent t p)

pub bounds-t-a-3 : goal.bounds-t-a-3
bounds-t-a-3 c =
    let s = c.requires in
    let t = c.args.t.now in
    let p = c.args.p in
    let b = tag-between (byte t (record_start p + 0)) c.if-tag.false in
    omega (arith, index_below t p s.1 b.0 b.1, count_most t p s.1)

pub scan_in-requires : goal.scan_in-requires
scan_in-requires c =
    let s = c.requires in
    let t = c.args.t.now in
    let p = c.args.p in
    let b = tag-between (byte t (record_start p + 0)) c.if-tag.false in
    (s.0, omega (arith, most t p s.1, partner-below t p s.1 b.0 b.1), s.1, c.if-tag-eq-SCANNING.true, sym (partner-is t p s.1 b.0 b.1))

pub hand_over_in-requires : goal.hand_over_in-requires
hand_over_in-requires c =
    let s = c.requires in
    let t = c.args.t.now in
    let p = c.args.p in
    let b = tag-between (byte t (record_start p + 0)) c.if-tag.false in
    (s.0, omega (arith, most t p s.1, partner-below t p s.1 b.0 b.1), s.1, c.if-tag-eq-COMMITTED.true, sym (partner-is t p s.1 b.0 b.1))

pub try_in-requires : goal.try_in-requires
try_in-requires c =
    let s = c.requires in
    let t = c.args.t.now in
    let p = c.args.p in
    let b = tag-between (byte t (record_start p + 0)) c.if-tag.false in
    let tag : byte t (record_start p + 0) ≡ 3 = omega (arith, b.0, b.1, c.if-tag-eq-SCANNING.false, c.if-tag-eq-COMMITTED.false) in
    (s.0, omega (arith, most t p s.1, partner-below t p s.1 b.0 b.1), s.1, tag, sym (partner-is t p s.1 b.0 b.1))
