use Rattle.std.proofs.Common.{sym, ◌∙◌, arith}
use native.Mathlib.Nat.{le_of_eq}
use Rattle.wire.specs.Reading.{byte, message_of}
use Rattle.records.specs.Layout.{part}
use Rattle.inplace.specs.Layout.{record_bytes}
use Rattle.inplace.proofs.Rows.{row-lent, row-long, row-byte, row_back}
use Rattle.inplace.proofs.Ready.{count_most, index_below}
use Rattle.inplace.proofs.Effects.{scan-effect}
use Rattle.inplace.proofs.Left.{steps-by}
use Rattle.inplace.proofs.step.scan_in.Goals as goal

pub scan_rule-requires : goal.scan_rule-requires
scan_rule-requires c =
    let t = c.args.t.now in
    let p = c.args.p in
    let ready = c.requires.2 in
    let tag = c.requires.3 in
    let count = count_most t p ready in
    let index = index_below t p ready (omega (arith, tag)) (omega (arith, tag)) in
    (le_of_eq (sym (row-long t p ready.0 c.requires.0)), omega (arith, count, row-byte t p 5 (omega arith)), omega (arith, count, index, row-byte t p 1 (omega arith)))

pub returns : goal.returns
returns c =
    let t = c.args.t.now in
    let p = c.args.p in
    let q = c.args.q in
    let y = record_bytes t q in
    let rule = c.scan_rule in
    let w = row_back t rule.new.r p c.requires.2.0 c.requires.0 rule.auto.r in
    let told = rule.ensures.rule (byte y 1) (byte y 2) (message_of (part y 28 9)) in
    steps-by t _ p c.requires.0 rule.new.r rule.result w (scan-effect t p q c.requires ∙ rw (← row-lent t p, ← c.word_at.ensures, ← c.word_at-2.ensures) told) (λ e. rule.ensures.still e ∙ row-lent t p)
