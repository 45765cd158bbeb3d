use Rattle.std.proofs.Common.{ℕ, ◌≤◌, refl, sym, ap, ◌∙◌, arith, rules, List, length}
use mir.Syntax.{w8}
use mir.Val.{Fits}
use Rattle.std.proofs.lemmas.List.Edits.{sets}
use Rattle.wire.specs.Reading.{byte}
use Rattle.rendezvous.specs.Calls.{given_up}
use Rattle.records.specs.Reading.{process_of}
use Rattle.inplace.specs.Layout.{table_length}
use Rattle.inplace.proofs.Rows.{row-lent, row_back}
use Rattle.inplace.proofs.Left.{nothing_left}
use Rattle.inplace.proofs.GivenUp.{totals-small, withdraw-refused, withdraw-late, given-up-left}
use Rattle.inplace.proofs.withdraw.given_up_in.Goals as goal

pub returns-then-tag : goal.returns-then-tag
returns-then-tag c = nothing_left _ _ _ _ _ (withdraw-refused c.args.t.now c.args.p c.requires.1 c.if-tag.true) refl

pub returns-then-is_late : goal.returns-then-is_late
returns-then-is_late c = nothing_left _ _ _ _ _ (withdraw-late c.args.t.now c.args.p c.requires.1 c.if-tag.false (sym c.is_late.ensures ∙ c.if-is_late.true)) refl

pub overflow_add-withdrawn : goal.overflow_add-withdrawn
overflow_add-withdrawn c =
    let small : (k : ℕ) → Fits w8 (byte c.args.t.now k) = λ k. search rules in
    omega (arith, c.long_at-withdrawn.ensures, totals-small c.args.t.now c.args.p c.requires.1 (λ k. omega (arith, small k)))

pub returns : goal.returns
returns c =
    let t = c.args.t.now in
    let p = c.args.p in
    let small : (k : ℕ) → Fits w8 (byte t k) = λ k. search rules in
    let t₁ = c.put_bytes.new.out in
    let long : table_length ≤ length t₁ = omega (arith, c.requires.1.0, c.put_bytes.auto.out) in
    let up = c.given_up in
    given-up-left t p c.requires.1 c.if-tag.false (sym c.is_late.ensures ∙ c.if-is_late.false)
    (λ k. omega (arith, small k))
    _ c.long_at-withdrawn.ensures t₁ _ up.new.r
    (c.put_bytes.ensures ∙ ap (sets t 16) c.long_bytes.ensures)
    (row_back t₁ up.new.r p long c.requires.0 up.auto.r)
    (up.ensures ∙ ap (λ (r : List ℕ). given_up (process_of r)) (row-lent t₁ p))
