use Rattle.std.proofs.Common.{◌+◌, ◌≤◌, ◌<◌, refl, sym, ap, ◌∙◌, arith, length}
use native.Mathlib.Nat.{le_of_eq}
use Rattle.std.proofs.lemmas.List.Edits.{sets}
use Rattle.wire.specs.Writing.{word_bytes}
use Rattle.records.proofs.Cuts.{wrote-sets}
use Rattle.inplace.specs.Layout.{table_length}
use Rattle.inplace.proofs.Rows.{row-lent, row-long, row_back}
use Rattle.inplace.proofs.Left.{nothing_left}
use Rattle.inplace.proofs.Offered.{list-most, offer-busy, offer-last, offer-left}
use Rattle.inplace.proofs.offer.entered_in.Goals as goal

pub returns-then-t-a-ne0 : goal.returns-then-t-a-ne0
returns-then-t-a-ne0 c = nothing_left _ _ _ _ _ (offer-busy c.args.t.now c.args.p c.args.list c.requires.1 c.requires.0 c.requires.2 c.if-t-a-ne0.true) refl

pub returns-then-next : goal.returns-then-next
returns-then-next c =
    nothing_left _ _ _ _ _ (offer-last c.args.t.now c.args.p c.args.list c.requires.1 c.requires.0 c.requires.2 c.if-t-a-ne0.false (sym c.word_at-next.ensures ∙ c.if-next.true)) refl

pub entered-requires : goal.entered-requires
entered-requires c =
    let l : table_length ≤ length c.put_bytes.new.out = omega (arith, c.requires.1.0, c.put_bytes.auto.out) in
    (le_of_eq (sym (row-long c.put_bytes.new.out c.args.p l c.requires.0)), list-most _ _ _ c.requires.2)

pub returns : goal.returns
unfolding word_bytes
returns c =
    let t = c.args.t.now in
    let t' = c.put_bytes.new.out in
    let p = c.args.p in
    let next = c.word_at-next in
    let ticket = next.result in
    let left : ticket < 4294967295 = omega (arith, next.type_inv, c.if-next.false) in
    let l : table_length ≤ length t' = omega (arith, c.requires.1.0, c.put_bytes.auto.out) in
    let r = c.entered.new.r in
    let w = wrote-sets t 4 4 (word_bytes (ticket + 1)) t' refl (omega (arith, c.requires.1.0)) (c.put_bytes.ensures ∙ ap (sets t 4) c.word_bytes.ensures) in
    let v = row_back t' r p l c.requires.0 c.entered.auto.r in
    offer-left t p c.args.list c.requires.1 c.requires.0 c.requires.2 c.if-t-a-ne0.false ticket t' _ r next.ensures left w v (rw (← row-lent t' p) c.entered.ensures)
