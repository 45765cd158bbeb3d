use Rattle.std.proofs.Common.{ℕ, sym, ap, ◌∙◌, arith, List, length, take}
use lib.ListN.{get_or-replicate}
use lib.Seq.{length-take-le}
use Rattle.wire.specs.Reading.{byte}
use Rattle.inplace.proofs.Fresh.{remade, remade-not}
use Rattle.inplace.proofs.Turned.{told}
use Rattle.inplace.proofs.create.create_in.Goals as goal

pub returns-in_err-create_verdict : goal.returns-in_err-create_verdict
returns-in_err-create_verdict c = rw (told _ _ c.from_residual.ensures) (remade-not c.args.t.now _ _ _ (sym c.create_verdict.ensures ∙ c.in_err-create_verdict.was))

pub returns : goal.returns
returns c =
    let t = c.args.t.now in
    let n = length-take-le 8224 t c.requires in
    remade t c.fill.new.self _ _ (sym c.create_verdict.ensures ∙ c.in_ok-create_verdict.was) (c.fill.ensures.len ∙ n)
    (λ k h. ap (λ (l : List ℕ). byte l k) (c.fill.ensures.after (λ y e. e)) ∙ get_or-replicate (length (take 8224 t)) k 0 0 (omega (arith, n)))
