use Rattle.std.proofs.Common.{◌≡◌, ℕ, refl, ap, subst, ◌∙◌, arith, List, ◌++◌, take, drop, replicate}
use Rattle.records.proofs.Cuts.{Wrote, wrote-mid, lent_length}
use Rattle.records.proofs.Slots.{cleared-is}
use Rattle.records.proofs.entering.cleared.Goals as goal

pub returns : goal.returns
returns c =
    let r = c.args.r.now in
    let partners = c.fill.new.self in
    let rest = c.fill-2.new.self in
    let r₁ = take 8 r ++ (partners ++ drop 8 (drop 8 r)) in
    let r₂ = take 48 r₁ ++ (rest ++ drop 32 (drop 48 r₁)) in
    let n = lent_length r 8 8 8 refl (omega arith) in
    let w : Wrote r r₁ 8 8 partners = wrote-mid r partners 8 8 8 refl (omega arith) (c.fill.ensures.len ∙ n) in
    let m = lent_length r₁ 48 32 32 refl (omega (arith, w.long)) in
    let v : Wrote r₁ r₂ 48 32 rest = wrote-mid r₁ rest 48 32 32 refl (omega (arith, w.long)) (c.fill-2.ensures.len ∙ m) in
    let zeros : partners ≡ replicate 8 0 = c.fill.ensures.after (λ y e. e) ∙ ap (λ (k : ℕ). replicate k 0) n in
    let zeros₂ : rest ≡ replicate 32 0 = c.fill-2.ensures.after (λ y e. e) ∙ ap (λ (k : ℕ). replicate k 0) m in
    cleared-is r r₁ r₂ (omega (arith, w.long, v.long)) (subst (λ (l : List ℕ). Wrote r r₁ 8 8 l) zeros w) (subst (λ (l : List ℕ). Wrote r₁ r₂ 48 32 l) zeros₂ v)
