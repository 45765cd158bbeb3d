use Rattle.std.proofs.Common.{◌≡◌, ℕ, ◌<◌, length, take, sym, ap, ◌∙◌, arith, rules, length-take}
use Rattle.script.specs.Lines.{begun_length}
use Rattle.script.specs.Feeding.{state_held}
use Rattle.script.proofs.Cuts.{finished-empty, finished-begun}
use Rattle.script.proofs.feeding.finish.Goals as goal

pub returns-then-session-eq0 : goal.returns-then-session-eq0
returns-then-session-eq0 c =
    let s = c.args.session in
    c.empty.ensures ∙ sym (finished-empty (state_held s) (ap (λ (n : ℕ). take n s.bytes) c.if-session-eq0.true))

pub returns : goal.returns
returns c =
    let s = c.args.session in
    let h : length s.bytes ≡ begun_length = search rules in
    let n : s.length ≡ 0 → ⊥ = c.if-session-eq0.false in
    let g : 0 < length (take s.length s.bytes) = simp length-take (omega arith) in
    c.malformed_line.ensures ∙ sym (finished-begun (state_held s) g)
