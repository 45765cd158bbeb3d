use Rattle.std.proofs.Common.{◌≡◌, ℕ, ◌+◌, ◌-◌, ◌^◌, ◌<◌, false, ap, ◌∙◌, arith, rules, List, ◌++◌, length, take, drop}
use mir.Syntax.{w8}
use mir.Val.{Fits}
use Rattle.std.proofs.lemmas.List.Edits.{sets}
use Rattle.wire.specs.Reading.{byte}
use Rattle.wire.specs.Writing.{long_bytes}
use Rattle.process.specs.Rules.{at_place, with_accepting}
use Rattle.records.specs.Reading.{process_of}
use Rattle.records.proofs.Cuts.{wrote-sets}
use Rattle.inplace.specs.Types.{Place}
use Rattle.inplace.specs.Layout.{record_start}
use Rattle.inplace.specs.Reading.{head_of}
use Rattle.inplace.proofs.Words.{long-length}
use Rattle.inplace.proofs.Rows.{row-lent, row_back}
use Rattle.inplace.proofs.Ready.{meetings-fit}
use Rattle.inplace.proofs.Pairs.{apart, commit-steps}
use Rattle.inplace.proofs.step.commit_in.Goals as goal

pub overflow_add-meetings : goal.overflow_add-meetings
overflow_add-meetings c =
    let small : (k : ℕ) → Fits w8 (byte c.args.t.now k) = λ k. search rules in
    omega (arith, c.long_at-meetings.ensures, meetings-fit c.args.t.now c.args.p c.requires.0.2 small)

pub returns : goal.returns
unfolding head_of
returns c =
    let t = c.args.t.now in
    let p = c.args.p in
    let q = c.args.q in
    let paired = c.requires.0 in
    let small : (k : ℕ) → Fits w8 (byte t k) = λ k. search rules in
    let t₁ = c.put_bytes.new.out in
    let n₁ : length t₁ ≡ length t = c.put_bytes.auto.out in
    let m = c.long_at-meetings.result + 1 in
    let fits : m < 2 ^ 64 = omega (arith, c.long_at-meetings.ensures, meetings-fit t p paired.2 small) in
    let e : m ≡ (head_of t).meetings + 1 = ap (λ (k : ℕ). k + 1) c.long_at-meetings.ensures in
    let u = wrote-sets t 8 8 (long_bytes m) t₁ (long-length m) (omega (arith, paired.2.0)) (c.put_bytes.ensures ∙ ap (sets t 8) c.long_bytes.ensures) in
    let v = row_back t₁ c.closed.new.r q (omega (arith, paired.2.0, n₁)) paired.1 c.closed.auto.r in
    let t₂ = take (record_start q) t₁ ++ (c.closed.new.r ++ drop ((record_start q + 256) - record_start q) (drop (record_start q) t₁)) in
    let w = row_back t₂ c.committed.new.r p (omega (arith, paired.2.0, n₁, v.long)) paired.0 c.committed.auto.r in
    commit-steps t t₁ t₂ _ p q c.args.kept m c.committed.new.r c.closed.new.r paired (apart t p q paired (omega arith) (omega arith)) c.requires.1 fits e u v w (c.closed.ensures ∙ ap (λ (b : List ℕ). with_accepting (process_of b) false) (row-lent t₁ q)) (c.committed.ensures ∙ ap (λ (b : List ℕ). at_place (process_of b) (Place.Committed (byte b 1) c.args.kept)) (row-lent t₂ p))
