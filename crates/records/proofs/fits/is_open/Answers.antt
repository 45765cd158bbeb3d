use Rattle.std.proofs.Common.{ℕ, sym, ap, ◌∙◌, not, eqb}
use Rattle.wire.specs.Layout.{message_length}
use Rattle.wire.specs.Reading.{byte, message_of}
use Rattle.records.specs.Layout.{part, place_at, index_at, kept_at, accepting_at, outcome_at}
use Rattle.records.specs.Reading.{place_of, process_of}
use Rattle.records.specs.Private.{open_by}
use Rattle.records.proofs.Tags.{open_at-by}
use Rattle.records.proofs.fits.is_open.Goals as goal

pub returns-then-tag-eq-WAITING : goal.returns-then-tag-eq-WAITING
unfolding process_of place_of
returns-then-tag-eq-WAITING c =
    let r = c.args.r.now in
    let accepting = not (eqb (byte r accepting_at) 0) in
    sym (open_at-by (byte r index_at) (byte r kept_at) (message_of (part r outcome_at message_length)) accepting (byte r place_at) ∙ ap (λ (k : ℕ). open_by k accepting) c.if-tag-eq-WAITING.true)

pub returns : goal.returns
unfolding process_of place_of
returns c =
    let r = c.args.r.now in
    sym (open_at-by (byte r index_at) (byte r kept_at) (message_of (part r outcome_at message_length)) (not (eqb (byte r accepting_at) 0)) (byte r place_at))
