use Rattle.std.proofs.Common.{sym, ap, ◌∙◌}
use Rattle.wire.specs.Reading.{byte}
use Rattle.process.specs.Rules.{Own, scan_from}
use Rattle.records.specs.Reading.{process_of}
use Rattle.records.proofs.Ruled.{scan-passes}
use Rattle.records.proofs.rules.scan_rule.Goals as goal

pub returns-then-passes-clause-rule : goal.returns-then-passes-clause-rule
unfolding scan_from
returns-then-passes-clause-rule c =
    let a = c.args in
    let passed = sym c.passes.ensures ∙ c.if-passes.true in
    λ i j m. scan-passes (process_of a.r.now) (byte a.r.now 1) i j m a.older a.other passed ∙ ap Own (sym c.scanned.ensures)
