use Rattle.std.proofs.Common.{sym, ◌∙◌}
use borrow.Author.Tests.{lt-ltb, le-ltb}
use Rattle.rendezvous.specs.Refusals.{process_verdict}
use Rattle.inplace.specs.Reading.{head_of, table_of}
use Rattle.inplace.proofs.form.admitted.Goals as goal

pub returns-then-not-formed_in : goal.returns-then-not-formed_in
unfolding process_verdict
returns-then-not-formed_in c = rw (sym c.formed_in.ensures ∙ c.if-not-formed_in.true)

pub returns-then-t-p : goal.returns-then-t-p
unfolding process_verdict table_of head_of
returns-then-t-p c = rw (sym c.formed_in.ensures ∙ c.if-not-formed_in.false, le-ltb _ _ c.if-t-p.true)

pub returns : goal.returns
unfolding process_verdict table_of head_of
returns c = rw (sym c.formed_in.ensures ∙ c.if-not-formed_in.false, lt-ltb _ _ c.if-t-p.false)
