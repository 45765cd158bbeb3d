use Rattle.std.proofs.Common.{sym, ◌∙◌}
use Rattle.wire.specs.Reading.{byte}
use Rattle.inplace.proofs.Fits.{head-fails, head-holds, formed-is, counted-none, counted-some}
use Rattle.inplace.proofs.form.formed_in.Goals as goal

pub returns-then-n-nap : goal.returns-then-n-nap
returns-then-n-nap c = let t = c.args.t.now in rw (formed-is t) (head-fails (byte t 0) (byte t 1) _ c.if-n-nap.true)

pub returns-in-None : goal.returns-in-None
returns-in-None c =
    let t = c.args.t.now in
    let h = head-holds (byte t 0) (byte t 1) c.if-n-nap.false in
    rw (formed-is t, h.counted, h.napped, counted-none _ _ (sym c.in-None.is ∙ c.records_in.ensures))

pub returns-in-Some : goal.returns-in-Some
returns-in-Some c =
    let t = c.args.t.now in
    let h = head-holds (byte t 0) (byte t 1) c.if-n-nap.false in
    let some = counted-some _ _ _ (sym c.in-Some.is ∙ c.records_in.ensures) in
    rw (formed-is t, h.counted, h.napped, some.0, ← some.1) c.head_fits.ensures
