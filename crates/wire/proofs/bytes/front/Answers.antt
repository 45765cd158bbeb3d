use Rattle.std.proofs.Common.{rules, ◌≡◌, refl, get_or}
use Rattle.wire.proofs.Made.{made}
use Rattle.wire.proofs.bytes.front.Goals as goal

pub returns : goal.returns
returns g c k h =
    let s = c.args.bytes.now in
    made c.from_fn.ensures.items (λ f. f.0.now ≡ s) (λ k. get_or s k 0) refl (λ f k y q e r. let was = r.met in (rw (← e) (search rules), rw (← e) (search rules))) k 0 h
