use Rattle.std.proofs.Common.{refl, sym}
use Rattle.std.proofs.lemmas.Bool.{false≢true}
use Rattle.script.specs.Feeding.{fed}
use Rattle.exports.proofs.rendezvous_script_feed.Goals as goal

pub returns-then-not-whole : goal.returns-then-not-whole
unfolding fed
returns-then-not-whole c =
    let one = c.is_session in
    let two = c.is_session-2 in
    let e = rw (one.ensures, two.ensures) at c.if-not-whole.true in
    record {
      takes = refl;
      fills = refl;
      prints = refl;
      keeps = record { enough = sym e; read_back = λ y. absurd (false≢true y); behind = refl; short = λ n. refl };
    }
