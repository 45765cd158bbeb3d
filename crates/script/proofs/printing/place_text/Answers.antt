use Rattle.std.specs.Prelude.{Some, None}
use Rattle.std.proofs.Common.{◌≡◌, sym, append_assoc}
use Rattle.text.proofs.Capped.{capped-capped}
use Rattle.process.specs.Process.{index_of}
use Rattle.script.specs.Printing.{answer_text}
use Rattle.script.proofs.printing.place_text.Goals as goal

pub returns-in-None : goal.returns-in-None
unfolding answer_text
returns-in-None c =
    let e : index_of c.args.place ≡ None = sym c.in-None.ensures in
    rw e (simp (c.byte-text.ensures, c.letter.ensures, c.byte.ensures, capped-capped, append_assoc))

pub returns-in-Some : goal.returns-in-Some
unfolding answer_text
returns-in-Some c =
    let e : index_of c.args.place ≡ Some c.in-Some.i = sym c.in-Some.ensures in
    rw e (simp (c.decimal.ensures, c.byte-text.ensures, c.letter.ensures, c.byte.ensures, capped-capped, append_assoc))
