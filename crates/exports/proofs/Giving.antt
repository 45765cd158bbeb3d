-- What a call writes, all or nothing.
use Prim.Native.Nat.{ℕ}
use mathlib.Core.Path.{◌≡◌, sym, ◌∙◌}
use mathlib.Core.Bool.{Bool, true, ◌&&◌}
use mathlib.Core.List.{List}
use borrow.Author.Tests.{leb-true}
use lib.Dec.{leb}
use lib.ListN.{length}
use lib.Seq.{sets}
use Rattle.alternative.proofs.Tests.{and_parts}
use Rattle.rendezvous.specs.Numbers.{said}
use Rattle.wire.specs.Claims.{Faithful}
use Rattle.wire.specs.Layout.{table_length}
use Rattle.wire.specs.Writing.{bytes_of, onto}
use Rattle.wire.proofs.Lists.{sets-front}
use Rattle.exports.specs.Types.{Reply}
use Rattle.exports.specs.Layout.{answer_length}
use Rattle.exports.specs.Answers.{said_bytes, is_table, Gives}

module _ (read : Bool) (reply : Reply) (t a : List ℕ) where
  abbrev enough : Bool
  enough = read && is_table t && leb answer_length (length a)

  pub gives_both : (t' a' : List ℕ) → enough ≡ true → length (said_bytes (said reply.answer)) ≡ answer_length → t' ≡ onto table_length (bytes_of reply.table) t
      → a' ≡ sets a 0 (said_bytes (said reply.answer)) → Faithful reply.table → Gives read reply t a t' a' true
  unfolding onto
  gives_both t' a' e n et ea f =
      let w = and_parts (read && is_table t) (leb answer_length (length a)) e in
      let l : is_table t ≡ true = (and_parts read (is_table t) w.0).1 in
      record { enough = sym e; table_given = rw l at et; answer_given = ea ∙ sets-front a (said_bytes (said reply.answer)) answer_length n (leb-true answer_length (length a) w.1); faithful = λ y. f }
