use Rattle.std.proofs.Common.{◌≡◌, ◌∙◌, sym, ap, length, replicate}
use borrow.Author.Rules.{length_unmapped}
use Rattle.wire.specs.Layout.{guards_length, record_length}
use Rattle.wire.specs.Writing.{process_parts, guards_bytes, process_bytes}
use Rattle.wire.proofs.Lengths.{word-length, place-length, signal-length, parts-length}
use Rattle.wire.proofs.Parts.{laid-whole}
use Rattle.wire.proofs.writing.process_bytes.Goals as goal

pub returns : goal.returns
unfolding process_bytes
returns c =
    let x = c.args.x.now in
    let own : length (guards_bytes x.guards) ≡ guards_length = ap length (sym c.guards_bytes.ensures) ∙ search (length_unmapped, c.guards_bytes.type_inv) in
    let posted : length (guards_bytes x.altlist) ≡ guards_length = ap length (sym c.guards_bytes-2.ensures) ∙ search (length_unmapped, c.guards_bytes-2.type_inv) in
    rw (
      c.put_bytes-6.ensures,
      c.guards_bytes-2.ensures,
      c.put_bytes-5.ensures,
      c.guards_bytes.ensures,
      c.put_bytes-4.ensures,
      c.flag_byte.ensures,
      c.put_bytes-3.ensures,
      c.word_bytes.ensures,
      c.put_bytes-2.ensures,
      c.signal_bytes.ensures,
      c.put_bytes.ensures,
      c.place_bytes.ensures,
    )
    (rw (place-length x.place, signal-length x.signal, word-length x.transaction.0, own) at (laid-whole (process_parts x) (replicate record_length 0) (parts-length x own posted)))
