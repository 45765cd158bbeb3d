use Rattle.std.proofs.Common.{◌≡◌, ◌+◌, ◌*◌, ◌≤◌, ◌∙◌, refl, sym, ap, arith, length, get_or}
use borrow.Author.Rules.{length_unmapped}
use borrow.Author.Tests.{lt-leb, le-leb}
use Rattle.process.specs.Process.{nobody}
use Rattle.rendezvous.specs.Table.{most_processes}
use Rattle.rendezvous.proofs.Lengths.{length-mapped}
use Rattle.wire.specs.Layout.{head_length, record_length, table_length}
use Rattle.wire.specs.Writing.{each_bytes, process_bytes, head_bytes, bytes_of, onto}
use Rattle.wire.proofs.Back.{table-back}
use Rattle.wire.proofs.Owned.{table-held}
use Rattle.wire.proofs.Lengths.{head-length, table-length}
use Rattle.wire.proofs.Lists.{written-more, written-end, sets-join, sets-front}
use Rattle.wire.proofs.encode.Goals as goal

pub returns-then-out-lt-TABLE_BYTES : goal.returns-then-out-lt-TABLE_BYTES
unfolding onto
returns-then-out-lt-TABLE_BYTES c =
    let e = lt-leb table_length (length c.args.out.now) c.if-out-lt-TABLE_BYTES.true in
    (sym e, rw e, table-back c.args.table (table-held c.args.table _ c.well_formed.0))

pub loop-p-init : goal.loop-p-init
unfolding each_bytes
loop-p-init c = (omega arith, refl, refl, refl)

pub loop-p-preserved : goal.loop-p-preserved
loop-p-preserved c =
    let p = c.loop-p.p in
    let ps = c.args.table.processes in
    let n : length ps ≡ most_processes = search (length-mapped, c.well_formed) in
    let r = c.process_bytes in
    let m : length (process_bytes (get_or ps p nobody)) ≡ record_length = ap length (sym r.ensures) ∙ search (length_unmapped, r.type_inv) in
    rw (c.put_bytes-in-loop-p.ensures, r.ensures)
    (written-more process_bytes record_length most_processes ps nobody head_length _ p c.loop-p.out (head_length + record_length * p) n (omega arith) m refl c.loop-p.invariant)

pub returns : goal.returns
unfolding onto bytes_of
returns c =
    let t = c.args.table in
    let s = c.args.out.now in
    let fits : table_length ≤ length s = c.if-out-lt-TABLE_BYTES.false in
    let n : length t.processes ≡ most_processes = search (length-mapped, c.well_formed) in
    let head = head_bytes t.head in
    let records = each_bytes process_bytes t.processes in
    let end = written-end process_bytes record_length most_processes t.processes head_length _ c.loop-p.p c.loop-p.out n (omega arith) c.loop-p.invariant in
    rw (le-leb table_length (length s) fits) (
      refl,
      end.1 ∙ rw (c.put_bytes.ensures, c.head_bytes.ensures, sets-join s 0 head records head_length (omega (arith, head-length t.head))) (sets-front s (bytes_of t) table_length (table-length t end.0) fits),
      table-back t (table-held t _ c.well_formed.0),
    )
