use Rattle.std.proofs.Common.{◌≡◌, ◌≤◌, rules, ℕ, length, replicate, refl}
use Rattle.std.proofs.Math.ListN.{length-replicate}
use Rattle.std.specs.Prelude.{is_some}
use Rattle.std.specs.Bool.{then_some}
use Rattle.script.specs.Lines.{begun_length}
use Rattle.wire.specs.Layout.{table_length}
use Rattle.exports.specs.Layout.{session_length}
use Rattle.exports.proofs.Sessions.{table-whole, session-stored}
use Rattle.exports.proofs.scripts.put_session.Goals.{in-Some, in-None+in-None-unmade, in-None+in-Some-unmade}
use Rattle.exports.proofs.scripts.put_session.Goals as goal

pub returns : goal.returns
returns c =
    let s = c.args.session in
    let l = c.args.out.now in
    let long : length s.bytes ≡ begun_length = search rules in
    let h : session_length ≤ length l = search rules in
    let same : then_some (is_some s.table) c.match-session.table ≡ s.table =
    elim c.match-session.branch [
      | in-Some w ↦ rw (w.table-is, w.in-Some.is) refl
      | in-None+in-Some-unmade w ↦ rw w.in-None.is refl
      | in-None+in-None-unmade w ↦ rw w.in-None.is refl
    ] in
    session-stored s long (is_some s.table) c.match-session.table same c.encode.ensures.2 l c.put_bytes-3.new.out h
    (rw (
      c.put_bytes-3.ensures,
      c.put_bytes-2.ensures,
      c.put_bytes.ensures,
      c.flag_byte.ensures,
      c.is_some.ensures,
      c.min-length.ensures,
      c.encode.ensures.1,
      table-whole _ (replicate table_length 0) (length-replicate {A = ℕ} table_length 0),
    ))
