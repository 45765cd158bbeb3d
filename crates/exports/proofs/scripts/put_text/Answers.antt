use Rattle.std.proofs.Common.{◌≤◌, rules, length, refl}
use Rattle.text.proofs.Capped.{shown-length}
use Rattle.text.specs.Writing.{shown, line_length}
use Rattle.exports.proofs.Sessions.{text-put}
use Rattle.exports.proofs.scripts.put_text.Goals as goal

pub returns : goal.returns
returns c =
    let t = c.args.text in
    let e = c.as_slice-bytes.ensures in
    let short : length c.as_slice-bytes.result.now ≤ line_length = rw e (shown-length t (search rules)) in
    rw c.put_bytes.ensures (text-put (shown t) c.as_slice-bytes.result.now c.args.out.now _ e short c.if-out-lt-LINE_BYTES.false refl)
