use Rattle.std.proofs.Common.{◌≤◌, length, refl, arith, rules}
use Rattle.text.proofs.Capped.{shown-length}
use Rattle.text.specs.Writing.{shown, line_length}
use Rattle.script.proofs.Outputs.{copied_all}
use Rattle.script.proofs.output.put.Goals as goal

pub slice_bounds-copy_from_slice-end : goal.slice_bounds-copy_from_slice-end
slice_bounds-copy_from_slice-end c =
    let short : length c.as_slice-bytes.result.now ≤ line_length = rw c.as_slice-bytes.ensures (shown-length c.args.text (search rules)) in
    omega arith

pub returns : goal.returns
returns c =
    let a = c.args in
    let all = copied_all a.at (shown a.text) c.as_slice-bytes.result.now a.out.now _ _ c.as_slice-bytes.ensures (omega arith) refl (omega arith) in
    rw c.copy_from_slice.ensures.after record { value = all.0; out_after = all.1 }
