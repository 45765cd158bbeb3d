use Rattle.std.proofs.Common.{refl, ◌∙◌}
use Rattle.rendezvous.proofs.Done.{told-carried, alone-carried}
use Rattle.rendezvous.proofs.ProcessTable.carry_out.Goals as goal
use Rattle.rendezvous.proofs.ProcessTable.carry_out.Goals.{in-Some, in_default}

pub returns : goal.returns
returns c =
    rw c.place_of-2.ensures (
    elim c.match-act.branch [
      | in-Some w ↦ told-carried _ _ _ _ _ _ w.in-Some.is (w.self-is ∙ rw (w.place_of-in-Some.ensures, w.told.ensures, w.place_of.ensures) refl)
      | in_default w ↦ alone-carried _ _ _ _ _ w.in_default.is w.self-is
    ]
    )
