use Rattle.std.proofs.Common.{◌≡◌, refl, ap}
use Rattle.command.specs.Types.{GuardList}
use Rattle.command.proofs.Growing.{grown-within, grown-counted}
use Rattle.command.proofs.lists.with_guard.Goals as goal
use Rattle.command.proofs.lists.with_guard.Goals.{then-list-lt8, else-list-lt8}

pub returns : goal.returns
returns c =
    let a = c.args in λ gs e.
    elim c.if-list-lt8.branch [
      | then-list-lt8 w ↦ rw w.list-is (grown-within gs a.guard a.list _ e w.if-list-lt8.true refl)
      | else-list-lt8 w ↦ rw w.list-is (grown-counted gs a.guard a.list _ e w.if-list-lt8.false refl)
    ]
