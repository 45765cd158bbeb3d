-- No list of calls crosses kinds: by demand 3 the guards of each rendezvous match, and so they are of one kind.
use mathlib.Core.List.{List, [], ◌∷◌}
use Rattle.alternative.proofs.OneKind.{kinds-refine}
use Rattle.rendezvous.specs.Numbers.{Said}
use Rattle.rendezvous.specs.Run.{Call}
use Rattle.history.specs.Book.{History}
use Rattle.history.specs.Machine.{Machine, EachCall}
use Rattle.history.specs.Demand3.{EntryJoins}
use Rattle.history.specs.KindsNeverCross.{OfOneKind, KindsNeverCross}
use Rattle.history.proofs.Claimed.{demand3}

of-one-kind : (b : History) (c : Call) (says : Said) (after : History) → EntryJoins b c says after → OfOneKind b c says after
of-one-kind b c says after joins r e =
    let j = joins r e in
    (j.g.kind, rw (j.mine_open, j.mine_guard), rw (j.theirs_open, j.theirs_guard, kinds-refine.only_equal r.p r.q j.g j.h j.match))

-- a fact of each call that another gives
each-gives : (m : Machine) (F G : History → Call → Said → History → Type 0) → ((b : History) (c : Call) (says : Said) (after : History) → F b c says after → G b c says after)
    → (s : m.State) (b : History) (calls : List Call) → EachCall m F s b calls → EachCall m G s b calls
unfolding EachCall
each-gives m F G gives s b [] each = tt
each-gives m F G gives s b (c ∷ cs) each = λ after e. let now = each after e in (gives b c _ after now.0, each-gives m F G gives _ after cs now.1)

pub kinds-never-cross : KindsNeverCross
kinds-never-cross n d least most naps calls = each-gives _ EntryJoins OfOneKind of-one-kind _ _ calls (demand3 n d least most naps calls).joins
