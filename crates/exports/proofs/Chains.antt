-- Calls one after another feed what they take as pieces.
use Prim.Native.Nat.{ℕ}
use mathlib.Core.Path.{◌≡◌, refl, ap, ◌∙◌}
use mathlib.Core.Bool.{true}
use mathlib.Core.List.{List, [], ◌∷◌, ◌++◌, map, flatten}
use lib.ListN.{take, drop}
use lib.Seq.{take-append_seam}
use Rattle.script.specs.Feeding.{start, fed, fed_pieces}
use Rattle.script.proofs.Cuts.{pieces-hold}
use Rattle.exports.specs.Scripts.{state_in, Feeds, Feeding, taken_by, filled_by, Chained, left_by, ByCalls}

-- what a call prints, and the state that it leaves
module _ (state : List ℕ) (c : Feeding) (f : Feeds state c.piece c.after c.out c.after' c.out' c.taken c.filled true) where
  prints-one : filled_by c ≡ (fed (state_in state) (taken_by c)).prints
  prints-one =
      let p : List ℕ = (fed (state_in state) (taken_by c)).prints in
      rw f.prints (ap (λ (n : ℕ). take n (p ++ drop c.filled c.out)) f.fills ∙ take-append_seam p (drop c.filled c.out))

  leaves-one : state_in c.after' ≡ (fed (state_in state) (taken_by c)).state
  leaves-one = f.keeps.read_back refl

prints-all : (state : List ℕ) (cs : List Feeding) → Chained state cs → flatten (map filled_by cs) ≡ (fed_pieces (state_in state) (map taken_by cs)).prints
unfolding fed_pieces Chained flatten
prints-all state [] h = refl
prints-all state (c ∷ cs) h = rw (prints-one state c h.0, ← (leaves-one state c h.0), prints-all c.after' cs h.1)

leaves_all : (state : List ℕ) (cs : List Feeding) → Chained state cs → state_in (left_by state cs) ≡ (fed_pieces (state_in state) (map taken_by cs)).state
unfolding fed_pieces Chained left_by
leaves_all state [] h = refl
leaves_all state (c ∷ cs) h = rw (← (leaves-one state c h.0)) (leaves_all c.after' cs h.1)

pub by-calls : ByCalls
by-calls buffer state cs k h =
    let e : state_in state ≡ start = k.read_back refl in
    rw (prints-all state cs h, leaves_all state cs h, e) (pieces-hold (map taken_by cs))
