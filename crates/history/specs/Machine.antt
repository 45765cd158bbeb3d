-- To be believed. What demand 3 speaks of, as any machine shows it that takes the calls; the table of document 01 is one (Tables).
use Rattle.std.specs.Prelude.{◌≡◌, ◌∷◌, ◌++◌, Option, Some}
use Rattle.rendezvous.specs.Numbers.{Said}
use Rattle.rendezvous.specs.Run.{Call}
use Rattle.history.specs.Types.{ℕ, List, []}
use Rattle.history.specs.Book.{Transaction, Moment, History, seen, ◌>>=◌, enter}

-- What a call says, what it leaves, and the moments of the run that it makes; the open offer of each process; and that "no task's step would change the desk".
pub record Machine : Type 1 where
  pub State : Type 0
  pub says : State → Call → Said
  pub after : State → Call → State
  pub makes : State → Call → List Moment
  pub opened : State → ℕ → Option Transaction
  pub Rests : State → Type 0

-- of a list of calls, from state s and book b
module _ (m : Machine) where
  -- the book after it, or none if it was stuck
  unfoldable pub book_after_all : m.State → History → List Call → Option History
  book_after_all s b [] = Some b
  book_after_all s b (c ∷ cs) = do
    after ← enter b c (seen (m.says s c))
    book_after_all (m.after s c) after cs

  -- the moments that its calls make
  unfoldable pub made_by_all : m.State → List Call → List Moment
  made_by_all s [] = []
  made_by_all s (c ∷ cs) = m.makes s c ++ made_by_all (m.after s c) cs

  -- a fact of each call: of the book before it, the call, what it says, and the book after it
  unfoldable pub EachCall : (History → Call → Said → History → Type 0) → m.State → History → List Call → Type 0
  EachCall Fact s b [] = Unit {0}
  EachCall Fact s b (c ∷ cs) =
      (after : History) → enter b c (seen (m.says s c)) ≡ Some after → Fact b c (m.says s c) after × EachCall Fact (m.after s c) after cs
