-- To be believed. CR 2 of document 02, by cases: two sensors whose whole numbers would cross, guards that match but for their kinds, disabled guards, refusals, and the book's search.
use Rattle.std.specs.Prelude.{map, pos, ◌≡◌, ◌∷◌, ◌++◌, Some, None}
use Rattle.alternative.specs.Guards.{of_kind}
use Rattle.rendezvous.specs.Table.{fresh_table}
use Rattle.rendezvous.specs.Numbers.{Said, made, ticket, outcome, movers, refusal}
use Rattle.rendezvous.specs.Run.{Call, Offer, Step, Collect}
use Rattle.rendezvous.specs.Commands.{Do, Movers}
use Rattle.history.specs.Types.{ℕ, List, [], replicate, Message, Guard}
use Rattle.history.specs.Book.{Moment, Joined, empty_history, ◌>>=◌}
use Rattle.history.specs.Machine.{book_after_all, made_by_all}
use Rattle.history.specs.Tables.{tables}
use Rattle.history.specs.Cases.{Case, Hold, case, makes, receive, send, sends, disabled, at}

abbrev pub wholes : ℕ → Message
wholes n = Message.Whole (pos n)

-- temperature is of kind 1, strain of kind 2. The store, process 0, waits for one of the two; the pier, process 1, has strain 340 first, and temperature 21.
abbrev awaits : List Guard
awaits = of_kind 1 (receive 1) ∷ of_kind 2 (receive 1) ∷ []

abbrev measures : List Guard
measures = of_kind 2 (sends 0 (wholes 340)) ∷ of_kind 1 (sends 0 (wholes 21)) ∷ []

-- the store takes the strain on its strain guard, which is its second
abbrev pier_calls : List Call
pier_calls = Offer 0 awaits ∷ replicate 6 (Step 0) ++ Offer 1 measures ∷ replicate 4 (Step 1) ++ Step 0 ∷ Collect 0 ∷ Collect 1 ∷ []

abbrev pier_says : List Said
pier_says =
    ticket 0 ∷ at "A" (Some 0) ∷ at "A" (Some 1) ∷ at "P" None ∷ at "O" None ∷ at "H" None ∷ at "W" None
    ∷ ticket 1 ∷ at "A" (Some 0) ∷ at "T" (Some 0) ∷ at "C" (Some 0) ∷ at "M" None
    ∷ at "M" None ∷ outcome 1 1 (wholes 340) ∷ outcome 0 0 Message.Nothing ∷ []

-- process 0 waits with a guard of one kind; process 1 offers it one of another, finds no match, and waits too: nothing can move
abbrev apart : ℕ → ℕ → Case
apart k l = case
    (makes 2 ∷ map Do (Offer 0 (of_kind k (receive 1) ∷ []) ∷ replicate 5 (Step 0) ++ Offer 1 (of_kind l (sends 0 (wholes 7)) ∷ []) ∷ replicate 6 (Step 1)) ++ Movers ∷ [])
    (made ∷ ticket 0 ∷ at "A" (Some 0) ∷ at "P" None ∷ at "O" None ∷ at "H" None ∷ at "W" None
    ∷ ticket 1 ∷ at "A" (Some 0) ∷ at "T" (Some 0) ∷ at "P" None ∷ at "O" None ∷ at "H" None ∷ at "W" None ∷ movers 0 ∷ [])

unfoldable pub stories : List Case
stories =
    case (makes 2 ∷ map Do pier_calls) (made ∷ pier_says)
    -- "equal": not nearly, nor in some of their bits
    ∷ apart 0 1
    ∷ apart 1 2
    ∷ apart 2 1
    ∷ apart 255 0
    ∷ apart 255 254
    ∷ apart 1 129
    ∷ apart 16 0
    -- a disabled guard of the right kind is passed over, and so is an enabled one of another
    ∷ case
    (makes 2 ∷ map Do (Offer 0 (of_kind 3 (disabled 1) ∷ of_kind 4 (receive 1) ∷ of_kind 3 (receive 1) ∷ []) ∷ replicate 6 (Step 0) ++ Offer 1 (of_kind 3 (sends 0 (wholes 7)) ∷ []) ∷ replicate 4 (Step 1) ++ Step 0 ∷ Collect 0 ∷ []))
    (made ∷ ticket 0 ∷ at "A" (Some 1) ∷ at "A" (Some 2) ∷ at "P" None ∷ at "O" None ∷ at "H" None ∷ at "W" None
    ∷ ticket 1 ∷ at "A" (Some 0) ∷ at "T" (Some 0) ∷ at "C" (Some 0) ∷ at "M" None ∷ at "M" None ∷ outcome 2 1 (wholes 7) ∷ [])
    -- no refusal looks at a kind: 3, 4, 5, 6, and an offer with a disabled guard of kind 255, which is taken
    ∷ case
    (makes 2 ∷ map Do (Offer 0 (replicate 9 (of_kind 255 (receive 1))) ∷ Offer 0 (of_kind 255 (receive 0) ∷ []) ∷ Offer 0 (of_kind 255 (send 1 0x7fc00000) ∷ []) ∷ Offer 0 (of_kind 255 (disabled 1) ∷ [])
    ∷ Offer 0 (of_kind 255 (disabled 1) ∷ of_kind 254 (receive 1) ∷ []) ∷ Step 0 ∷ []))
    (made ∷ refusal 3 ∷ refusal 4 ∷ refusal 5 ∷ refusal 6 ∷ ticket 0 ∷ at "A" (Some 1) ∷ [])
    ∷ []

-- the rendezvous of the store and the pier, by the tables and by the book: guard 0 of process 1 with guard 1 of process 0
abbrev pier_run : List Moment
pier_run = Joined (record { id_p = 1; id_q = 0; p = 1; i = 0; q = 0; j = 1; message = wholes 340 }) ∷ []

pub record KindCases : Type 0 where
  pub cases : Hold stories
  pub made_run : made_by_all tables (fresh_table 2 1) pier_calls ≡ pier_run
  pub book_run : ◌>>=◌ (book_after_all tables (fresh_table 2 1) empty_history pier_calls) (λ b. Some b.run) ≡ Some pier_run
