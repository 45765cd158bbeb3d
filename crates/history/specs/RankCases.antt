-- To be believed. CR 5 of document 02, by cases: "The alarm must beat the trend line", equal ranks, higher ranks that do not match, the scanning side, refusals, and the book's search.
use Rattle.std.specs.Prelude.{map, ◌≡◌, ◌∷◌, ◌++◌, Some, None}
use Rattle.alternative.specs.Guards.{of_kind, of_rank}
use Rattle.rendezvous.specs.Table.{fresh_table}
use Rattle.rendezvous.specs.Numbers.{Said, made, ticket, outcome, refusal}
use Rattle.rendezvous.specs.Run.{Call, Offer, Step, Collect}
use Rattle.rendezvous.specs.Commands.{Do}
use Rattle.history.specs.Types.{ℕ, false, List, [], replicate, Message, Action, Guard}
use Rattle.history.specs.Book.{Moment, Joined, empty_history, ◌>>=◌}
use Rattle.history.specs.Machine.{book_after_all, made_by_all}
use Rattle.history.specs.Tables.{tables}
use Rattle.history.specs.KindCases.{wholes}
use Rattle.history.specs.Cases.{Case, Hold, case, makes, receive, send, sends, disabled, at}

-- a sending guard to process 1 of rank r, with the number n; and the same disabled
abbrev ranked : ℕ → ℕ → Guard
ranked r n = of_rank r (sends 1 (wholes n))

abbrev ranked_off : ℕ → ℕ → Guard
ranked_off r n = record { enabled = false; partner = 1; kind = 0; rank = r; action = Action.Send (wholes n) }

-- process 0 offers the list and goes to W, by way of its enabled guards; process 1 offers one guard, commits, and both collect
abbrev meet_calls : List Guard → List ℕ → Guard → List Call
meet_calls offers scans g = Offer 0 offers ∷ map (λ i. Step 0) scans ++ replicate 4 (Step 0) ++ Offer 1 (g ∷ []) ∷ replicate 4 (Step 1) ++ Step 0 ∷ Collect 0 ∷ Collect 1 ∷ []

abbrev meet_says : List ℕ → ℕ → Message → Message → List Said
meet_says scans j mine theirs =
    ticket 0 ∷ map (λ i. at "A" (Some i)) scans ++ at "P" None ∷ at "O" None ∷ at "H" None ∷ at "W" None
    ∷ ticket 1 ∷ at "A" (Some 0) ∷ at "T" (Some 0) ∷ at "C" (Some 0) ∷ at "M" None
    ∷ at "M" None ∷ outcome j 1 mine ∷ outcome 0 0 theirs ∷ []

-- process 1 receives, and gets the number n of guard j
abbrev takes : List Guard → List ℕ → Guard → ℕ → ℕ → Case
takes offers scans g j n = case (makes 2 ∷ map Do (meet_calls offers scans g)) (made ∷ meet_says scans j Message.Nothing (wholes n))

-- the trend line 184, and the alarm 17 of rank 9
abbrev figures : List Guard
figures = ranked 0 184 ∷ ranked 9 17 ∷ []

unfoldable pub stories : List Case
stories =
    -- "The alarm must beat the trend line where one guard of the scanning task matches both."; without ranks the trend line comes first
    takes figures (0 ∷ 1 ∷ []) (receive 0) 1 17
    ∷ takes (ranked 0 184 ∷ ranked 0 17 ∷ []) (0 ∷ 1 ∷ []) (receive 0) 0 184
    ∷ takes (ranked 9 17 ∷ ranked 0 184 ∷ []) (0 ∷ 1 ∷ []) (receive 0) 0 17
    -- where the one who waits receives, its guard of greatest rank is kept
    ∷ case (makes 2 ∷ map Do (meet_calls (receive 1 ∷ of_rank 9 (receive 1) ∷ []) (0 ∷ 1 ∷ []) (sends 0 (wholes 7)))) (made ∷ meet_says (0 ∷ 1 ∷ []) 1 (wholes 7) Message.Nothing)
    -- "the first among equals"
    ∷ takes (ranked 5 1 ∷ ranked 5 2 ∷ []) (0 ∷ 1 ∷ []) (receive 0) 0 1
    ∷ takes (ranked 2 1 ∷ ranked 7 2 ∷ ranked 3 3 ∷ ranked 7 4 ∷ ranked 5 5 ∷ []) (0 ∷ 1 ∷ 2 ∷ 3 ∷ 4 ∷ []) (receive 0) 1 2
    -- ranks are compared as numbers, "0 to 255"
    ∷ takes (ranked 254 1 ∷ ranked 255 2 ∷ []) (0 ∷ 1 ∷ []) (receive 0) 1 2
    ∷ takes (ranked 255 1 ∷ ranked 254 2 ∷ []) (0 ∷ 1 ∷ []) (receive 0) 0 1
    ∷ takes (ranked 127 1 ∷ ranked 128 2 ∷ []) (0 ∷ 1 ∷ []) (receive 0) 1 2
    ∷ takes (ranked 16 1 ∷ ranked 15 2 ∷ []) (0 ∷ 1 ∷ []) (receive 0) 0 1
    -- the eighth of eight
    ∷ takes (replicate 7 (ranked 3 1) ++ ranked 4 8 ∷ []) (0 ∷ 1 ∷ 2 ∷ 3 ∷ 4 ∷ 5 ∷ 6 ∷ 7 ∷ []) (receive 0) 7 8
    -- "of all matching ones": a higher rank is passed over if its guard is disabled, of another kind, no opposite, or to another process
    ∷ takes (ranked 1 1 ∷ ranked 2 2 ∷ ranked_off 9 3 ∷ []) (0 ∷ 1 ∷ []) (receive 0) 1 2
    ∷ takes (ranked 1 1 ∷ ranked 2 2 ∷ of_kind 3 (ranked 9 3) ∷ []) (0 ∷ 1 ∷ 2 ∷ []) (receive 0) 1 2
    ∷ takes (ranked 1 1 ∷ ranked 2 2 ∷ of_rank 9 (receive 1) ∷ []) (0 ∷ 1 ∷ 2 ∷ []) (receive 0) 1 2
    ∷ case
    (makes 3 ∷ map Do (meet_calls (ranked 1 1 ∷ ranked 2 2 ∷ of_rank 9 (sends 2 (wholes 3)) ∷ []) (0 ∷ 1 ∷ 2 ∷ []) (receive 0)))
    (made ∷ meet_says (0 ∷ 1 ∷ 2 ∷ []) 1 Message.Nothing (wholes 2))
    -- the own guard's rank is not compared, whether between the others or above them
    ∷ takes figures (0 ∷ 1 ∷ []) (of_rank 5 (receive 0)) 1 17
    ∷ takes figures (0 ∷ 1 ∷ []) (of_rank 255 (receive 0)) 1 17
    -- "The scanning side still goes by list order.": processes 1 and 2 wait, and 0 meets the one that its first guard names
    ∷ case
    (makes 3 ∷ map Do (Offer 1 (receive 0 ∷ []) ∷ replicate 5 (Step 1) ++ Offer 2 (receive 0 ∷ []) ∷ replicate 5 (Step 2) ++ Offer 0 (ranked 0 184 ∷ of_rank 9 (sends 2 (wholes 17)) ∷ []) ∷ replicate 4 (Step 0) ++ Collect 0 ∷ []))
    (made ∷ ticket 0 ∷ at "A" (Some 0) ∷ at "P" None ∷ at "O" None ∷ at "H" None ∷ at "W" None
    ∷ ticket 1 ∷ at "A" (Some 0) ∷ at "P" None ∷ at "O" None ∷ at "H" None ∷ at "W" None
    ∷ ticket 2 ∷ at "A" (Some 0) ∷ at "T" (Some 0) ∷ at "C" (Some 0) ∷ at "M" None ∷ outcome 0 1 Message.Nothing ∷ [])
    -- and so with two guards to one partner
    ∷ case
    (makes 2 ∷ map Do (Offer 1 (receive 0 ∷ []) ∷ replicate 5 (Step 1) ++ Offer 0 figures ∷ replicate 4 (Step 0) ++ Step 1 ∷ Collect 1 ∷ []))
    (made ∷ ticket 0 ∷ at "A" (Some 0) ∷ at "P" None ∷ at "O" None ∷ at "H" None ∷ at "W" None
    ∷ ticket 1 ∷ at "A" (Some 0) ∷ at "T" (Some 0) ∷ at "C" (Some 0) ∷ at "M" None ∷ at "M" None ∷ outcome 0 0 (wholes 184) ∷ [])
    -- no refusal looks at a rank: 3, 4, 5 and 6
    ∷ case
    (makes 2 ∷ map Do (Offer 0 (replicate 9 (of_rank 255 (receive 1))) ∷ Offer 0 (of_rank 255 (receive 0) ∷ []) ∷ Offer 0 (of_rank 255 (send 1 0x7fc00000) ∷ []) ∷ Offer 0 (of_rank 255 (disabled 1) ∷ []) ∷ Offer 0 (of_rank 255 (receive 1) ∷ []) ∷ []))
    (made ∷ refusal 3 ∷ refusal 4 ∷ refusal 5 ∷ refusal 6 ∷ ticket 0 ∷ [])
    ∷ []

-- the rendezvous of the alarm, by the tables and by the book: guard 0 of process 1 with guard 1 of process 0
abbrev alarm_calls : List Call
alarm_calls = meet_calls figures (0 ∷ 1 ∷ []) (receive 0)

abbrev alarm_run : List Moment
alarm_run = Joined (record { id_p = 1; id_q = 0; p = 1; i = 0; q = 0; j = 1; message = wholes 17 }) ∷ []

pub record RankCases : Type 0 where
  pub cases : Hold stories
  pub made_run : made_by_all tables (fresh_table 2 1) alarm_calls ≡ alarm_run
  pub book_run : ◌>>=◌ (book_after_all tables (fresh_table 2 1) empty_history alarm_calls) (λ b. Some b.run) ≡ Some alarm_run
