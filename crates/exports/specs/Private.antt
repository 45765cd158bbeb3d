-- Not to be believed: what inner contracts cite, of the table that messages go by way of for a test of their bits.
use Rattle.std.specs.Prelude.{◌-◌, ◌∷◌, None, Result, Ok, Err}
use Rattle.alternative.specs.Guards.{most_guards, blank}
use Rattle.process.specs.Process.{fresh_process}
use Rattle.rendezvous.specs.Table.{most_processes, fresh_head, with_next}
use Rattle.exports.specs.Types.{ℕ, true, List, replicate, Message, Action, Guard, Place, Process, ProcessTable, Answer}
use Rattle.rendezvous.specs.declared.Refusal.{Refusal}

abbrev pub on_other : ℕ → Action → Place → Process
on_other partner action place =
    let guards : List Guard = record { enabled = true; partner = partner; kind = 0; rank = 0; action = action } ∷ replicate (most_guards - 1) blank in
    record { place = place; signal = None; transaction = record { 0 = 0 }; accepting = true; count = 1; altcount = 1; guards = guards; altlist = guards }

-- three tickets for two offers: at P process 0 accepts already, so that after a commit its offer, then at O, is still among the open ones
abbrev pub facing : Place → Action → Action → ProcessTable
facing place first second =
    let processes = on_other 1 first place ∷ on_other 0 second (Place.Trying 0) ∷ replicate (most_processes - 2) fresh_process in
    record { head = with_next (fresh_head 2 1) 3; processes = processes }

abbrev pub collected_of : Result Answer Refusal → Message
collected_of (Ok (Answer.Collected i q m)) = m
collected_of (Ok Answer.Made) = Message.Nothing
collected_of (Ok (Answer.Offered t)) = Message.Nothing
collected_of (Ok (Answer.Moved place)) = Message.Nothing
collected_of (Ok Answer.Unchanged) = Message.Nothing
collected_of (Ok Answer.Withdrawn) = Message.Nothing
collected_of (Ok Answer.TooLate) = Message.Nothing
collected_of (Ok (Answer.Runnable set)) = Message.Nothing
collected_of (Err r) = Message.Nothing
