-- To be believed. The bytes of a record, read: any bytes are a record. Too few are read as if zeros followed. A tag past the last variant's is read as the last variant, and any byte but 0 as true.
use Rattle.std.specs.Prelude.{◌+◌, ◌*◌, ◌∷◌, Option, Some, None}
use Rattle.wire.specs.Layout.{word_length, message_length}
use Rattle.wire.specs.Reading.{byte, word_of, message_of}
use Rattle.alternative.specs.Guards.{most_guards}
use Rattle.records.specs.Types.{ℕ, zero, suc, not, List, [], get_or, eqb, Message, Action, Guard, Place, Process}
use Rattle.records.specs.Layout.{part, place_at, index_at, kept_at, signal_at, signal_index_at, count_at, altcount_at, accepting_at, partners_at, posted_partners_at, ticket_at, outcome_at, signalled_at, own_at, posted_at, sends_in, kinds_in, ranks_in, messages_in, rest_length}

-- f from, f (from + 1), .., so many
unfoldable pub values : {A : Type 0} → (ℕ → A) → ℕ → ℕ → List A
values f from zero = []
values f from (suc count) = f from ∷ values f (suc from) count

-- guard k of a list, from its partners and its rest
unfoldable pub action_of : List ℕ → ℕ → Action
action_of rest k = get_or (Action.Receive ∷ []) (byte rest (sends_in + k)) (Action.Send (message_of (part rest (messages_in + message_length * k) message_length)))

unfoldable pub guard_of : List ℕ → List ℕ → ℕ → Guard
guard_of partners rest k = record {
  enabled = not (eqb (byte rest k) 0);
  partner = byte partners k;
  kind = byte rest (kinds_in + k);
  rank = byte rest (ranks_in + k);
  action = action_of rest k;
}

unfoldable pub guards_of : List ℕ → List ℕ → List Guard
guards_of partners rest = values (guard_of partners rest) 0 most_guards

-- the list whose partners stand from byte a on, and the rest from byte b on
abbrev pub guards_at : List ℕ → ℕ → ℕ → List Guard
guards_at r a b = guards_of (part r a most_guards) (part r b rest_length)

abbrev pub place_by : ℕ → ℕ → ℕ → Message → Place
place_by tag i j m =
    get_or (Place.Idle ∷ Place.Entering ∷ Place.Scanning i ∷ Place.Trying i ∷ Place.Committed i j ∷ Place.Posting ∷ Place.Opening ∷ Place.Showing ∷ Place.Asleep i ∷ Place.Waiting ∷ []) tag (Place.Met i m)

unfoldable pub place_of : List ℕ → Place
place_of r = place_by (byte r place_at) (byte r index_at) (byte r kept_at) (message_of (part r outcome_at message_length))

abbrev pub signal_by : ℕ → ℕ → Message → Option (ℕ × Message)
signal_by tag i m = get_or (None ∷ []) tag (Some (i, m))

unfoldable pub signal_of : List ℕ → Option (ℕ × Message)
signal_of r = signal_by (byte r signal_at) (byte r signal_index_at) (message_of (part r signalled_at message_length))

unfoldable pub process_of : List ℕ → Process
process_of r = record {
  place = place_of r;
  signal = signal_of r;
  transaction = record { 0 = word_of (part r ticket_at word_length) };
  accepting = not (eqb (byte r accepting_at) 0);
  count = byte r count_at;
  altcount = byte r altcount_at;
  guards = guards_at r partners_at own_at;
  altlist = guards_at r posted_partners_at posted_at;
}
