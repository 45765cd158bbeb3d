-- The record of a process whose offer is accepted: its guards one after another into blank slots, then its ticket, its count and its place.
use Prim.Native.Nat.{ℕ, ◌+◌, ◌^◌, ◌≤◌, ◌<◌}
use mathlib.Core.Path.{◌≡◌, refl, sym, ap, ◌∙◌}
use mathlib.Core.List.{List, [], append-nil}
use native.Mathlib.Omega.{arith}
use native.Mathlib.Numerals.{add-one}
use lib.ListN.{length, get_or, set, take}
use lib.Seq.{sets, take-suc, length-take-le}
use mir.Val.{Val}
use denote.Shadow.{shadow}
use denote.Struct.Declared as declared
use Rattle.process.specs.contracts.TransactionId as transaction-id
use Rattle.alternative.specs.Guards.{blank, slots}
use Rattle.wire.specs.Reading.{word_of}
use Rattle.wire.specs.Writing.{word_bytes}
use Rattle.wire.proofs.Back.{word_back}
use Rattle.wire.proofs.Lengths.{word-length}
use Rattle.records.proofs.Blanks.{slots-more}
use Rattle.rendezvous.specs.Calls.{entering}
use Rattle.records.specs.Types.{Guard, GuardList, TransactionId, Place, Process}
use Rattle.records.specs.Layout.{part}
use Rattle.records.specs.Reading.{place_of, signal_of, process_of}
use Rattle.records.specs.Private.{with_guards, with_guard}
use Rattle.records.proofs.Cuts.{Wrote, part-before, part-after, byte-before, wrote-sets}
use Rattle.records.proofs.Records.{heads}

module _ (r₀ : List ℕ) (gs : List Guard) where
  -- the record r₀ with the first k of the new guards
  abbrev pub Filled : List ℕ → ℕ → Type 0
  Filled r k = process_of r ≡ with_guards (process_of r₀) (slots (take k gs))

  -- one guard more
  pub filled_more : (r r' : List ℕ) (k : ℕ) → k < length gs → k < 8 → Filled r k → process_of r' ≡ with_guard (process_of r) k (get_or gs k blank) → Filled r' (k + 1)
  filled_more r r' k n h e w =
      w ∙ ap (λ (x : Process). with_guard x k (get_or gs k blank)) e
      ∙ ap (with_guards (process_of r₀)) (slots-more (take k gs) k (get_or gs k blank) (length-take-le k gs (omega arith)) h ∙ ap slots (sym (take-suc gs k blank n)) ∙ ap (λ (i : ℕ). slots (take i gs)) (sym (add-one k)))

-- a record at E with another ticket and count
abbrev at_entry : Process → TransactionId → ℕ → Process
at_entry x ticket count = record { place = Place.Entering; signal = x.signal; transaction = ticket; accepting = x.accepting; count = count; altcount = x.altcount; guards = x.guards; altlist = x.altlist }

-- a ticket that the code holds has 32 bits
pub ticket-held : (t : TransactionId) (vs : List Val) → shadow ((declared.row transaction-id.the_type).own_val t vs) → t.0 < 2 ^ 32
ticket-held t vs h = search

-- the head, after the ticket
entry-head : (n : ℕ) (r : List ℕ) → 8 ≤ length r → process_of (set (set r 5 n) 0 1) ≡ at_entry (process_of r) (record { 0 = word_of (part r 24 4) }) n
unfolding process_of place_of signal_of
entry-head n = heads (λ r. process_of (set (set r 5 n) 0 1) ≡ at_entry (process_of r) (record { 0 = word_of (part r 24 4) }) n) (λ a b c d e f g h rest. refl)

module _ (r r₁ : List ℕ) (ticket : TransactionId) (fits : ticket.0 < 2 ^ 32) (vs : List ℕ) (spelt : vs ≡ word_bytes ticket.0) (room : 256 ≤ length r) (written : r₁ ≡ sets r 24 vs) where
  -- the ticket's word is read back
  ticket-put : Wrote r r₁ 24 4 vs
  ticket-put = wrote-sets r 24 4 vs r₁ (ap length spelt ∙ word-length ticket.0) (omega arith) written

  ticket-there : word_of (part r₁ 24 4) ≡ ticket.0
  ticket-there = ap word_of (ticket-put.there ∙ spelt ∙ sym (append-nil (word_bytes ticket.0))) ∙ word_back ticket.0 fits []

  -- all but the ticket is as it was
  entry-rest : at_entry (process_of r₁) ticket ≡ at_entry (process_of r) ticket
  unfolding process_of signal_of
  entry-rest =
      let w = ticket-put in
      rw (byte-before w 3 (omega arith), byte-before w 4 (omega arith), byte-before w 6 (omega arith), byte-before w 7 (omega arith), part-before w 8 8 (omega arith), part-before w 16 8 (omega arith), part-after w 37 9 (omega arith), part-after w 48 104 (omega arith), part-after w 152 104 (omega arith))

  -- the whole record, once the guards are those of the list
  pub entered-is : (x : Process) (list : GuardList) → process_of r ≡ with_guards x (slots (take list.count list.guards)) → process_of (set (set r₁ 5 list.count) 0 1) ≡ entering x ticket list
  unfolding entering
  entered-is x list h =
      entry-head list.count r₁ (omega (arith, ticket-put.long))
      ∙ ap (λ (t : ℕ). at_entry (process_of r₁) (record { 0 = t }) list.count) ticket-there
      ∙ ap (λ (f : ℕ → Process). f list.count) entry-rest
      ∙ ap (λ (y : Process). at_entry y ticket list.count) h
