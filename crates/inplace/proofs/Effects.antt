-- The effect of a step, from the bytes of the records.
use Prim.Native.Nat.{ℕ, ◌+◌, ◌<◌}
use mathlib.Core.Path.{◌≡◌, ap, ◌∙◌}
use mathlib.Core.List.{List}
use native.Mathlib.Omega.{arith}
use lib.Dec.{ltb}
use Rattle.wire.specs.Reading.{byte, word_of, message_of}
use Rattle.process.specs.Process.{state_of}
use Rattle.process.specs.Rules.{scan, rule, rule_at, partner_of}
use Rattle.rendezvous.specs.Table.{process}
use Rattle.rendezvous.specs.Calls.{effect_on}
use Rattle.records.specs.Layout.{part}
use Rattle.records.specs.Reading.{place_by, place_of, process_of}
use Rattle.records.proofs.Ruled.{rule-by}
use Rattle.inplace.specs.Types.{Process}
use Rattle.inplace.specs.Layout.{record_start, record_bytes}
use Rattle.inplace.specs.Reading.{head_of, table_of}
use Rattle.inplace.specs.Private.{Ready, Paired}
use Rattle.inplace.proofs.Rows.{record-at, byte_of, row-part}
use Rattle.inplace.proofs.Ready.{below-most}

module _ (t : List ℕ) (p : ℕ) (ready : Ready t p) where
  -- at any place
  pub effect-at : (q : ℕ) → q ≡ partner_of (process (table_of t) p) → effect_on (table_of t) p ≡ rule (byte t 1) p (process_of (record_bytes t p)) q (process (table_of t) q)
  unfolding effect_on table_of head_of
  effect-at q e = rw (e, record-at t p (below-most t p ready))

  -- at A, T and C, where the guard names q
  pub effect-with : (q tag : ℕ) → q ≡ partner_of (process (table_of t) p) → q < 32 → byte t (record_start p + 0) ≡ tag
      → effect_on (table_of t) p ≡ rule_at (byte t 1) p (process_of (record_bytes t p)) q (process_of (record_bytes t q)) (place_by tag (byte (record_bytes t p) 1) (byte (record_bytes t p) 2) (message_of (part (record_bytes t p) 28 9)))
  effect-with q tag e h at =
      effect-at q e ∙ rule-by (byte t 1) p q (process (table_of t) q) (record_bytes t p) tag (byte_of t p 0 (omega arith) ∙ at)
      ∙ ap (λ (y : Process). rule_at (byte t 1) p (process_of (record_bytes t p)) q y (place_by tag (byte (record_bytes t p) 1) (byte (record_bytes t p) 2) (message_of (part (record_bytes t p) 28 9)))) (record-at t q h)

-- .. as `Paired` has it
module _ (t : List ℕ) (p q : ℕ) where
  abbrev x : List ℕ
  x = record_bytes t p

  abbrev y : List ℕ
  y = record_bytes t q

  -- rules 3 to 6
  pub scan-effect : Paired t p q 2
      → effect_on (table_of t) p ≡ scan (process_of x) (byte x 1) (state_of (place_by (byte t (record_start q + 0)) (byte y 1) (byte y 2) (message_of (part y 28 9)))) (ltb (word_of (part t (record_start q + 24) 4)) (word_of (part t (record_start p + 24) 4)))
  unfolding process_of place_of
  scan-effect h =
      effect-with t p h.2 q 2 h.4 h.1 h.3
      ∙ rw (byte_of t q 0 (omega arith), row-part t q 24 4 h.2.0 h.1 (omega arith), row-part t p 24 4 h.2.0 h.0 (omega arith))
