-- To be believed. Document 01, "What turns a call away", refusal 7, and CR 3 of document 02: what it asks of each record. The quoted conditions are those that fail.
use Rattle.std.specs.Prelude.{◌&&◌, Option, Some, None}
use Rattle.std.specs.List.{list_all}
use Rattle.alternative.specs.Guards.{most_guards}
use Rattle.process.specs.Process.{carried}
use Rattle.process.specs.Types.{ℕ, Bool, true, not, List, take, eqb, ltb, leb, Guard, Place, Process}
use Rattle.alternative.specs.declared.Message.{Message}

-- every guard of a list passes a test
unfoldable pub all_guards : (Guard → Bool) → List Guard → Bool
all_guards test gs = list_all test gs

-- not "a guard names its own party or one not below n"
unfoldable pub partner_fits : ℕ → ℕ → Guard → Bool
partner_fits n p g = not (eqb g.partner p) && ltb g.partner n

-- not "a list or posted list has over eight guards", and each of them fits
unfoldable pub list_fits : ℕ → ℕ → ℕ → List Guard → Bool
list_fits n p count guards = leb count most_guards && all_guards (partner_fits n p) (take count guards)

-- not "the index in .. a signal .. has no guard in that party's own list", a list of count guards
abbrev pub signal_fits : ℕ → Option (ℕ × Message) → Bool
signal_fits count None = true
signal_fits count (Some (j, m)) = ltb j count

-- not "the index in A, T, C, .. or an outcome has no guard in that party's own list (not the posted one), or a kept index none in the partner's posted list", a list
-- of partner_posted guards; and, by CR 3, not "a sleeper that has made d or more steps at S"
abbrev pub place_fits : ℕ → ℕ → ℕ → Place → Bool
place_fits d count partner_posted place = carried true (λ i. ltb i count) (λ i j. ltb i count && ltb j partner_posted) (λ s. ltb s d) (λ i m. ltb i count) place

-- process p with record x, in a table of n with nap length d; the process that its guard names at C has posted partner_posted guards
unfoldable pub process_fits : ℕ → ℕ → ℕ → Process → ℕ → Bool
process_fits n d p x partner_posted =
    list_fits n p x.count x.guards
    && (list_fits n p x.altcount x.altlist
    && (signal_fits x.count x.signal
    && place_fits d x.count partner_posted x.place))
