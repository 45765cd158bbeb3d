-- To be believed. Document 01, "The desk and its tasks" and rule 7, and CRs 2 and 5 of document 02: when guards and offers match, and the two searches in a list of guards.
use Rattle.std.specs.Prelude.{◌&&◌, ◌∷◌, ◌++◌, Option, Some, None}
use Rattle.std.specs.List.{list_any}
use Rattle.alternative.specs.Types.{ℕ, suc, Bool, true, false, not, cond, List, [], length, take, drop, replicate, eqb, ltb, Action, Guard, GuardList}

-- "its list of up to eight guards"
abbrev pub most_guards : ℕ
most_guards = 8

-- what stands in a slot of a guard array past the list's end
abbrev pub blank : Guard
blank = record { enabled = false; partner = 0; kind = 0; rank = 0; action = Action.Receive }

-- CR 2: "Each guard gets a kind, 0 to 255" (the code's `u8` holds no other): the guard g with kind k
abbrev pub of_kind : ℕ → Guard → Guard
of_kind k g = record { enabled = g.enabled; partner = g.partner; kind = k; rank = g.rank; action = g.action }

-- CR 5: "Each guard gets a rank, 0 to 255": the guard g with rank r
abbrev pub of_rank : ℕ → Guard → Guard
of_rank r g = record { enabled = g.enabled; partner = g.partner; kind = g.kind; rank = r; action = g.action }

-- "one sends while the other receives"
abbrev pub opposite : Action → Action → Bool
opposite Action.Receive Action.Receive = false
opposite Action.Receive (Action.Send m) = true
opposite (Action.Send m) Action.Receive = true
opposite (Action.Send m) (Action.Send k) = false

-- "Two guards match if both are enabled, each names the other's party, and one sends while the other receives.": g is a guard of p, h one of q
abbrev pub plain_match : ℕ → Guard → ℕ → Guard → Bool
plain_match p g q h = g.enabled && (h.enabled && (eqb g.partner q && (eqb h.partner p && opposite g.action h.action)))

-- CR 2: "two guards match only if their kinds are equal as well." And: ""Match" has this finer meaning wherever the mission uses it.": in offers that match, in rule 7's search and the
-- book's, which are `kept_match`, and in demand 3
unfoldable pub guards_match : ℕ → Guard → ℕ → Guard → Bool
guards_match p g q h = plain_match p g q h && eqb g.kind h.kind

-- a guard of the list passes the test
unfoldable pub any_guard : (Guard → Bool) → List Guard → Bool
any_guard test gs = list_any test gs

-- "Two offers match if a guard of one matches a guard of the other.": gs is offered by p, hs by q
unfoldable pub offers_match : ℕ → List Guard → ℕ → List Guard → Bool
offers_match p gs q hs = any_guard (λ g. any_guard (guards_match p g q) hs) gs

-- the first guard of a list that passes a test; the list's indexes start at k
unfoldable pub first_from : (Guard → Bool) → List Guard → ℕ → Option ℕ
first_from test [] k = None
first_from test (g ∷ gs) k = cond (test g) (Some k) (first_from test gs (suc k))

-- a guard of q's list hs that matches p's guard g ranks higher than h does
unfoldable pub outranked : ℕ → Guard → ℕ → List Guard → Guard → Bool
outranked p g q hs h = any_guard (λ k. guards_match p g q k && ltb h.rank k.rank) hs

-- CR 5: "In rule 7 the kept guard is, of all matching ones in the partner's posted list, the one of greatest rank, the first among equals.": the first guard of q's list hs that
-- matches p's guard g and that no matching one outranks
unfoldable pub kept_match : ℕ → Guard → ℕ → List Guard → Option ℕ
kept_match p g q hs = first_from (λ h. guards_match p g q h && not (outranked p g q hs h)) hs 0

-- the first enabled guard of a list at or after index k: CR 5, "The scanning side still goes by list order."
unfoldable pub next_enabled : List Guard → ℕ → Option ℕ
next_enabled gs k = first_from (λ g. g.enabled) (drop k gs) k

-- the slots that hold a list: its guards, then blanks
unfoldable pub slots : List Guard → List Guard
slots gs = take most_guards (gs ++ replicate most_guards blank)

-- a guard list as its task lends it, of any length
unfoldable pub lent : List Guard → GuardList
lent gs = record { count = length gs; guards = slots gs }
