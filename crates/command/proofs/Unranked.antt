-- Fields and lines without a `^` are read as before there were ranks, and offer guards of rank 0 alone.
use Rattle.std.specs.Prelude.{Option, Some, None}
use Prim.Native.Nat.{ℕ, zero, suc}
use Prim.Native.Char.{code}
use mathlib.Core.Path.{◌≡◌, refl, sym, ◌∙◌, subst}
use mathlib.Core.Bool.{Bool, true, false, cond}
use mathlib.Core.List.{List, [], ◌∷◌}
use lib.Dec.{eqb}
use Rattle.alternative.specs.Ranks.{AllOfRank}
use Rattle.text.specs.Types.{◌>>=◌}
use Rattle.text.specs.Reading.{provided, byte_number}
use Rattle.command.specs.Types.{Guard, Offer, Step, Collect, Withdraw, Command, New, Do, Movers}
use Rattle.command.specs.Commands.{put_before, fields, is_empty, guard_in, guards_in, number_in, offer_in, nap_in, new_in, numbered, by_letter, command_in, command_of}
use Rattle.command.specs.KindLeftOut.{Lacks}
use Rattle.command.specs.RankLeftOut.{EachLacks, kinded_guards_in, RankLeftOut}
use Rattle.command.proofs.LeftOut.{kind-left-out, rank-as-before, rank-zero}

put-lacks : (c b : ℕ) (fs : List (List ℕ)) → (b ≡ c → ⊥) → EachLacks c fs → EachLacks c (put_before b fs)
put-lacks c b [] h e = ((h, tt), tt)
put-lacks c b (f ∷ fs) h e = ((h, e.0), e.1)

fields-lack : (c : ℕ) (bs : List ℕ) → Lacks c bs → EachLacks c (fields bs)
unfolding fields
fields-lack c [] h = (tt, tt)
fields-lack c (b ∷ bs) h = go (eqb b (code " ")) (fields-lack c bs h.1)
  where
    go : (t : Bool) → EachLacks c (fields bs) → EachLacks c (cond t ([] ∷ fields bs) (put_before b (fields bs)))
    go true rest = (tt, rest)
    go false rest = put-lacks c b (fields bs) h.0 rest

guards-as-before : (fs : List (List ℕ)) → EachLacks (code "^") fs → guards_in fs ≡ kinded_guards_in fs
unfolding guards_in
guards-as-before [] lacks = refl
guards-as-before (f ∷ fs) lacks = rw (rank-as-before f lacks.0, guards-as-before fs lacks.1)

-- the guards, if any are read, have rank 0
abbrev Bare : Option (List Guard) → Type 0
Bare None = Unit {0}
Bare (Some gs) = AllOfRank 0 gs

bare-more : (g : Guard) (gs : List Guard) → g.rank ≡ 0 → AllOfRank 0 gs → AllOfRank 0 (g ∷ gs)
bare-more g gs a b zero h e = subst (λ (o : Option Guard). rank_in o ≡ 0) e a
  where
    rank_in : Option Guard → ℕ
    rank_in None = 0
    rank_in (Some f) = f.rank
bare-more g gs a b (suc k) h e = b k h e

guards-bare : (fs : List (List ℕ)) → EachLacks (code "^") fs → Bare (guards_in fs)
unfolding guards_in
guards-bare [] lacks = λ k h e. cc
guards-bare (f ∷ fs) lacks = go (guard_in f) (λ g e. rank-zero f g (sym (rank-as-before f lacks.0) ∙ e)) (guards_in fs) (guards-bare fs lacks.1)
  where
    go : (first : Option Guard) → ((g : Guard) → first ≡ Some g → g.rank ≡ 0) → (rest : Option (List Guard)) → Bare rest → Bare (◌>>=◌ first (λ g. ◌>>=◌ rest (λ gs. Some (g ∷ gs))))
    go None a rest b = tt
    go (Some g) a None b = tt
    go (Some g) a (Some gs) b = bare-more g gs (a g refl) b

-- the guards of an offer, if the command is one, have rank 0
abbrev pub BareOffer : Option Command → Type 0
BareOffer c = (p : ℕ) (gs : List Guard) → c ≡ Some (Do (Offer p gs)) → AllOfRank 0 gs

none_bare : BareOffer None
none_bare p gs e k h f = cc

offer-bare : (fs : List (List ℕ)) → EachLacks (code "^") fs → BareOffer (offer_in fs)
unfolding offer_in
offer-bare [] lacks = none_bare
offer-bare (f ∷ fs) lacks = go (byte_number f) (guards_in fs) (guards-bare fs lacks.1)
  where
    go : (p : Option ℕ) (gs : Option (List Guard)) → Bare gs → BareOffer (◌>>=◌ p (λ p. ◌>>=◌ gs (λ gs. Some (Do (Offer p gs)))))
    go None gs b = none_bare
    go (Some p) None b = none_bare
    go (Some p) (Some gs) b = λ q hs e k h f. let same : gs ≡ hs = cc in b k h (rw same f)

new-bare : (fs : List (List ℕ)) → BareOffer (new_in fs)
unfolding new_in
new-bare [] = none_bare
new-bare (f ∷ fs) = go (byte_number f) (nap_in fs)
  where
    go : (n d : Option ℕ) → BareOffer (◌>>=◌ n (λ n. ◌>>=◌ d (λ d. Some (New n d))))
    go None d = none_bare
    go (Some n) None = none_bare
    go (Some n) (Some d) = λ p gs e k h f. cc

numbered-bare : (make : ℕ → Command) → ((p : ℕ) → BareOffer (Some (make p))) → (fs : List (List ℕ)) → BareOffer (numbered make fs)
unfolding numbered
numbered-bare make h fs = go (number_in fs)
  where
    go : (p : Option ℕ) → BareOffer (◌>>=◌ p (λ p. Some (make p)))
    go None = none_bare
    go (Some p) = h p

-- by the two values of a test
either : (b : Bool) {x y : Option Command} → BareOffer x → BareOffer y → BareOffer (cond b x y)
either true h k = h
either false h k = k

movers-bare : (b : Bool) → BareOffer (provided b Movers)
movers-bare true = λ p gs e k h f. cc
movers-bare false = none_bare

letter-bare : (k : ℕ) (fs : List (List ℕ)) → EachLacks (code "^") fs → BareOffer (by_letter k fs)
unfolding by_letter
letter-bare k fs lacks =
    either (eqb k (code "n")) (new-bare fs)
    (either (eqb k (code "o")) (offer-bare fs lacks)
    (either (eqb k (code "s")) (numbered-bare (λ p. Do (Step p)) (λ n p gs e k h f. cc) fs)
    (either (eqb k (code "c")) (numbered-bare (λ p. Do (Collect p)) (λ n p gs e k h f. cc) fs)
    (either (eqb k (code "w")) (numbered-bare (λ p. Do (Withdraw p)) (λ n p gs e k h f. cc) fs)
    (either (eqb k (code "m")) (movers-bare (is_empty fs)) none_bare)))))

command-bare : (fs : List (List ℕ)) → EachLacks (code "^") fs → BareOffer (command_in fs)
unfolding command_in
command-bare [] lacks = none_bare
command-bare ([] ∷ fs) lacks = none_bare
command-bare ((k ∷ []) ∷ fs) lacks = letter-bare k fs lacks.1
command-bare ((k ∷ b ∷ bs) ∷ fs) lacks = none_bare

pub rank-left-out : RankLeftOut
unfolding command_of
rank-left-out = record {
  as_before = rank-as-before;
  plain = λ field no-rank no_kind. rank-as-before field no-rank ∙ kind-left-out.as_before field no_kind;
  guards = guards-as-before;
  zero = rank-zero;
  lines = λ line p gs lacks. command-bare (fields line) (fields-lack (code "^") line lacks) p gs;
}
