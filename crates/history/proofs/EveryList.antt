-- The one induction over calls: on any machine whose calls the book follows, one by one, the claim of demand 3 holds of every list of them.
use Rattle.std.specs.Prelude.{Some}
use Prim.Native.Nat.{ℕ}
use mathlib.Core.Path.{◌≡◌, refl, sym, ◌∙◌, subst}
use mathlib.Core.Bool.{false}
use mathlib.Core.List.{List, [], ◌∷◌, ◌++◌, append-nil, append_assoc, append_cancel_left}
use Rattle.std.proofs.lemmas.Option.{same_Some}
use Rattle.alternative.specs.Guards.{offers_match}
use Rattle.rendezvous.specs.Numbers.{Said}
use Rattle.rendezvous.specs.Run.{Call, after_all}
use Rattle.history.specs.Book.{Transaction, Rendezvous, Moment, Joined, History, seen, enter}
use Rattle.history.specs.Machine.{Machine, book_after_all, made_by_all, EachCall}
use Rattle.history.specs.Demand3.{Joins, EntryJoins, TicketIsNext, OutcomeWasDue, ids_of, AllDiffer, Claim}

-- The book b follows a call that says this and makes these moments: it is not stuck, it has the moments, ticket or outcome of the call, and R holds of the book after it.
pub record Follows (b : History) (c : Call) (says : Said) (makes : List Moment) (R : History → Type 0) : Type 0 where
  pub after : History
  pub entered : enter b c (seen says) ≡ Some after
  pub run : after.run ≡ b.run ++ makes
  pub joins : (r : Rendezvous) → makes ≡ Joined r ∷ [] → Joins b r
  pub ticket : TicketIsNext b c says after
  pub outcome : OutcomeWasDue b c says after
  pub goes_on : R after

-- on a machine from state s, where R relates states and books
abbrev pub FollowsOn : (m : Machine) → (m.State → History → Type 0) → m.State → History → Call → Type 0
FollowsOn m R s b c = Follows b c (m.says s c) (m.makes s c) (R (m.after s c))

-- what the claim says of a state and its book, after the last call
pub record Ends (m : Machine) (s : m.State) (b : History) : Type 0 where
  pub once : AllDiffer (ids_of b.run)
  pub opens : (p : ℕ) → m.opened s p ≡ b.opened p
  pub rests : m.Rests s → (p q : ℕ) (o r : Transaction) → (p ≡ q → ⊥) → m.opened s p ≡ Some o → m.opened s q ≡ Some r → offers_match p o.guards q r.guards ≡ false

-- of a list of calls: what the claim says of each, and R after the last
pub record Reaches (m : Machine) (R : m.State → History → Type 0) (s : m.State) (b : History) (calls : List Call) : Type 0 where
  pub book : History
  pub never_stuck : book_after_all m s b calls ≡ Some book
  pub related : R (after_all m.after s calls) book
  pub run : book.run ≡ b.run ++ made_by_all m s calls
  pub joins : EachCall m EntryJoins s b calls
  pub tickets : EachCall m TicketIsNext s b calls
  pub collections : EachCall m OutcomeWasDue s b calls

-- a fact of the first call and of the others, which go on from the book that the first one leaves
each-call : (m : Machine) (Fact : History → Call → Said → History → Type 0) (s : m.State) (b : History) (c : Call) (cs : List Call) (after : History)
    → enter b c (seen (m.says s c)) ≡ Some after → Fact b c (m.says s c) after → EachCall m Fact (m.after s c) after cs → EachCall m Fact s b (c ∷ cs)
unfolding EachCall
each-call m Fact s b c cs after e first rest other f =
    subst (λ (h : History). Fact b c (m.says s c) h × EachCall m Fact (m.after s c) h cs) (same_Some after other (sym e ∙ f)) (first, rest)

module _ (m : Machine) (R : m.State → History → Type 0) (follows : (s : m.State) (b : History) → R s b → (c : Call) → FollowsOn m R s b c) where
  pub reaches : (s : m.State) (b : History) → R s b → (calls : List Call) → Reaches m R s b calls
  unfolding book_after_all made_by_all EachCall after_all
  reaches s b r [] = record { book = b; never_stuck = refl; related = r; run = sym (append-nil b.run); joins = tt; tickets = tt; collections = tt }
  reaches s b r (c ∷ cs) =
      let f = follows s b r c in
      let rest = reaches (m.after s c) f.after f.goes_on cs in
      record {
        book = rest.book;
        never_stuck = rw f.entered rest.never_stuck;
        related = rest.related;
        run = rest.run ∙ rw (f.run, append_assoc);
        joins = each-call m EntryJoins s b c cs f.after f.entered (λ r e. f.joins r (append_cancel_left b.run (m.makes s c) (Joined r ∷ []) (sym f.run ∙ e))) rest.joins;
        tickets = each-call m TicketIsNext s b c cs f.after f.entered f.ticket rest.tickets;
        collections = each-call m OutcomeWasDue s b c cs f.after f.entered f.outcome rest.collections;
      }

  pub claim-from : ((s : m.State) (b : History) → R s b → Ends m s b) → (s : m.State) (b : History) → R s b → (calls : List Call) → Claim m s b calls
  claim-from ends s b r calls =
      let c = reaches s b r calls in
      let e = ends _ c.book c.related in
      record {
        book = c.book;
        never_stuck = c.never_stuck;
        run = c.run;
        joins = c.joins;
        once = e.once;
        tickets = c.tickets;
        collections = c.collections;
        opens = e.opens;
        rests = e.rests;
      }
