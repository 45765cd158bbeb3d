-- The records of a table as a function of the process number, and what a new entry for one number leaves of such a function.
use Prim.Native.Nat.{ℕ, ◌≤◌, ◌<◌}
use mathlib.Core.Path.{◌≡◌, refl, sym, ◌∙◌, fun_ext}
use mathlib.Core.Bool.{Bool, true, false, cond}
use lib.ListN.{length}
use lib.Seq.{get_or-set_same, get_or-set_other}
use lib.Dec.{eqb, ltb}
use borrow.Author.Tests.{eqb-true, eqb-false, eq-eqb, ne_eqb, ltb-true, ltb-false}
use Rattle.process.specs.declared.Process.{Process}
use Rattle.rendezvous.specs.declared.ProcessTable.{ProcessTable}
use Rattle.process.specs.Process.{nobody}
use Rattle.rendezvous.specs.Table.{process, put}
use Rattle.process.specs.Rules.{Effect, Neither, Own, Both}
use Rattle.history.specs.Book.{entered_for}

-- the two cases of an order
pub split : {A : Type 0} (m n : ℕ) → (m < n → A) → (n ≤ m → A) → A
split {A} m n f g = go (ltb m n) refl
  where
    go : (b : Bool) → ltb m n ≡ b → A
    go true e = f (ltb-true m n e)
    go false e = g (ltb-false m n e)

abbrev pub View : Type 0
View = ℕ → Process

abbrev pub upd : View → ℕ → Process → View
upd v p x = entered_for p x v

-- the view after a rule for p, whose partner is q
abbrev pub effected : View → ℕ → ℕ → Effect → View
effected v p q Neither = v
effected v p q (Own x) = upd v p x
effected v p q (Both x y) = upd (upd v q y) p x

pub upd_same : (v : View) (p : ℕ) (x : Process) → upd v p x p ≡ x
upd_same v p x = rw (eq-eqb p p refl) refl

pub upd_other : (v : View) (p : ℕ) (x : Process) (q : ℕ) → (q ≡ p → ⊥) → upd v p x q ≡ v q
upd_other v p x q h = rw (ne_eqb q p h)

-- a fact of what stands for each process, in a view or a book
pub entered-each : {A : Type 0} (F : ℕ → A → Type 0) (old : ℕ → A) (p : ℕ) (a : A) → F p a → ((q : ℕ) → (q ≡ p → ⊥) → F q (old q)) → (q : ℕ) → F q (entered_for p a old q)
entered-each F old p a new rest q = go (eqb q p) refl
  where
    go : (b : Bool) → eqb q p ≡ b → F q (cond b a (old q))
    go true e = rw (eqb-true q p e) new
    go false e = rest q (eqb-false q p e)

-- a fact of each two processes
pub upd-pair : (R : ℕ → ℕ → Process → Process → Type 0) (v : View) (p : ℕ) (x : Process)
    → ((q r : ℕ) → (q ≡ r → ⊥) → R q r (v q) (v r))
    → ((r : ℕ) → (r ≡ p → ⊥) → R p r x (v r))
    → ((q : ℕ) → (q ≡ p → ⊥) → R q p (v q) x)
    → (q r : ℕ) → (q ≡ r → ⊥) → R q r (upd v p x q) (upd v p x r)
upd-pair R v p x old l m q r ne = go (eqb q p) refl (eqb r p) refl
  where
    go : (b : Bool) → eqb q p ≡ b → (c : Bool) → eqb r p ≡ c → R q r (cond b x (v q)) (cond c x (v r))
    go true e true f = absurd (ne (eqb-true q p e ∙ sym (eqb-true r p f)))
    go true e false f = rw (eqb-true q p e) (l r (eqb-false r p f))
    go false e true f = rw (eqb-true r p f) (m q (eqb-false q p e))
    go false e false f = old q r ne

-- two updates at two processes, in either order
pub upd-comm : (v : View) (p q : ℕ) (x y : Process) → (p ≡ q → ⊥) → upd (upd v q y) p x ≡ upd (upd v p x) q y
upd-comm v p q x y ne = fun_ext (λ r. go r (eqb r p) refl (eqb r q) refl)
  where
    go : (r : ℕ) (b : Bool) → eqb r p ≡ b → (c : Bool) → eqb r q ≡ c → cond b x (cond c y (v r)) ≡ cond c y (cond b x (v r))
    go r true e true f = absurd (ne (sym (eqb-true r p e) ∙ eqb-true r q f))
    go r true e false f = refl
    go r false e true f = refl
    go r false e false f = refl

-- a record put into the table is an update of its view
pub put_view : (t : ProcessTable) (p : ℕ) (x : Process) → p < length t.processes → process (put t p x) ≡ upd (process t) p x
put_view t p x h = fun_ext (λ q. entered-each (λ q y. process (put t p x) q ≡ y) (process t) p x (get_or-set_same t.processes p x nobody h) (λ q ne. get_or-set_other t.processes p q x nobody ne) q)
