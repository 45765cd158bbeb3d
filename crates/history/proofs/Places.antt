-- Proof by the cases of a place: what the word of a process, its wake count and the invariant say of where it is.
use Rattle.std.specs.Prelude.{Option, Some, None}
use Prim.Native.Nat.{ℕ}
use mathlib.Core.Path.{◌≡◌, refl, sym, ◌∙◌, subst⁻¹}
use mathlib.Core.List.{List}
use mathlib.Core.Bool.{Bool, true, false, false≢true}
use native.Mathlib.Omega.{arith}
use Rattle.alternative.specs.declared.Message.{Message}
use Rattle.alternative.specs.declared.Guard.{Guard}
use Rattle.process.specs.declared.Place.{Place}
use Rattle.process.specs.Process.{is_idle, open_at}
use Rattle.process.proofs.PlaceCases.{if-committed}
use Rattle.history.proofs.Invariant.{Commits, Shows, Quiet, Waits, Fine}

-- a fact of H and W holds where a process shows its list
pub shows-elim : (P : Place → Type 0) → P Place.Showing → P Place.Waiting → (pl : Place) → Shows pl → P pl
shows-elim P a b Place.Idle s = absurd s
shows-elim P a b Place.Entering s = absurd s
shows-elim P a b (Place.Scanning i) s = absurd s
shows-elim P a b (Place.Trying i) s = absurd s
shows-elim P a b (Place.Committed i j) s = absurd s
shows-elim P a b Place.Posting s = absurd s
shows-elim P a b Place.Opening s = absurd s
shows-elim P a b Place.Showing s = a
shows-elim P a b (Place.Asleep k) s = absurd s
shows-elim P a b Place.Waiting s = b
shows-elim P a b (Place.Met i m) s = absurd s

-- a fact of C
pub commits-elim : (P : Place → Type 0) → ((i j : ℕ) → P (Place.Committed i j)) → (pl : Place) (a b : ℕ) → Commits pl a b → P pl
commits-elim P f pl a b = if-committed (λ X. X → P pl) ⊥ _ pl (λ i j e _. subst⁻¹ P e (f i j)) absurd

-- a fact of W
pub waits-elim : (P : Place → Type 0) → P Place.Waiting → (pl : Place) → Waits pl → P pl
waits-elim P a Place.Idle w = absurd w
waits-elim P a Place.Entering w = absurd w
waits-elim P a (Place.Scanning i) w = absurd w
waits-elim P a (Place.Trying i) w = absurd w
waits-elim P a (Place.Committed i j) w = absurd w
waits-elim P a Place.Posting w = absurd w
waits-elim P a Place.Opening w = absurd w
waits-elim P a Place.Showing w = absurd w
waits-elim P a (Place.Asleep s) w = absurd w
waits-elim P a Place.Waiting w = a
waits-elim P a (Place.Met i m) w = absurd w

-- a fact of the places that rule 3 passes
pub quiet-elim : (P : Place → Type 0) → P Place.Idle → P Place.Entering → ((s : ℕ) → P (Place.Asleep s)) → ((i : ℕ) (m : Message) → P (Place.Met i m)) → (pl : Place) → Quiet pl → P pl
quiet-elim P a b c d Place.Idle q = a
quiet-elim P a b c d Place.Entering q = b
quiet-elim P a b c d (Place.Scanning i) q = absurd q
quiet-elim P a b c d (Place.Trying i) q = absurd q
quiet-elim P a b c d (Place.Committed i j) q = absurd q
quiet-elim P a b c d Place.Posting q = absurd q
quiet-elim P a b c d Place.Opening q = absurd q
quiet-elim P a b c d Place.Showing q = absurd q
quiet-elim P a b c d (Place.Asleep s) q = c s
quiet-elim P a b c d Place.Waiting q = absurd q
quiet-elim P a b c d (Place.Met i m) q = d i m

-- wake count 0 is met at H and W alone
pub accepting-shows : (pl : Place) (gs hs : List Guard) (accepting : Bool) (signal : Option (ℕ × Message)) → Fine pl gs hs accepting signal → accepting ≡ true → Shows pl
accepting-shows Place.Idle gs hs a s f e = false≢true (sym f.0 ∙ e)
accepting-shows Place.Entering gs hs a s f e = false≢true (sym f.0 ∙ e)
accepting-shows (Place.Scanning i) gs hs a s f e = false≢true (sym f.0 ∙ e)
accepting-shows (Place.Trying i) gs hs a s f e = false≢true (sym f.0 ∙ e)
accepting-shows (Place.Committed i j) gs hs a s f e = false≢true (sym f.0 ∙ e)
accepting-shows Place.Posting gs hs a s f e = false≢true (sym f.0 ∙ e)
accepting-shows Place.Opening gs hs a s f e = false≢true (sym f.0.0 ∙ e)
accepting-shows Place.Showing gs hs a s f e = tt
accepting-shows (Place.Asleep k) gs hs a s f e = false≢true (sym f.0 ∙ e)
accepting-shows Place.Waiting gs hs a s f e = tt
accepting-shows (Place.Met i m) gs hs a s f e = false≢true (sym f.0 ∙ e)

-- an open offer has no signal
pub open-silent : (pl : Place) (gs hs : List Guard) (accepting : Bool) (signal : Option (ℕ × Message)) → Fine pl gs hs accepting signal → open_at pl accepting ≡ true → signal ≡ None
open-silent Place.Idle gs hs a s f o = absurd (false≢true o)
open-silent Place.Entering gs hs a s f o = f.1
open-silent (Place.Scanning i) gs hs a s f o = f.1
open-silent (Place.Trying i) gs hs a s f o = f.1
open-silent (Place.Committed i j) gs hs a s f o = absurd (false≢true o)
open-silent Place.Posting gs hs a s f o = f.1
open-silent Place.Opening gs hs a s f o = f.0.1
open-silent Place.Showing gs hs a s f o = f.deaf o
open-silent (Place.Asleep k) gs hs a s f o = f.1
open-silent Place.Waiting gs hs a s f o = f.deaf o
open-silent (Place.Met i m) gs hs a s f o = absurd (false≢true o)

-- at I
pub idle-is : (pl : Place) → is_idle pl ≡ true → pl ≡ Place.Idle
idle-is Place.Idle e = refl
idle-is Place.Entering e = absurd (false≢true e)
idle-is (Place.Scanning i) e = absurd (false≢true e)
idle-is (Place.Trying i) e = absurd (false≢true e)
idle-is (Place.Committed i j) e = absurd (false≢true e)
idle-is Place.Posting e = absurd (false≢true e)
idle-is Place.Opening e = absurd (false≢true e)
idle-is Place.Showing e = absurd (false≢true e)
idle-is (Place.Asleep s) e = absurd (false≢true e)
idle-is Place.Waiting e = absurd (false≢true e)
idle-is (Place.Met i m) e = absurd (false≢true e)

-- a signal is absent or present
pub absent-present : (s : Option (ℕ × Message)) (j : ℕ) (m : Message) → s ≡ None → s ≡ Some (j, m) → ⊥
absent-present s j m a b = let z : ◌≡◌ {A = ℕ} 0 1 = cc in omega arith

-- a signal comes to a process that no longer accepts
pub told-woken : (accepting : Bool) (s : Option (ℕ × Message)) (j : ℕ) (m : Message) → (accepting ≡ true → s ≡ None) → s ≡ Some (j, m) → accepting ≡ false
told-woken true s j m h e = absurd (absent-present s j m (h refl) e)
told-woken false s j m h e = refl
