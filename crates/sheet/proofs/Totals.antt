-- The line of totals has fewer bytes than a text keeps, so it keeps all of them; and no total of a well-formed table overflows.
use Rattle.std.specs.Prelude.{Some, None}
use Prim.Native.Nat.{ℕ, ◌+◌, ◌*◌, ◌<◌, ◌≤◌}
use mathlib.Core.Path.{◌≡◌, refl}
use mathlib.Core.Bool.{true, false≢true}
use mathlib.Core.List.{List, [], ◌∷◌, ◌++◌}
use native.Mathlib.Omega.{arith}
use borrow.Author.Tests.{leb-true}
use lib.ListN.{length-append}
use Rattle.rendezvous.specs.declared.Head.{Head}
use Rattle.rendezvous.specs.Forms.{Form, form_end}
use Rattle.text.specs.Writing.{capped, decimal_text}
use Rattle.text.proofs.Capped.{capped-short}
use Rattle.text.proofs.Printed.{decimal-text-length, word-text-length, byte-text-length}
use Rattle.script.specs.Printing.{field, end_of_line}

-- as it is put together, from its last byte on
abbrev line : ℕ → ℕ → ℕ → ℕ → List ℕ
line offers meetings withdrawn pending = decimal_text offers ++ field (decimal_text meetings ++ field (decimal_text withdrawn ++ field (decimal_text pending ++ end_of_line ∷ [])))

pub line-capped : (offers meetings withdrawn pending : ℕ) → offers < 4294967296 → pending < 256 → capped (line offers meetings withdrawn pending) ≡ line offers meetings withdrawn pending
line-capped offers meetings withdrawn pending o p =
    capped-short (line offers meetings withdrawn pending)
    (simp length-append (omega (arith, word-text-length offers o, decimal-text-length meetings, decimal-text-length withdrawn, byte-text-length pending p)))

-- A table that passes the form test has no total that could overflow: both are at most what is left of the tickets, a number of 32 bits.
pub form-totals : (form : Form) (h : Head) → form_end form h ≡ true → (left : ℕ) × (form ≡ Some left) × (2 * h.meetings + h.withdrawn ≤ left)
form-totals None h e = absurd (false≢true e)
form-totals (Some left) h e = (left, refl, leb-true _ _ e)
