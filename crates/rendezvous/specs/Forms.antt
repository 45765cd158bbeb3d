-- To be believed. Refusal 7 for code that keeps a table in its place: the test in three parts, from the head, from a record at a time, and at the end.
use Rattle.std.specs.Prelude.{◌+◌, ◌*◌, ◌-◌, ◌≡◌, ◌&&◌, Option, Some, None}
use Rattle.std.specs.Bool.{then_some}
use Rattle.process.specs.Process.{is_open}
use Rattle.process.specs.Fits.{process_fits}
use Rattle.process.specs.Rules.{partner_of}
use Rattle.rendezvous.specs.Types.{ℕ, zero, suc, Bool, false, cond, leb, Process, Head, ProcessTable}
use Rattle.rendezvous.specs.Table.{process}
use Rattle.rendezvous.specs.WellFormed.{count_fits, nap_fits, well_formed}

-- while all that was tested fits, how many of the tickets that were given out are left
abbrev pub Form : Type 0
Form = Option ℕ

-- the head: of the tickets that were given out none is accounted for yet
abbrev pub form_start : Head → Form
form_start h = then_some (count_fits h.n && nap_fits h.nap) h.next.0

-- process k with record x, whose open offer, if it has one, takes a ticket of those that are left; the process that its guard names at C has posted this many
abbrev pub form_more : Form → Head → ℕ → Process → ℕ → Form
form_more None h k x posted = None
form_more (Some left) h k x posted = let taken : ℕ = cond (is_open x) 1 0 in then_some (process_fits h.n h.nap k x posted && leb taken left) (left - taken)

-- whether the table is well-formed, once every process is tested: what the open offers have left is enough for 2 × meetings + withdrawn
abbrev pub form_end : Form → Head → Bool
form_end None h = false
form_end (Some left) h = leb (2 * h.meetings + h.withdrawn) left

-- the processes below k
unfoldable pub form_below : ProcessTable → ℕ → Form
form_below t zero = form_start t.head
form_below t (suc k) = let x = process t k in form_more (form_below t k) t.head k x (process t (partner_of x)).altcount

-- Over all processes of a table the parts are the test.
abbrev pub FormsAreWellFormed : Type 0
FormsAreWellFormed = (t : ProcessTable) → form_end (form_below t t.head.n) t.head ≡ well_formed t
