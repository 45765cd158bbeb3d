-- The pass of a read is its answer, the buffer that it left, and whether the write took all.
use Rattle.std.proofs.Common.{rules, ◌≡◌, true, refl, is_ok, Some, None, Ok, Err}
use Rattle.passes.specs.Turns.{after_read}
use Rattle.passes.proofs.Turns.{pass_of, pass-stops, counted}
use Rattle.passes.proofs.reading.read_once.Goals as goal

pub returns-in_err-count : goal.returns-in_err-count
returns-in_err-count c =
    let p = pass_of c.read.result c.read.new.buf c.read.ensures.bound true in
    let e : after_read p.got ≡ Err c.in_err-count.field-0.0 = search rules in
    (p, refl, λ _. refl, rw e (search rules), pass-stops _ p (rw e))

pub returns-in_default : goal.returns-in_default
returns-in_default c =
    let p = pass_of c.read.result c.read.new.buf c.read.ensures.bound true in
    let e : after_read p.got ≡ Ok None = search rules in
    (p, refl, λ _. refl, rw e, pass-stops _ p (rw e))

pub returns-in_err-after_write : goal.returns-in_err-after_write
returns-in_err-after_write c =
    let p = pass_of c.read.result c.read.new.buf c.read.ensures.bound (is_ok c.write_printed.result) in
    let e : after_read p.got ≡ Ok (Some c.in-Some.count) = search rules in
    (p, refl, λ silent. search rules, rw e (search rules), rw (← counted _ _ e) (search rules))

pub returns-in_ok-after_write : goal.returns-in_ok-after_write
returns-in_ok-after_write c =
    let p = pass_of c.read.result c.read.new.buf c.read.ensures.bound (is_ok c.write_printed.result) in
    let e : after_read p.got ≡ Ok (Some c.in-Some.count) = search rules in
    (p, refl, λ silent. search rules, rw e (search rules), rw (← counted _ _ e) (search rules))

pub returns-else-prints : goal.returns-else-prints
returns-else-prints c =
    let p = pass_of c.read.result c.read.new.buf c.read.ensures.bound true in
    let e : after_read p.got ≡ Ok (Some c.in-Some.count) = search rules in
    (p, refl, λ _. refl, rw e, rw (← counted _ _ e) (search rules))
