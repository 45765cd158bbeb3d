use Rattle.rendezvous.specs.Calls.{create}
use Rattle.rendezvous.proofs.ProcessTable.create.Goals as goal

pub returns-in-Ok : goal.returns-in-Ok
unfolding create
returns-in-Ok c = rw (← c.create_verdict.ensures, c.in-Ok.is, c.fresh_table-table.ensures)

pub returns-in-Err : goal.returns-in-Err
unfolding create
returns-in-Err c = rw (← c.create_verdict.ensures, c.in-Err.is, c.fresh_table-table.ensures, c.fresh_head-table.ensures)
