use Rattle.desk_run.proofs.boxes.open_boxes.Goals as goal

pub returns-clause-done : goal.returns-clause-done
returns-clause-done g c = c.in_ok-registered.ensures.done _ c.in_ok-ledger.ensures.resumed
