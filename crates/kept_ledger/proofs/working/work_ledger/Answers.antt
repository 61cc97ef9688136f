use Rattle.kept_ledger.proofs.WorkLaws.{hears_nothing}
use Rattle.kept_ledger.proofs.working.work_ledger.Goals as goal

pub returns-in_default-clause-hears : goal.returns-in_default-clause-hears
returns-in_default-clause-hears g c = hears_nothing c.args.kept.now.machine.ledger.state

pub returns-in_default-copy_of-clause-hears : goal.returns-in_default-copy_of-clause-hears
returns-in_default-copy_of-clause-hears g c = hears_nothing c.args.kept.now.machine.ledger.state

pub returns-in_default-of-clause-hears : goal.returns-in_default-of-clause-hears
returns-in_default-of-clause-hears g c = hears_nothing c.args.kept.now.machine.ledger.state

pub returns-in_default-of-2-clause-hears : goal.returns-in_default-of-2-clause-hears
returns-in_default-of-2-clause-hears g c = hears_nothing c.args.kept.now.machine.ledger.state
