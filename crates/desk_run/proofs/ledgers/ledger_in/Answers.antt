use Rattle.desk_outside.specs.Calls.{Looked, Opened, given}
use Rattle.desk_outside.specs.declared.folder.DeskFile.TheVariants.{Ledger}
use Rattle.desk_run.proofs.StepLaws.{on_gentle}
use Rattle.desk_run.proofs.ledgers.ledger_in.Goals as goal

pub returns-in-Ok-false-clause-steps : goal.returns-in-Ok-false-clause-steps
returns-in-Ok-false-clause-steps g c =
    on_gentle g.F.File.Disk.disk g.F.File.Counted.seen (Looked Ledger (given c.is_there.result)) _ _ tt c.is_there.ensures.call

pub returns-in-Err-clause-steps : goal.returns-in-Err-clause-steps
returns-in-Err-clause-steps g c =
    on_gentle g.F.File.Disk.disk g.F.File.Counted.seen (Looked Ledger (given c.is_there.result)) _ _ tt c.is_there.ensures.call

pub returns-in_default-clause-steps : goal.returns-in_default-clause-steps
returns-in_default-clause-steps g c =
    λ start s. on_gentle g.F.File.Disk.disk g.F.File.Counted.seen (Opened Ledger (given c.open.result)) (g.F.Folder.calls c.is_there.new.self) _ tt c.open.ensures.call start
    (on_gentle g.F.File.Disk.disk g.F.File.Counted.seen (Looked Ledger (given c.is_there.result)) _ (g.F.Folder.calls c.is_there.new.self) tt c.is_there.ensures.call start s)

pub returns-in-Ok-reopen-clause-steps : goal.returns-in-Ok-reopen-clause-steps
returns-in-Ok-reopen-clause-steps g c =
    λ start s. on_gentle g.F.File.Disk.disk g.F.File.Counted.seen (Opened Ledger (given c.open.result)) (g.F.Folder.calls c.is_there.new.self) _ tt c.open.ensures.call start
    (on_gentle g.F.File.Disk.disk g.F.File.Counted.seen (Looked Ledger (given c.is_there.result)) _ (g.F.Folder.calls c.is_there.new.self) tt c.is_there.ensures.call start s)

pub returns-clause-steps : goal.returns-clause-steps
returns-clause-steps g c =
    λ start s. on_gentle g.F.File.Disk.disk g.F.File.Counted.seen (Opened Ledger (given c.open.result)) (g.F.Folder.calls c.is_there.new.self) _ tt c.open.ensures.call start
    (on_gentle g.F.File.Disk.disk g.F.File.Counted.seen (Looked Ledger (given c.is_there.result)) _ (g.F.Folder.calls c.is_there.new.self) tt c.is_there.ensures.call start s)
