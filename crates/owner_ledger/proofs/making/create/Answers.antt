use Rattle.std.proofs.Common.{ap}
use Rattle.node_journal.specs.Journal.{JournalState}
use Rattle.kept_ledger.specs.Notes.{plain_opening}
use Rattle.owner_ledger.proofs.MakeLaws.{opened, opening_sized}
use Rattle.owner_ledger.proofs.making.create.Goals as goal

pub create-requires-clause-sized : goal.create-requires-clause-sized
create-requires-clause-sized g c =
    opening_sized (plain_opening c.args.opening.now) c.record-first.result.now c.requires.opening
    c.record-first.ensures

pub returns-in-Ok-clause-still_open : goal.returns-in-Ok-clause-still_open
returns-in-Ok-clause-still_open g c = ap (λ (j : JournalState). j.closed) c.in-Ok.ensures.journal

pub returns-in-Ok-clause-opened : goal.returns-in-Ok-clause-opened
returns-in-Ok-clause-opened g c =
    opened (plain_opening c.args.opening.now) c.record-first.result.now c.in-Ok.kept.machine
    c.requires.opening c.record-first.ensures c.in-Ok.ensures.opens
