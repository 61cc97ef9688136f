use Rattle.std.proofs.Common.{ap}
use Rattle.node_journal.specs.Journal.{JournalState}
use Rattle.kept_letter.specs.Notes.{plain_opening}
use Rattle.desk_send.proofs.OpeningLaws.{made_durable, opened_is, opening_is, sized}
use Rattle.desk_send.proofs.starting.open_letter.Goals as goal

pub create-requires-clause-opening : goal.create-requires-clause-opening
create-requires-clause-opening g c =
    opening_is (plain_opening c.args.opening.now) _ c.requires.opening c.record.ensures

pub create-requires-clause-sized : goal.create-requires-clause-sized
create-requires-clause-sized g c =
    sized (plain_opening c.args.opening.now) _ c.requires.opening c.record.ensures

pub returns-in-Ok-clause-opened : goal.returns-in-Ok-clause-opened
returns-in-Ok-clause-opened g c =
    opened_is (plain_opening c.args.opening.now) _ _ c.requires.opening c.record.ensures c.in-Ok.ensures.opens

pub returns-in-Ok-clause-still_open : goal.returns-in-Ok-clause-still_open
returns-in-Ok-clause-still_open g c = ap (λ (j : JournalState). j.closed) c.in-Ok.ensures.journal

pub returns-in-Ok-clause-durable : goal.returns-in-Ok-clause-durable
returns-in-Ok-clause-durable g c =
    made_durable g.D.Disk.disk g.D.Counted.seen _ 67108864 _
    (opening_is (plain_opening c.args.opening.now) _ c.requires.opening c.record.ensures)
    c.in-Ok.ensures.opens
    (ap (λ (j : JournalState). j.limit) c.in-Ok.ensures.journal) c.in-Ok.ensures.held
    c.in-Ok.ensures.undamaged
    c.in-Ok.ensures.durable
