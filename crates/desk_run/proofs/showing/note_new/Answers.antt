use Rattle.desk_run.proofs.ShowLaws.{notes_more, notes_none}
use Rattle.desk_run.proofs.showing.note_new.Goals as goal

pub returns-then-shown-clause-notes : goal.returns-then-shown-clause-notes
returns-then-shown-clause-notes g c =
    notes_more c.note_shown.result c.args.ledger.now c.note_shown.new.ledger c.args.shown.count c.requires.count
    c.note_shown.ensures.noted c.note_shown.ensures.added c.note_shown.ensures.only

pub returns-else-shown-clause-notes : goal.returns-else-shown-clause-notes
returns-else-shown-clause-notes g c = notes_none c.args.ledger.now (c.requires.none c.if-shown.false)
