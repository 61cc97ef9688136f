use Rattle.std.proofs.Common.{sym, ◌∙◌}
use Rattle.schedule_text.proofs.ScheduleLaws.{client_below}
use Rattle.schedule_text.proofs.reader.event_after.Goals as goal

pub allow-requires : goal.allow-requires
allow-requires c =
    client_below c.args.settings.now c.args.line.now c.in-Some.event c.requires.some c.requires.few
    (sym (sym c.in-Some.is ∙ c.in_ok-event_of.ensures))

pub note-requires : goal.note-requires
note-requires c =
    client_below c.args.settings.now c.args.line.now c.in-Some.event c.requires.some c.requires.few
    (sym (sym c.in-Some.is ∙ c.in_ok-event_of.ensures))
