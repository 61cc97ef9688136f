use Rattle.std.proofs.Common.{refl}
use Rattle.kept_ledger.specs.Notes.{Time}
use Rattle.owner_work.specs.Settling.{no_time, unkept}
use Rattle.owner_work.proofs.OnlyLaws.{nothing_works, one_works}
use Rattle.owner_work.proofs.settling.note_time.Goals as goal

pub returns-in_default-clause-untimed : goal.returns-in_default-clause-untimed
returns-in_default-clause-untimed g c = no_time refl c.in_default.ensures.cause.failed refl

pub returns-in-Ok-keep_note-clause-timed : goal.returns-in-Ok-keep_note-clause-timed
returns-in-Ok-keep_note-clause-timed g c = (
  c.in-Ok.seconds,
  record { keeps = c.in-Ok-keep_note.ensures.keeps; step = c.in-Ok-keep_note.ensures.noted },
)

pub returns-in-Err-clause-untimed : goal.returns-in-Err-clause-untimed
returns-in-Err-clause-untimed g c =
    unkept c.in-Ok.seconds c.in-Err.fault c.unnoted.ensures.trouble
    (record { keeps = c.in-Err.ensures.keeps; same = c.in-Err.ensures.same })

pub returns-in_default-clause-only : goal.returns-in_default-clause-only
returns-in_default-clause-only g c = nothing_works _ _ refl

pub returns-in-Ok-keep_note-clause-only : goal.returns-in-Ok-keep_note-clause-only
returns-in-Ok-keep_note-clause-only g c =
    one_works _ _ (Time c.in-Ok.seconds) tt c.in-Ok-keep_note.ensures.noted

pub returns-in-Err-clause-only : goal.returns-in-Err-clause-only
returns-in-Err-clause-only g c = nothing_works _ _ c.in-Err.ensures.same
