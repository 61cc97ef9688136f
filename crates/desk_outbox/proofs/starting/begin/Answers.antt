use Rattle.desk_outbox.proofs.NotingLaws.{counts_from, from_create, from_noting, made_begun, made_so, none_begun, noted_begun}
use Rattle.desk_outbox.proofs.starting.begin.Goals as goal

pub returns-in_default-clause-any_moment : goal.returns-in_default-clause-any_moment
returns-in_default-clause-any_moment g c =
    none_begun _ _ _ _ (g.D.Disk.disk c.args.disk) (λ f left. g.met.D.Disk.only_now c.args.disk f left)

pub returns-in-Err-clause-keep : goal.returns-in-Err-clause-keep
returns-in-Err-clause-keep g c =
    from_create (g.D.Disk.disk c.args.disk).reads _ _ c.in-Err.ensures.cause c.in-Err.ensures.not_empty c.in-Err.ensures.full

pub returns-in-Err-clause-any_moment : goal.returns-in-Err-clause-any_moment
returns-in-Err-clause-any_moment g c = made_begun _ _ _ _ _ _ c.in-Err.ensures.any_moment

pub note_try-requires-clause-made : goal.note_try-requires-clause-made
note_try-requires-clause-made g c =
    made_so g.D.Disk.disk _ _ c.in-Ok-create.ensures.opening c.in-Ok-create.ensures.core c.in-Ok-create.ensures.held c.in-Ok-create.ensures.journal

pub returns-in-Ok-note_try-clause-any_moment : goal.returns-in-Ok-note_try-clause-any_moment
returns-in-Ok-note_try-clause-any_moment g c = noted_begun _ _ _ _ _ _ _ c.in-Ok-create.ensures.any_moment c.note_try.ensures.leaves

pub returns-in-Err-note_try-clause-any_moment : goal.returns-in-Err-note_try-clause-any_moment
returns-in-Err-note_try-clause-any_moment g c =
    rw c.into_disk.ensures (noted_begun _ _ _ _ _ _ _ c.in-Ok-create.ensures.any_moment c.note_try.ensures.leaves)

pub returns-in-Err-note_try-clause-keep : goal.returns-in-Err-note_try-clause-keep
returns-in-Err-note_try-clause-keep g c = from_noting _ _ c.in-Err-note_try.ensures.fault

pub returns-in-Err-note_try-clause-counts : goal.returns-in-Err-note_try-clause-counts
returns-in-Err-note_try-clause-counts g c =
    rw c.into_disk.ensures (counts_from _ _ _ _ c.in-Ok-create.ensures.counts_ok c.in-Err-note_try.ensures.counts)
