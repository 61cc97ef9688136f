use Rattle.std.proofs.Common.{◌∙◌}
use Rattle.desk_outbox.proofs.BeginLaws.{front_client, noted, never_refused}
use Rattle.desk_outbox.proofs.NotingLaws.{asked_fails, asked_leaves, counts_from, then_leaves}
use Rattle.desk_outbox.proofs.starting.note_try.Goals as goal

pub unreachable-requires : goal.unreachable-requires
unreachable-requires g c =
    never_refused _ _ _ _ _ c.requires.begun.is_opening c.requires.begun.fits
    (front_client g.D.Disk.disk _ _ _ _ _ c.in-Ok.ensures.placed) (rw c.in-Ok-Err.field-0-is at c.in-Ok-Err.ensures.refused)

pub returns-in-Ok-Ok-clause-noted : goal.returns-in-Ok-Ok-clause-noted
returns-in-Ok-Ok-clause-noted g c =
    noted g.D.Disk.disk g.D.Counted.seen _ _ _ c.target_of.result _ _ _ _ _ c.requires.begun c.in-Ok.ensures.placed
    (c.in-Ok-Ok.ensures.keeps (rw c.in-Ok-Ok.field-0-is at c.in-Ok-Ok.ensures.taken)) c.target_of.ensures

pub returns-in-Ok-Ok-clause-counts : goal.returns-in-Ok-Ok-clause-counts
returns-in-Ok-Ok-clause-counts g c =
    (c.in-Ok-Ok.ensures.keeps (rw c.in-Ok-Ok.field-0-is at c.in-Ok-Ok.ensures.taken)).counts ∙ c.in-Ok.ensures.counts

pub returns-in-Ok-Ok-clause-leaves : goal.returns-in-Ok-Ok-clause-leaves
returns-in-Ok-Ok-clause-leaves g c =
    then_leaves _ _ _ _ _ _ _ c.in-Ok.ensures.leaves
    (asked_leaves g.D.Disk.disk g.D.Counted.seen _ _ _ _ _ _ _ _ c.target_of.ensures c.in-Ok.ensures.placed
    (c.in-Ok-Ok.ensures.keeps (rw c.in-Ok-Ok.field-0-is at c.in-Ok-Ok.ensures.taken)))

pub returns-in-Err-ask-clause-fault : goal.returns-in-Err-ask-clause-fault
returns-in-Err-ask-clause-fault g c =
    asked_fails g.D.Disk.disk g.D.Counted.seen _ _ _ _ _ _ _ _ c.requires.begun c.in-Ok.ensures.placed
    (c.in-Err-ask.ensures.keeps c.in-Err-ask.ensures.not_kept)

pub returns-in-Err-ask-clause-counts : goal.returns-in-Err-ask-clause-counts
returns-in-Err-ask-clause-counts g c =
    counts_from _ _ _ _ c.in-Ok.ensures.counts (c.in-Err-ask.ensures.keeps c.in-Err-ask.ensures.not_kept).counts

pub returns-in-Err-ask-clause-leaves : goal.returns-in-Err-ask-clause-leaves
returns-in-Err-ask-clause-leaves g c =
    then_leaves _ _ _ _ _ _ _ c.in-Ok.ensures.leaves
    (asked_leaves g.D.Disk.disk g.D.Counted.seen _ _ _ _ _ _ _ _ c.target_of.ensures c.in-Ok.ensures.placed
    (c.in-Err-ask.ensures.keeps c.in-Err-ask.ensures.not_kept))
