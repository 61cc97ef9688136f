use Rattle.desk_outbox.proofs.NotingLaws.{counts_then, place_fails, place_leaves, place_noted, text_fails, text_leaves, text_noted, then_leaves}
use Rattle.desk_outbox.proofs.starting.note_place.Goals as goal

pub returns-in-Ok-clause-placed : goal.returns-in-Ok-clause-placed
returns-in-Ok-clause-placed g c =
    place_noted g.D.Disk.disk g.D.Counted.seen _ _ _ _ _ _ _ c.record.ensures
    (text_noted g.D.Disk.disk g.D.Counted.seen _ _ _ _ _ c.requires.text c.requires.few c.requires.made c.in-Ok.ensures.keeps) c.remark-in-Ok.ensures.keeps

pub returns-in-Ok-clause-fault : goal.returns-in-Ok-clause-fault
returns-in-Ok-clause-fault g c =
    place_fails g.D.Disk.disk g.D.Counted.seen _ _ _ _ _ _ _ c.record.ensures
    (text_noted g.D.Disk.disk g.D.Counted.seen _ _ _ _ _ c.requires.text c.requires.few c.requires.made c.in-Ok.ensures.keeps) c.remark-in-Ok.ensures.keeps

pub returns-in-Ok-clause-leaves : goal.returns-in-Ok-clause-leaves
returns-in-Ok-clause-leaves g c =
    then_leaves _ _ _ _ _ _ _
    (text_leaves g.D.Disk.disk g.D.Counted.seen _ _ _ _ _ _ _ _ c.requires.text c.requires.made c.in-Ok.ensures.keeps)
    (place_leaves g.D.Disk.disk g.D.Counted.seen _ _ _ _ _ _ _ _ c.record.ensures
    (text_noted g.D.Disk.disk g.D.Counted.seen _ _ _ _ _ c.requires.text c.requires.few c.requires.made c.in-Ok.ensures.keeps) c.remark-in-Ok.ensures.keeps)

pub returns-in-Err-clause-fault : goal.returns-in-Err-clause-fault
returns-in-Err-clause-fault g c =
    text_fails g.D.Disk.disk g.D.Counted.seen _ _ _ _ _ c.requires.few c.requires.made c.in-Err.ensures.keeps

pub returns-in-Err-clause-leaves : goal.returns-in-Err-clause-leaves
returns-in-Err-clause-leaves g c =
    text_leaves g.D.Disk.disk g.D.Counted.seen _ _ _ _ _ _ _ _ c.requires.text c.requires.made c.in-Err.ensures.keeps

pub returns-in-Ok-clause-counts : goal.returns-in-Ok-clause-counts
returns-in-Ok-clause-counts g c = counts_then _ _ _ _ c.in-Ok.ensures.keeps.counts c.remark-in-Ok.ensures.keeps.counts
