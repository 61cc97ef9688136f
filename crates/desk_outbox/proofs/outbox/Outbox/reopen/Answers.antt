use Rattle.desk_outbox.proofs.ReopenLaws.{nothing_so, foreign_so, wants_memory, whole_notes}
use Rattle.desk_outbox.proofs.outbox.Outbox.reopen.Goals as goal

pub returns-in-Ok-clause-nothing : goal.returns-in-Ok-clause-nothing
returns-in-Ok-clause-nothing g c = nothing_so (g.D.Disk.disk c.args.disk).reads _ _ _ _ c.in-Ok.ensures.told c.held.ensures.nothing

pub returns-in-Ok-clause-foreign : goal.returns-in-Ok-clause-foreign
returns-in-Ok-clause-foreign g c = foreign_so (g.D.Disk.disk c.args.disk).reads _ _ _ c.in-Ok.ensures.told c.held.ensures.foreign

pub returns-in-Ok-clause-no_memory : goal.returns-in-Ok-clause-no_memory
returns-in-Ok-clause-no_memory g c =
    wants_memory c.held.result _
    (whole_notes 65536 _ _ (g.D.Disk.disk c.args.disk) _ c.in-Ok.ensures.is_opening c.in-Ok.ensures.stands c.in-Ok.ensures.undamaged c.in-Ok.ensures.untouched_ok)
