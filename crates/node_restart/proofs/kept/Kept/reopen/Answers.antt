use Rattle.node_journal.specs.Records.{content}
use Rattle.node_restart.specs.Frames.{records_of}
use Rattle.kept_machine.proofs.FaultLaws.{on_damaged, on_foreign}
use Rattle.node_restart.proofs.KeptLaws.{one_fold}
use Rattle.node_restart.proofs.MachineLaws.{damaged_of, foreign_of, form_of, stands_of}
use Rattle.node_restart.proofs.kept.Kept.reopen.Goals as goal

pub returns-in-Ok-clause-stands : goal.returns-in-Ok-clause-stands
returns-in-Ok-clause-stands g c = stands_of c.in-Ok.kept.machine (g.D.Disk.disk c.args.disk).reads c.in-Ok.ensures.stands

pub returns-in-Ok-clause-told : goal.returns-in-Ok-clause-told
returns-in-Ok-clause-told g c o frames d read is_opening held =
    let s = c.in-Ok.kept.machine in
    let reads = (g.D.Disk.disk c.args.disk).reads in
    one_fold o s.opening frames s.core reads d read is_opening c.in-Ok.ensures.sound.is_opening (stands_of s reads c.in-Ok.ensures.stands) held

pub returns-in-Err-clause-foreign : goal.returns-in-Err-clause-foreign
returns-in-Err-clause-foreign g c =
    on_foreign c.in-Err.fault _ _ (λ n here d read. foreign_of n (content d) (here d read)) c.in-Err.ensures.foreign

pub returns-in-Err-clause-never_foreign : goal.returns-in-Err-clause-never_foreign
returns-in-Err-clause-never_foreign g c =
    on_foreign c.in-Err.fault _ _ (λ n here o frames d read is all held. here (records_of o frames) d read (form_of o frames is all) held) c.in-Err.ensures.never_foreign

pub returns-in-Err-clause-damaged : goal.returns-in-Err-clause-damaged
returns-in-Err-clause-damaged g c =
    on_damaged c.in-Err.fault _ _ (λ n here d read. damaged_of c.args.limit n d (here d read)) c.in-Err.ensures.damaged
