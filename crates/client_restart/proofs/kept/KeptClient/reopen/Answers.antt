use Rattle.node_journal.specs.Records.{content}
use Rattle.kept_machine.proofs.FaultLaws.{on_damaged, on_foreign, with_no_memory}
use Rattle.client_restart.specs.Cores.{core_in}
use Rattle.client_restart.specs.Records.{records_of}
use Rattle.client_restart.proofs.KeptLaws.{one_fold}
use Rattle.client_restart.proofs.MachineLaws.{damaged_of, foreign_of, form_of, stands_of, whole_of}
use Rattle.client_restart.proofs.kept.KeptClient.reopen.Goals as goal

pub returns-in-Ok-clause-stands : goal.returns-in-Ok-clause-stands
returns-in-Ok-clause-stands g c = stands_of c.in-Ok.kept.machine (g.D.Disk.disk c.args.disk).reads c.in-Ok.ensures.stands

pub returns-in-Ok-clause-told : goal.returns-in-Ok-clause-told
returns-in-Ok-clause-told g c o notes d read is_opening all held =
    let k = c.in-Ok.kept.machine in
    let reads = (g.D.Disk.disk c.args.disk).reads in
    one_fold o k.opening notes (core_in k.core) reads d read is_opening c.in-Ok.ensures.sound.is_opening (stands_of k reads c.in-Ok.ensures.stands) all held

pub returns-in-Err-clause-foreign : goal.returns-in-Err-clause-foreign
returns-in-Err-clause-foreign g c =
    on_foreign c.in-Err.fault _ _ (λ n here d read. foreign_of n (content d) (here d read)) c.in-Err.ensures.foreign

pub returns-in-Err-clause-never_foreign : goal.returns-in-Err-clause-never_foreign
returns-in-Err-clause-never_foreign g c =
    on_foreign c.in-Err.fault _ _ (λ n here o notes d read is all held. here (records_of o notes) d read (form_of o notes is all) held) c.in-Err.ensures.never_foreign

pub returns-in-Err-clause-damaged : goal.returns-in-Err-clause-damaged
returns-in-Err-clause-damaged g c =
    on_damaged c.in-Err.fault _ _ (λ n here d read. damaged_of c.args.limit n d (here d read)) c.in-Err.ensures.damaged

pub returns-in-Err-clause-no_memory : goal.returns-in-Err-clause-no_memory
returns-in-Err-clause-no_memory g c =
    with_no_memory c.in-Err.fault _ _ (λ whole. whole_of c.args.limit (g.D.Disk.disk c.args.disk).reads whole) c.in-Err.ensures.no_memory
