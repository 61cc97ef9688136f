use Rattle.desk_outbox.proofs.NotingLaws.{none_begun}
use Rattle.desk_outbox.proofs.outbox.Outbox.start.Goals as goal

pub returns-in-Err-clause-any_moment : goal.returns-in-Err-clause-any_moment
returns-in-Err-clause-any_moment g c = λ h is.
    none_begun _ _ _ _ (g.D.Disk.disk c.args.disk) (λ f left. g.met.D.Disk.only_now c.args.disk f left)
