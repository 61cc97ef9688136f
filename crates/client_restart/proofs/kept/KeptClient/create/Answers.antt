use Rattle.client_restart.proofs.MachineLaws.{makes_of}
use Rattle.client_restart.proofs.kept.KeptClient.create.Goals as goal

pub returns-in-Ok-clause-any_moment : goal.returns-in-Ok-clause-any_moment
returns-in-Ok-clause-any_moment g c =
    makes_of c.args.limit c.args.opening.now c.record-first.result (g.D.Disk.disk c.args.disk) (g.D.Disk.disk c.in-Ok.kept.disk) c.record-first.ensures c.in-Ok.ensures.any_moment

pub returns-in-Err-clause-any_moment : goal.returns-in-Err-clause-any_moment
returns-in-Err-clause-any_moment g c =
    makes_of c.args.limit c.args.opening.now c.record-first.result (g.D.Disk.disk c.args.disk) (g.D.Disk.disk c.in-Err.disk) c.record-first.ensures c.in-Err.ensures.any_moment
