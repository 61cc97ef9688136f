use Rattle.std.proofs.Common.{sym, ap, ◌∙◌, rules}
use Rattle.node_restart.specs.Steps.{opened}
use Rattle.node_restart.proofs.MachineLaws.{makes_of}
use Rattle.node_restart.proofs.OpeningLaws.{one_opening}
use Rattle.node_restart.proofs.kept.Kept.create.Goals as goal

pub returns-in-Ok-clause-opening : goal.returns-in-Ok-clause-opening
returns-in-Ok-clause-opening g c =
    one_opening c.in-Ok.kept.machine.opening c.args.opening.now c.in-Ok.ensures.sound.is_opening (record { seed = search rules })
    (sym c.in-Ok.ensures.opens.is ∙ c.record-first.ensures)

pub returns-in-Ok-clause-core : goal.returns-in-Ok-clause-core
returns-in-Ok-clause-core g c = c.in-Ok.ensures.opens.core ∙ ap opened (returns-in-Ok-clause-opening g c)

pub returns-in-Ok-clause-any_moment : goal.returns-in-Ok-clause-any_moment
returns-in-Ok-clause-any_moment g c =
    makes_of c.args.limit c.args.opening.now c.record-first.result (g.D.Disk.disk c.args.disk) (g.D.Disk.disk c.in-Ok.kept.disk) c.record-first.ensures c.in-Ok.ensures.any_moment

pub returns-in-Err-clause-any_moment : goal.returns-in-Err-clause-any_moment
returns-in-Err-clause-any_moment g c =
    makes_of c.args.limit c.args.opening.now c.record-first.result (g.D.Disk.disk c.args.disk) (g.D.Disk.disk c.in-Err.disk) c.record-first.ensures c.in-Err.ensures.any_moment
