use Rattle.server_run.proofs.Moments.{all_calls, no_fault}
use Rattle.server_run.proofs.running.run_server.Goals as goal

pub returns-clause-any_moment : goal.returns-clause-any_moment
returns-clause-any_moment g c =
    let end = c.serve-ended.ensures in
    all_calls g.W.Wires.told g.D.Disk.disk c.args.hub.now c.serve-ended.new.hub c.serve-ended.result end.goes_on end.breaks_off

pub returns-clause-whole : goal.returns-clause-whole
returns-clause-whole g c =
    no_fault g.W.Wires.told g.D.Disk.disk c.args.hub.now c.serve-ended.new.hub c.serve-ended.result c.serve-ended.ensures.goes_on
