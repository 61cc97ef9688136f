use Rattle.std.proofs.Common.{subst}
use Rattle.logged_hub.specs.Runs.{Proceeds}
use Rattle.logged_hub.specs.State.{HubState}
use Rattle.logged_hub.proofs.RunLaws.{unseen}
use Rattle.logged_hub.proofs.hub.LoggedHubHub.knocks.Goals as goal

pub returns-clause-goes_on : goal.returns-clause-goes_on
returns-clause-goes_on g c =
    let hub : HubState g.row.W.Denot g.row.D.Denot = record {
      wires = c.self.inside.wires;
      journal = c.self.inside.journal;
      disk = c.self.inside.disk;
      batch = c.self.inside.batch;
      fault = c.self.inside.fault;
      held = c.self.inside.held;
      calls = c.self.inside.calls;
    } in
    subst (λ (k : HubState g.row.W.Denot g.row.D.Denot). Proceeds g.W.Wires.told g.D.Disk.disk k (record hub { wires = c.knocks.new.self })) c.self.view_is
    (unseen g.W.Wires.told g.D.Disk.disk g.met.D.Disk.only_now hub c.knocks.new.self c.knocks.ensures)
