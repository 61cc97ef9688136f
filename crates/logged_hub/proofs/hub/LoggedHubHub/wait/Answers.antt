use Rattle.std.proofs.Common.{refl, subst}
use Rattle.many_words.specs.Events.{Waited}
use Rattle.logged_hub.specs.Runs.{Proceeds}
use Rattle.logged_hub.specs.State.{HubState}
use Rattle.logged_hub.proofs.HubLaws.{kept-beside}
use Rattle.logged_hub.proofs.RunLaws.{beside}
use Rattle.logged_hub.proofs.hub.LoggedHubHub.wait.Goals as goal

pub invariant_of-self : goal.invariant_of-self
invariant_of-self g c =
    let hub = c.self.inside in
    kept-beside (g.D.Disk.disk hub.disk) hub.journal hub.batch.records hub.held hub.fault hub.calls c.note_waited.new.self _ c.note_waited.ensures refl c.self.invariant

pub returns-clause-goes_on : goal.returns-clause-goes_on
returns-clause-goes_on g c =
    let hub : HubState g.row.W.Denot g.row.D.Denot = record {
      wires = c.self.inside.wires;
      journal = c.self.inside.journal;
      disk = c.self.inside.disk;
      batch = c.self.inside.batch;
      fault = c.self.inside.fault;
      held = c.self.inside.held;
      calls = c.self.inside.calls;
    } in
    subst (λ (k : HubState g.row.W.Denot g.row.D.Denot). Proceeds g.W.Wires.told g.D.Disk.disk k (record hub { wires = c.wait-now.new.self; calls = c.note_waited.new.self })) c.self.view_is
    (beside g.W.Wires.told g.D.Disk.disk g.met.D.Disk.only_now hub c.wait-now.new.self c.note_waited.new.self (Waited c.wait-now.result) refl refl c.wait-now.ensures c.note_waited.ensures)
