use Rattle.std.proofs.Common.{refl, subst}
use Rattle.many_words.specs.Events.{Closed}
use Rattle.logged_hub.specs.Runs.{Proceeds}
use Rattle.logged_hub.specs.State.{HubState}
use Rattle.logged_hub.proofs.HubLaws.{kept-beside}
use Rattle.logged_hub.proofs.RunLaws.{beside}
use Rattle.logged_hub.proofs.hub.LoggedHubHub.close.Goals as goal

pub invariant_of-self : goal.invariant_of-self
invariant_of-self g c =
    let hub = c.self.inside in
    kept-beside (g.D.Disk.disk hub.disk) hub.journal hub.batch.records hub.held hub.fault hub.calls c.note_closed.new.self _ c.note_closed.ensures refl c.self.invariant

pub returns-clause-goes_on : goal.returns-clause-goes_on
returns-clause-goes_on g c =
    let hub : HubState g.row.W.Denot g.row.D.Denot = record {
      wires = c.self.inside.wires;
      journal = c.self.inside.journal;
      disk = c.self.inside.disk;
      batch = c.self.inside.batch;
      fault = c.self.inside.fault;
      held = c.self.inside.held;
      calls = c.self.inside.calls;
    } in
    subst (λ (k : HubState g.row.W.Denot g.row.D.Denot). Proceeds g.W.Wires.told g.D.Disk.disk k (record hub { wires = c.close.new.self; calls = c.note_closed.new.self })) c.self.view_is
    (beside g.W.Wires.told g.D.Disk.disk g.met.D.Disk.only_now hub c.close.new.self c.note_closed.new.self (Closed c.args.place) refl refl c.close.ensures c.note_closed.ensures)
