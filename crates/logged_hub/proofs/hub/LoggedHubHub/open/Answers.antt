use Rattle.std.proofs.Common.{refl, subst}
use Rattle.many_words.specs.Events.{Opened, Asked}
use Rattle.logged_hub.specs.Runs.{Proceeds}
use Rattle.logged_hub.specs.State.{HubState}
use Rattle.logged_hub.proofs.HubLaws.{kept-beside}
use Rattle.logged_hub.proofs.RunLaws.{beside}
use Rattle.logged_hub.proofs.hub.LoggedHubHub.open.Goals as goal

pub invariant_of-self : goal.invariant_of-self
invariant_of-self g c =
    let hub = c.self.inside in
    kept-beside (g.D.Disk.disk hub.disk) hub.journal hub.batch.records hub.held hub.fault hub.calls c.note_opened.new.self _ c.note_opened.ensures refl c.self.invariant

pub invariant_of-self-else-open : goal.invariant_of-self-else-open
invariant_of-self-else-open g c =
    let hub = c.self.inside in
    kept-beside (g.D.Disk.disk hub.disk) hub.journal hub.batch.records hub.held hub.fault hub.calls c.note_asked.new.self _ c.note_asked.ensures refl c.self.invariant

pub returns-then-open-clause-goes_on : goal.returns-then-open-clause-goes_on
returns-then-open-clause-goes_on g c =
    let hub : HubState g.row.W.Denot g.row.D.Denot = record {
      wires = c.self.inside.wires;
      journal = c.self.inside.journal;
      disk = c.self.inside.disk;
      batch = c.self.inside.batch;
      fault = c.self.inside.fault;
      held = c.self.inside.held;
      calls = c.self.inside.calls;
    } in
    subst (λ (k : HubState g.row.W.Denot g.row.D.Denot). Proceeds g.W.Wires.told g.D.Disk.disk k (record hub { wires = c.open.new.self; calls = c.note_opened.new.self })) c.self.view_is
    (beside g.W.Wires.told g.D.Disk.disk g.met.D.Disk.only_now hub c.open.new.self c.note_opened.new.self (Opened c.args.place c.args.door) refl refl c.if-open.ensures.opened c.note_opened.ensures)

pub returns-else-open-clause-goes_on : goal.returns-else-open-clause-goes_on
returns-else-open-clause-goes_on g c =
    let hub : HubState g.row.W.Denot g.row.D.Denot = record {
      wires = c.self.inside.wires;
      journal = c.self.inside.journal;
      disk = c.self.inside.disk;
      batch = c.self.inside.batch;
      fault = c.self.inside.fault;
      held = c.self.inside.held;
      calls = c.self.inside.calls;
    } in
    subst (λ (k : HubState g.row.W.Denot g.row.D.Denot). Proceeds g.W.Wires.told g.D.Disk.disk k (record hub { wires = c.open.new.self; calls = c.note_asked.new.self })) c.self.view_is
    (beside g.W.Wires.told g.D.Disk.disk g.met.D.Disk.only_now hub c.open.new.self c.note_asked.new.self (Asked c.args.place c.args.door) refl refl c.if-open.ensures.none c.note_asked.ensures)
