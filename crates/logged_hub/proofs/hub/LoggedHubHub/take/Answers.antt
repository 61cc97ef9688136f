use Rattle.std.proofs.Common.{refl, subst, take}
use Rattle.many_words.specs.Events.{Came, Ended, Blocked}
use Rattle.logged_hub.specs.Runs.{Proceeds}
use Rattle.logged_hub.specs.State.{HubState}
use Rattle.logged_hub.proofs.HubLaws.{kept-beside}
use Rattle.logged_hub.proofs.RunLaws.{beside}
use Rattle.logged_hub.proofs.hub.LoggedHubHub.take.Goals as goal

pub invariant_of-self : goal.invariant_of-self
invariant_of-self g c =
    let hub = c.self.inside in
    kept-beside (g.D.Disk.disk hub.disk) hub.journal hub.batch.records hub.held hub.fault hub.calls c.note_came.new.self _ c.note_came.ensures refl c.self.invariant

pub invariant_of-self-in-Over : goal.invariant_of-self-in-Over
invariant_of-self-in-Over g c =
    let hub = c.self.inside in
    kept-beside (g.D.Disk.disk hub.disk) hub.journal hub.batch.records hub.held hub.fault hub.calls c.note_ended.new.self _ c.note_ended.ensures refl c.self.invariant

pub invariant_of-self-in-Pending : goal.invariant_of-self-in-Pending
invariant_of-self-in-Pending g c =
    let hub = c.self.inside in
    kept-beside (g.D.Disk.disk hub.disk) hub.journal hub.batch.records hub.held hub.fault hub.calls c.note_blocked.new.self _ c.note_blocked.ensures refl c.self.invariant

pub returns-in-Bytes-clause-goes_on : goal.returns-in-Bytes-clause-goes_on
returns-in-Bytes-clause-goes_on g c =
    let hub : HubState g.row.W.Denot g.row.D.Denot = record {
      wires = c.self.inside.wires;
      journal = c.self.inside.journal;
      disk = c.self.inside.disk;
      batch = c.self.inside.batch;
      fault = c.self.inside.fault;
      held = c.self.inside.held;
      calls = c.self.inside.calls;
    } in
    subst (λ (k : HubState g.row.W.Denot g.row.D.Denot). Proceeds g.W.Wires.told g.D.Disk.disk k (record hub { wires = c.take-taken.new.self; calls = c.note_came.new.self })) c.self.view_is
    (beside g.W.Wires.told g.D.Disk.disk g.met.D.Disk.only_now hub c.take-taken.new.self c.note_came.new.self (Came c.args.place (take c.in-Bytes.count c.take-taken.new.buf)) refl refl c.in-Bytes.ensures.gives.1 c.note_came.ensures)

pub returns-in-Over-clause-goes_on : goal.returns-in-Over-clause-goes_on
returns-in-Over-clause-goes_on g c =
    let hub : HubState g.row.W.Denot g.row.D.Denot = record {
      wires = c.self.inside.wires;
      journal = c.self.inside.journal;
      disk = c.self.inside.disk;
      batch = c.self.inside.batch;
      fault = c.self.inside.fault;
      held = c.self.inside.held;
      calls = c.self.inside.calls;
    } in
    subst (λ (k : HubState g.row.W.Denot g.row.D.Denot). Proceeds g.W.Wires.told g.D.Disk.disk k (record hub { wires = c.take-taken.new.self; calls = c.note_ended.new.self })) c.self.view_is
    (beside g.W.Wires.told g.D.Disk.disk g.met.D.Disk.only_now hub c.take-taken.new.self c.note_ended.new.self (Ended c.args.place) refl refl c.in-Over.ensures.gives c.note_ended.ensures)

pub returns-in-Pending-clause-goes_on : goal.returns-in-Pending-clause-goes_on
returns-in-Pending-clause-goes_on g c =
    let hub : HubState g.row.W.Denot g.row.D.Denot = record {
      wires = c.self.inside.wires;
      journal = c.self.inside.journal;
      disk = c.self.inside.disk;
      batch = c.self.inside.batch;
      fault = c.self.inside.fault;
      held = c.self.inside.held;
      calls = c.self.inside.calls;
    } in
    subst (λ (k : HubState g.row.W.Denot g.row.D.Denot). Proceeds g.W.Wires.told g.D.Disk.disk k (record hub { wires = c.take-taken.new.self; calls = c.note_blocked.new.self })) c.self.view_is
    (beside g.W.Wires.told g.D.Disk.disk g.met.D.Disk.only_now hub c.take-taken.new.self c.note_blocked.new.self (Blocked c.args.place) refl refl c.in-Pending.ensures.gives.1 c.note_blocked.ensures)
