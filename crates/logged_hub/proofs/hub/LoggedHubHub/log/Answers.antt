use Rattle.std.proofs.Common.{◌++◌, refl, inl, inr, ⊎_elim, sym, subst, Some}
use Rattle.node_journal.specs.Disk.{Within}
use Rattle.many_words.specs.Events.{records_of, LogFailed}
use Rattle.logged_hub.specs.Calls.{written}
use Rattle.logged_hub.specs.Runs.{Fails, Proceeds}
use Rattle.logged_hub.specs.State.{HubState}
use Rattle.logged_hub.proofs.HubLaws.{kept-beside, kept-failed, kept-logged, leaves-only-whole, no-fault, some-fault}
use Rattle.logged_hub.proofs.RunLaws.{failed-again, log-failed, logged}
use Rattle.logged_hub.proofs.hub.LoggedHubHub.log.Goals as goal

pub invariant_of-self : goal.invariant_of-self
invariant_of-self g c =
    let hub = c.self.inside in
    kept-beside (g.D.Disk.disk hub.disk) hub.journal hub.batch.records hub.held hub.fault hub.calls c.note_log_failed.new.self _ c.note_log_failed.ensures refl c.self.invariant

pub invariant_of-self-in-Ok : goal.invariant_of-self-in-Ok
invariant_of-self-in-Ok g c =
    let none = no-fault c.self.inside.fault c.if-is_some.ensures in
    kept-logged (g.D.Disk.disk c.self.inside.disk) (g.D.Disk.disk c.write_all.new.disk) c.write_all.new.journal c.write_all.new.batch.records c.self.inside.held c.self.inside.fault c.self.inside.calls c.note_logged.new.self c.args.entries.now
    none c.note_logged.ensures c.in-Ok.ensures.ready (c.self.invariant.held none) c.in-Ok.ensures.kept

pub invariant_of-self-in-Err : goal.invariant_of-self-in-Err
invariant_of-self-in-Err g c =
    let D = g.D.Disk in
    let none = no-fault c.self.inside.fault c.if-is_some.ensures in
    let leaves = c.in-Err.ensures.any_moment in
    kept-beside (D.disk c.write_all.new.disk) c.write_all.new.journal c.write_all.new.batch.records c.self.inside.held _ c.self.inside.calls c.note_log_failed-in-Err.new.self LogFailed c.note_log_failed-in-Err.ensures refl
    (kept-failed (D.disk c.self.inside.disk) (D.disk c.write_all.new.disk) c.self.inside.journal c.write_all.new.journal c.write_all.new.batch.records (c.self.inside.held ++ written c.self.inside.calls) (records_of c.args.entries.now) c.in-Err.fault
    (c.self.invariant.ready none) (c.self.invariant.held none) leaves c.in-Err.ensures.limit
    (λ b leave. g.met.D.Disk.counts_now c.write_all.new.disk (D.disk c.self.inside.disk).moment b leaves.later leave)
    (⊎_elim (λ same. inl (subst (λ d. Within (D.disk d).may_leave (D.disk c.self.inside.disk).may_leave) (sym same) (λ b leave. leave))) (λ is. inr is) c.in-Err.ensures.batch))

pub returns-then-is_some-clause-fails : goal.returns-then-is_some-clause-fails
returns-then-is_some-clause-fails g c =
    let hub : HubState g.row.W.Denot g.row.D.Denot = record {
      wires = c.self.inside.wires;
      journal = c.self.inside.journal;
      disk = c.self.inside.disk;
      batch = c.self.inside.batch;
      fault = c.self.inside.fault;
      held = c.self.inside.held;
      calls = c.self.inside.calls;
    } in
    subst (λ (k : HubState g.row.W.Denot g.row.D.Denot). Fails g.W.Wires.told g.D.Disk.disk k (record hub { calls = c.note_log_failed.new.self })) c.self.view_is
    (failed-again g.W.Wires.told g.D.Disk.disk g.met.D.Disk.only_now hub c.note_log_failed.new.self c.note_log_failed.ensures (some-fault c.self.inside.fault c.if-is_some.ensures))

pub returns-in-Ok-clause-goes_on : goal.returns-in-Ok-clause-goes_on
returns-in-Ok-clause-goes_on g c =
    let hub : HubState g.row.W.Denot g.row.D.Denot = record {
      wires = c.self.inside.wires;
      journal = c.self.inside.journal;
      disk = c.self.inside.disk;
      batch = c.self.inside.batch;
      fault = c.self.inside.fault;
      held = c.self.inside.held;
      calls = c.self.inside.calls;
    } in
    let none = no-fault c.self.inside.fault c.if-is_some.ensures in
    subst (λ (k : HubState g.row.W.Denot g.row.D.Denot). Proceeds g.W.Wires.told g.D.Disk.disk k (record hub { journal = c.write_all.new.journal; disk = c.write_all.new.disk; batch = c.write_all.new.batch; calls = c.note_logged.new.self })) c.self.view_is
    (logged g.W.Wires.told g.D.Disk.disk g.met.D.Disk.only_now hub c.write_all.new.journal c.write_all.new.disk c.write_all.new.batch c.note_logged.new.self c.args.entries.now
    none c.in-Ok.ensures.limit
    (λ held. leaves-only-whole hub.journal.limit (hub.held ++ written hub.calls) (records_of c.args.entries.now) (g.D.Disk.disk hub.disk) (g.D.Disk.disk c.write_all.new.disk) held c.in-Ok.ensures.any_moment)
    c.note_logged.ensures
    (λ kept. kept-logged (g.D.Disk.disk c.self.inside.disk) (g.D.Disk.disk c.write_all.new.disk) c.write_all.new.journal c.write_all.new.batch.records c.self.inside.held c.self.inside.fault c.self.inside.calls c.note_logged.new.self c.args.entries.now
    none c.note_logged.ensures c.in-Ok.ensures.ready (kept.held none) c.in-Ok.ensures.kept))

pub returns-in-Err-clause-fails : goal.returns-in-Err-clause-fails
returns-in-Err-clause-fails g c =
    let hub : HubState g.row.W.Denot g.row.D.Denot = record {
      wires = c.self.inside.wires;
      journal = c.self.inside.journal;
      disk = c.self.inside.disk;
      batch = c.self.inside.batch;
      fault = c.self.inside.fault;
      held = c.self.inside.held;
      calls = c.self.inside.calls;
    } in
    let D = g.D.Disk in
    let none = no-fault c.self.inside.fault c.if-is_some.ensures in
    let leaves = c.in-Err.ensures.any_moment in
    subst (λ (k : HubState g.row.W.Denot g.row.D.Denot). Fails g.W.Wires.told g.D.Disk.disk k (record hub { journal = c.write_all.new.journal; disk = c.write_all.new.disk; batch = c.write_all.new.batch; fault = Some c.in-Err.fault; calls = c.note_log_failed-in-Err.new.self })) c.self.view_is
    (log-failed g.W.Wires.told g.D.Disk.disk g.met.D.Disk.only_now hub c.write_all.new.journal c.write_all.new.disk c.write_all.new.batch c.note_log_failed-in-Err.new.self c.args.entries.now
    none c.in-Err.ensures.limit
    (λ held. leaves-only-whole hub.journal.limit (hub.held ++ written hub.calls) (records_of c.args.entries.now) (g.D.Disk.disk hub.disk) (g.D.Disk.disk c.write_all.new.disk) held leaves)
    c.in-Err.fault c.note_log_failed-in-Err.ensures c.in-Err.ensures.batch
    (λ kept. kept-beside (D.disk c.write_all.new.disk) c.write_all.new.journal c.write_all.new.batch.records c.self.inside.held _ c.self.inside.calls c.note_log_failed-in-Err.new.self LogFailed c.note_log_failed-in-Err.ensures refl
    (kept-failed (D.disk c.self.inside.disk) (D.disk c.write_all.new.disk) c.self.inside.journal c.write_all.new.journal c.write_all.new.batch.records (c.self.inside.held ++ written c.self.inside.calls) (records_of c.args.entries.now) c.in-Err.fault
    (kept.ready none) (kept.held none) leaves c.in-Err.ensures.limit
    (λ b leave. g.met.D.Disk.counts_now c.write_all.new.disk (D.disk c.self.inside.disk).moment b leaves.later leave)
    (⊎_elim (λ same. inl (subst (λ d. Within (D.disk d).may_leave (D.disk c.self.inside.disk).may_leave) (sym same) (λ b leave. leave))) (λ is. inr is) c.in-Err.ensures.batch)))
    (record { records = records_of c.args.entries.now; cause = c.in-Err.ensures.fault }))
