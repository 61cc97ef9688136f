use Rattle.std.proofs.Common.{Ok, refl, ap, sym, ◌∙◌, subst}
use Rattle.desk_outbox.specs.Outboxes.{OutboxState}
use Rattle.desk_outbox.specs.Places.{is_under_way}
use Rattle.desk_outbox.specs.Works.{none, Works}
use Rattle.desk_outbox.proofs.WorkLaws.{nearer, worked_on, over_so, stops_so}
use Rattle.desk_outbox.proofs.outbox.Outbox.work.Goals as goal

pub steps-init : goal.steps-init
steps-init g c = record { onward = none; net = refl; disk = refl; door = refl }

pub steps-smaller : goal.steps-smaller
steps-smaller g c = nearer g.D.Disk.disk g.D.Counted.seen _ _ _ _ (rw (c.goes_on.ensures.on c.if-goes_on.true) at c.in-Ok.ensures.steps)

pub steps-preserved : goal.steps-preserved
steps-preserved g c =
    let step = rw (c.goes_on.ensures.on c.if-goes_on.true) at c.in-Ok.ensures.steps in
    let under = ap (λ (o : OutboxState g.row.D.Denot). is_under_way o.place.next) (sym c.self.view_is) ∙ sym c.is_under_way.ensures ∙ c.if-not-is_under_way.false in
    record {
      onward = worked_on g.D.Disk.disk g.D.Counted.seen _ _ _ _ _ _ c.steps.invariant.onward under step;
      net = c.in-Ok.ensures.net_fault ∙ c.steps.invariant.net;
      disk = c.in-Ok.ensures.disk_fault ∙ c.steps.invariant.disk;
      door = c.one_step.ensures.door ∙ c.steps.invariant.door;
    }

pub returns-then-not-is_under_way-clause-works : goal.returns-then-not-is_under_way-clause-works
returns-then-not-is_under_way-clause-works g c =
    let over = ap (λ (o : OutboxState g.row.D.Denot). is_under_way o.place.next) (sym c.self.view_is) ∙ sym c.is_under_way.ensures ∙ c.if-not-is_under_way.true in
    subst (λ (o : OutboxState g.row.D.Denot). Works g.D.Disk.disk g.D.Counted.seen c.args.self.now c.steps.self (Ok o.place.next) (g.N.Counted.seen c.args.net.now).calls (g.N.Counted.seen c.steps.net).calls) (sym c.self.view_is)
    (over_so g.D.Disk.disk g.D.Counted.seen _ _ _ _ c.steps.invariant.onward over)

pub returns-in-Ok-2-clause-works : goal.returns-in-Ok-2-clause-works
returns-in-Ok-2-clause-works g c =
    let under = ap (λ (o : OutboxState g.row.D.Denot). is_under_way o.place.next) (sym c.self.view_is) ∙ sym c.is_under_way.ensures ∙ c.if-not-is_under_way.false in
    stops_so g.D.Disk.disk g.D.Counted.seen _ _ _ _ _ _ _ c.steps.invariant.onward under
    (λ e. c.goes_on.ensures.other c.if-goes_on.false (cc e)) c.in-Ok.ensures.steps

pub returns-in-Err-clause-works : goal.returns-in-Err-clause-works
returns-in-Err-clause-works g c =
    let under = ap (λ (o : OutboxState g.row.D.Denot). is_under_way o.place.next) (sym c.self.view_is) ∙ sym c.is_under_way.ensures ∙ c.if-not-is_under_way.false in
    stops_so g.D.Disk.disk g.D.Counted.seen _ _ _ _ _ _ _ c.steps.invariant.onward under (λ e. absurd (cc e)) c.in-Err.ensures.steps
