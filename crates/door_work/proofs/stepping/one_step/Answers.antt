use Rattle.std.proofs.Common.{◌≡◌, Err, Ok, ap, ◌∙◌}
use Rattle.door_work.proofs.HaltLaws.{disk_still, err_over}
use Rattle.door_work.proofs.StepLaws.{kept_note, kept_answer, halted_at}
use Rattle.door_work.specs.declared.record.Record.{Record}
use Rattle.door_work.specs.declared.stepping.Course.{Course}
use Rattle.door_work.proofs.stepping.one_step.Goals as goal
use Rattle.door_work.proofs.stepping.one_step.Goals.{in-Note, in-Ask+in-Ok}

pub returns-in-Err-clause-step : goal.returns-in-Err-clause-step
returns-in-Err-clause-step g c =
    halted_at _ _ _ g.D.Disk.disk g.D.Counted.seen _ _ _ _ _ _
    (c.in-Ask.ensures.next ∙ ap g.M.Asks.asking.next_of c.machine.ensures.value) c.in-Err.ensures.asked

pub returns-in-Err-clause-early : goal.returns-in-Err-clause-early
returns-in-Err-clause-early g c server n told = c.in-Err.ensures.early server n (err_over Course Record _ _ told)

pub returns-in-Err-clause-disk_fault : goal.returns-in-Err-clause-disk_fault
returns-in-Err-clause-disk_fault g c =
    disk_still Course g.M.Asks.asking _ _ _ _ _ c.in-Err.ensures.asked.came

pub returns-in-Ok-keep-clause-step : goal.returns-in-Ok-keep-clause-step
returns-in-Ok-keep-clause-step g c = elim c.match-next.branch [
  | in-Note w ↦
      let same : w.in-Note.record.now ≡ c.match-next.record = cc (w.record-is, w.of-record.ensures) in
      let still : c.match-next.net ≡ c.args.net.now = cc w.net-is in
      kept_note _ _ _ g.D.Disk.disk g.D.Counted.seen _ _ w.in-Note.record.now _ (Ok c.in-Ok-keep.field-0) _ _
      (w.in-Note.ensures.next ∙ ap g.M.Asks.asking.next_of c.machine.ensures.value) same
      (ap (λ (n : g.row.N.Denot). (g.N.Counted.seen n).calls) still) c.in-Ok-keep.ensures.keeps
  | in-Ask+in-Ok w ↦
      let same : w.in-Ok.record ≡ c.match-next.record = cc w.record-is in
      let still : c.match-next.net ≡ w.ask.new.net = cc w.net-is in
      kept_answer _ _ _ g.D.Disk.disk g.D.Counted.seen _ _ _ _ w.in-Ok.record _ (Ok c.in-Ok-keep.field-0) _ _ _
      (w.in-Ask.ensures.next ∙ ap g.M.Asks.asking.next_of c.machine.ensures.value) w.in-Ok.ensures.asked same
      (ap (λ (n : g.row.N.Denot). (g.N.Counted.seen n).calls) still) c.in-Ok-keep.ensures.keeps
]

pub returns-in-Err-keep-clause-step : goal.returns-in-Err-keep-clause-step
returns-in-Err-keep-clause-step g c = elim c.match-next.branch [
  | in-Note w ↦
      let same : w.in-Note.record.now ≡ c.match-next.record = cc (w.record-is, w.of-record.ensures) in
      let still : c.match-next.net ≡ c.args.net.now = cc w.net-is in
      kept_note _ _ _ g.D.Disk.disk g.D.Counted.seen _ _ w.in-Note.record.now _ (Err c.in-Err-keep.fault) _ _
      (w.in-Note.ensures.next ∙ ap g.M.Asks.asking.next_of c.machine.ensures.value) same
      (ap (λ (n : g.row.N.Denot). (g.N.Counted.seen n).calls) still) c.in-Err-keep.ensures.keeps
  | in-Ask+in-Ok w ↦
      let same : w.in-Ok.record ≡ c.match-next.record = cc w.record-is in
      let still : c.match-next.net ≡ w.ask.new.net = cc w.net-is in
      kept_answer _ _ _ g.D.Disk.disk g.D.Counted.seen _ _ _ _ w.in-Ok.record _ (Err c.in-Err-keep.fault) _ _ _
      (w.in-Ask.ensures.next ∙ ap g.M.Asks.asking.next_of c.machine.ensures.value) w.in-Ok.ensures.asked same
      (ap (λ (n : g.row.N.Denot). (g.N.Counted.seen n).calls) still) c.in-Err-keep.ensures.keeps
]
