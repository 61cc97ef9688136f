use Rattle.std.proofs.Common.{◌∙◌, refl, take}
use Rattle.kept_machine.proofs.FaultLaws.{on_foreign, on_damaged}
use Rattle.kept_machine.proofs.ReplayLaws.{reads_start, reads_on, reads_then, reads_damaged}
use Rattle.kept_machine.proofs.judging.judge_records.Goals as goal

pub loop-number-init : goal.loop-number-init
loop-number-init g c = record {
  so_far = reads_start g.M.Machine.rules c.args.journal.now _ c.requires.reading c.requires.behind;
  count = refl;
}

pub loop-number-preserved : goal.loop-number-preserved
loop-number-preserved g c =
    let one = rw c.in-Ok-Some.field-0-is at c.in-Ok-Some.ensures.stands in
    record {
      so_far = reads_on g.M.Machine.rules c.args.journal.now.limit c.args.journal.now.end c.loop-number.number c.loop-number.journal c.next_record.new.journal _ _ _
          (take c.in-Ok-Some.field-0-0 c.next_record.new.room) c.loop-number.invariant.so_far one c.in-Ok-Some.ensures.reading c.next_record.ensures.untouched;
      count = c.in-Ok-Some.ensures.counts ∙ c.loop-number.invariant.count;
    }

pub returns-in-Err-clause-foreign : goal.returns-in-Err-clause-foreign
returns-in-Err-clause-foreign g c =
    on_foreign c.in-Err.fault _ _
    (λ n here. reads_then g.M.Machine.rules _ c.args.journal.now.limit c.args.journal.now.end c.loop-number.number n c.loop-number.journal _ _ c.loop-number.invariant.so_far here.0 here.1)
    c.in-Err.ensures.foreign

pub returns-in-Err-clause-damaged : goal.returns-in-Err-clause-damaged
returns-in-Err-clause-damaged g c =
    on_damaged c.in-Err.fault _ _
    (λ n here. reads_damaged g.M.Machine.rules c.args.journal.now.limit c.args.journal.now.end c.loop-number.number n c.loop-number.journal _ _ c.loop-number.invariant.so_far here.0 here.1)
    c.in-Err.ensures.damaged
