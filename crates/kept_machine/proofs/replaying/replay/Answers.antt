use Rattle.std.proofs.Common.{◌∙◌, refl}
use Rattle.kept_machine.proofs.FaultLaws.{on_foreign, on_damaged}
use Rattle.kept_machine.proofs.ReplayLaws.{replays_start, replays_on, reads_then, reads_damaged}
use Rattle.kept_machine.proofs.replaying.replay.Goals as goal

pub loop-number-init : goal.loop-number-init
loop-number-init g c = record {
  steps = replays_start g.M.Machine.rules c.args.journal.now _ _ c.requires.reading c.requires.behind;
  sound = c.requires.sound;
  count = refl;
}

pub loop-number-preserved : goal.loop-number-preserved
loop-number-preserved g c =
    let D = g.D.Disk in
    record {
      steps = replays_on g.M.Machine.rules c.args.journal.now.limit c.args.journal.now.end c.loop-number.number c.loop-number.journal c.replay_next.new.journal
          c.args.machine.now c.loop-number.machine c.replay_next.new.machine
          (D.disk c.args.disk.now) (D.disk c.loop-number.disk) (D.disk c.replay_next.new.disk)
          c.loop-number.invariant.steps (c.in-Ok-true.ensures.stepped (cc)) c.in-Ok-true.ensures.reading c.replay_next.ensures.untouched;
      sound = c.replay_next.ensures.sound;
      count = c.in-Ok-true.ensures.counts ∙ c.loop-number.invariant.count;
    }

pub returns-in-Err-clause-foreign : goal.returns-in-Err-clause-foreign
returns-in-Err-clause-foreign g c =
    on_foreign c.in-Err.fault _ _
    (λ n here. reads_then g.M.Machine.rules _ c.args.journal.now.limit c.args.journal.now.end c.loop-number.number n c.loop-number.journal _ _ c.loop-number.invariant.steps.so_far here.0 here.1)
    c.in-Err.ensures.foreign

pub returns-in-Err-clause-damaged : goal.returns-in-Err-clause-damaged
returns-in-Err-clause-damaged g c =
    on_damaged c.in-Err.fault _ _
    (λ n here. reads_damaged g.M.Machine.rules c.args.journal.now.limit c.args.journal.now.end c.loop-number.number n c.loop-number.journal _ _ c.loop-number.invariant.steps.so_far here.0 here.1)
    c.in-Err.ensures.damaged
