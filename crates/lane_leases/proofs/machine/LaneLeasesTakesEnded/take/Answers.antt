use Rattle.lane_leases.specs.declared.record.LeaderNote.TheVariants as leader
use Rattle.lane_leases.proofs.RecordLaws.{same-bytes}
use Rattle.lane_leases.proofs.machine.LaneLeasesTakesEnded.take.Goals as goal

pub returns-clause-steps : goal.returns-clause-steps
returns-clause-steps c = λ bytes is. record {
  note = leader.Ended c.args.input.now;
  whole = c.requires.input;
  is = same-bytes _ bytes is;
  step = c.end.ensures;
}
