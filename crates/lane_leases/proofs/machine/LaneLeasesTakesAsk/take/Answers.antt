use Rattle.lane_leases.specs.declared.record.LeaderNote.TheVariants as leader
use Rattle.lane_leases.proofs.RecordLaws.{same-bytes, told}
use Rattle.lane_leases.proofs.machine.LaneLeasesTakesAsk.take.Goals as goal

pub returns-clause-steps : goal.returns-clause-steps
returns-clause-steps c = λ bytes is. record {
  note = leader.Asked c.args.input.now;
  whole = c.requires.input;
  is = same-bytes _ bytes is;
  step = (c.lease.result, told c.args.self.now c.args.input.now c.lease.result c.lease.new.self c.lease.ensures.leased c.lease.ensures.used_up c.lease.ensures.stays);
}
