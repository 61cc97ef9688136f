use Rattle.lane_leases.specs.declared.record.LeaderNote.TheVariants as leader
use Rattle.lane_leases.proofs.RecordLaws.{same-bytes, noted}
use Rattle.lane_leases.proofs.machine.LaneLeasesTakesNote.take.Goals as goal

pub returns-clause-steps : goal.returns-clause-steps
returns-clause-steps c = λ bytes is. record {
  note = leader.Row c.args.input.now;
  whole = c.requires.input;
  is = same-bytes _ bytes is;
  step = noted c.args.self.now c.note.new.self c.args.input.now c.note.result c.note.ensures.answer c.note.ensures.taken c.note.ensures.stays;
}
