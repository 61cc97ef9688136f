use Rattle.std.proofs.Common.{◌∷◌, ◌∙◌, Some, sym, ap, arith}
use Rattle.lane_leases.specs.Records.{end_number}
use Rattle.lane_leases.specs.declared.record.LeaderNote.TheVariants as leader
use Rattle.lane_leases.proofs.RecordLaws.{front}
use Rattle.lane_leases.proofs.machine.LaneLeasesTakesEnded.record.Goals as goal

pub returns-clause-some : goal.returns-clause-some
returns-clause-some c =
    ap Some (sym (front 34 (21 ∷ end_number c.args.input.now.end ∷ c.args.input.now.hash.0) c.copy_from_slice.new.self _ (c.copy_from_slice.ensures.after ∙ c.record.ensures) (omega (arith, c.requires))))

pub returns-clause-is : goal.returns-clause-is
returns-clause-is c = record {
  note = leader.Ended c.args.input.now;
  whole = c.requires;
  is = front 34 (21 ∷ end_number c.args.input.now.end ∷ c.args.input.now.hash.0) c.copy_from_slice.new.self _ (c.copy_from_slice.ensures.after ∙ c.record.ensures) (omega (arith, c.requires));
}
