use Rattle.std.proofs.Common.{◌∷◌, ◌∙◌, Some, sym, ap, arith, length-append}
use Rattle.lane_leases.specs.Records.{ask_bytes}
use Rattle.lane_leases.specs.declared.record.LeaderNote.TheVariants as leader
use Rattle.lane_leases.proofs.RecordLaws.{front}
use Rattle.lane_leases.proofs.machine.LaneLeasesTakesAsk.record.Goals as goal

pub returns-clause-some : goal.returns-clause-some
returns-clause-some c =
    ap Some (sym (front 65 (20 ∷ ask_bytes c.args.input.now) c.copy_from_slice.new.self _ (c.copy_from_slice.ensures.after ∙ c.record.ensures) (simp length-append (omega (arith, c.requires.own, c.requires.helper)))))

pub returns-clause-is : goal.returns-clause-is
returns-clause-is c = record {
  note = leader.Asked c.args.input.now;
  whole = c.requires;
  is = front 65 (20 ∷ ask_bytes c.args.input.now) c.copy_from_slice.new.self _ (c.copy_from_slice.ensures.after ∙ c.record.ensures) (simp length-append (omega (arith, c.requires.own, c.requires.helper)));
}
