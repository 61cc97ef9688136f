use Rattle.std.proofs.Common.{Some, sym, ap, ◌∙◌, arith}
use Rattle.lane_gate.specs.Notes.{note_record}
use Rattle.lane_gate.proofs.NoteLaws.{front}
use Rattle.lane_gate.proofs.machine.LaneGateTakesNote.record.Goals as goal

pub returns-clause-some : goal.returns-clause-some
returns-clause-some c =
    ap Some (sym (front (note_record c.args.input.now) c.copy_from_slice.new.self _ (c.copy_from_slice.ensures.after ∙ c.record.ensures) (omega (arith, c.requires.hash))))

pub returns-clause-is : goal.returns-clause-is
returns-clause-is c = record {
  note = c.args.input.now;
  whole = c.requires;
  is = front (note_record c.args.input.now) c.copy_from_slice.new.self _ (c.copy_from_slice.ensures.after ∙ c.record.ensures) (omega (arith, c.requires.hash));
}
