use Rattle.std.proofs.Common.{rules}
use Rattle.mio_wires.proofs.SlotLaws.{flushed_reads}
use Rattle.mio_wires.proofs.slot.Slot.take.Goals as goal

pub returns-clause-takes : goal.returns-clause-takes
returns-clause-takes c = record {
  reads = flushed_reads c.args.door c.take_flushed.result c.take_flushed.new.buf c.args.self.now c.flush.new.self c.take_flushed.new.self
      c.flush.ensures c.take_flushed.ensures.reads;
  lost = search rules;
}
