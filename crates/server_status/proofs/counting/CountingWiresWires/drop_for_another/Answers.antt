use Rattle.server_status.proofs.TallyLaws.{goes_on}
use Rattle.server_status.proofs.counting.CountingWiresWires.drop_for_another.Goals as goal

pub invariant_of-self : goal.invariant_of-self
invariant_of-self g c = goes_on _ _ _ _ _ c.note_dropped.ensures c.self.invariant c.drop_one.ensures
