use Rattle.server_status.proofs.TallyLaws.{goes_on}
use Rattle.server_status.proofs.counting.CountingWiresWires.close.Goals as goal

pub invariant_of-self : goal.invariant_of-self
invariant_of-self g c = goes_on _ _ _ _ _ c.note_closed.ensures c.self.invariant c.disconnect.ensures
