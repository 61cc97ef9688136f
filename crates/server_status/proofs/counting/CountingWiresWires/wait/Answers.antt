use Rattle.server_status.proofs.TallyLaws.{goes_on}
use Rattle.server_status.proofs.counting.CountingWiresWires.wait.Goals as goal

pub invariant_of-self : goal.invariant_of-self
invariant_of-self g c = goes_on _ _ _ _ _ c.note_waited.ensures c.self.invariant c.begin_round.ensures
