use Rattle.std.proofs.Common.{refl}
use Rattle.server_status.proofs.TallyLaws.{goes_on}
use Rattle.server_status.proofs.counting.CountingWiresWires.open.Goals as goal

pub invariant_of-self : goal.invariant_of-self
invariant_of-self g c = goes_on _ _ _ _ _ c.note_opened.ensures c.self.invariant c.connect.ensures

pub invariant_of-self-else-open : goal.invariant_of-self-else-open
invariant_of-self-else-open g c = goes_on _ _ _ _ _ c.note_asked.ensures c.self.invariant refl
