use Rattle.std.proofs.Common.{refl}
use Rattle.server_status.proofs.TallyLaws.{goes_on}
use Rattle.server_status.proofs.counting.CountingWiresWires.send_again.Goals as goal

pub invariant_of-self : goal.invariant_of-self
invariant_of-self g c = goes_on _ _ _ _ _ c.note_sent_again.ensures c.self.invariant refl
