use Rattle.std.proofs.Common.{refl}
use Rattle.server_status.proofs.TallyLaws.{goes_on}
use Rattle.server_status.proofs.counting.CountingWiresWires.take.Goals as goal

pub invariant_of-self : goal.invariant_of-self
invariant_of-self g c = goes_on _ _ _ _ _ c.note_came.ensures c.self.invariant refl

pub invariant_of-self-in-Over : goal.invariant_of-self-in-Over
invariant_of-self-in-Over g c = goes_on _ _ _ _ _ c.note_ended.ensures c.self.invariant refl

pub invariant_of-self-in-Pending : goal.invariant_of-self-in-Pending
invariant_of-self-in-Pending g c = goes_on _ _ _ _ _ c.note_blocked.ensures c.self.invariant refl
