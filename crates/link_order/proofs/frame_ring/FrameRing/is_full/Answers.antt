use Rattle.std.proofs.lemmas.Bool.Decides.{nat_tests}
use Rattle.std.proofs.Common.{arith}
use Rattle.link_order.proofs.RingLaws.{length-frames_from}
use Rattle.link_order.proofs.frame_ring.FrameRing.is_full.Goals as goal

pub returns : goal.returns
returns c = rw (← c.self.view_is, length-frames_from) (grind (arith, nat_tests, c.is_full.ensures, c.self.invariant))
