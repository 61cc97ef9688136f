use Rattle.link_order.proofs.RingLaws.{length-frames_from}
use Rattle.link_order.proofs.frame_ring.FrameRing.len.Goals as goal

pub returns-clause-len : goal.returns-clause-len
returns-clause-len c = rw (← c.self.view_is, length-frames_from) c.len.ensures.len
