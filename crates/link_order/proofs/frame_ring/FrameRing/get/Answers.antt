use Rattle.std.proofs.Common.{◌≤◌, ◌-◌, ℕ, sym, ap, arith, length}
use Rattle.std.proofs.lemmas.List.{length-take-le}
use Rattle.link_order.proofs.RingLaws.{length-frames_from, frame-read}
use Rattle.link_order.proofs.frame_ring.FrameRing.get.Goals as goal

pub overflow_sub-newer-2 : goal.overflow_sub-newer-2
overflow_sub-newer-2 c = let within = rw (← c.self.view_is, length-frames_from) at c.requires in omega (arith, c.len.ensures.len)

pub slice_bounds-result-end : goal.slice_bounds-result-end
slice_bounds-result-end c =
    let within = rw (← c.self.view_is, length-frames_from) at c.requires in
    let fits : c.length_at-length.result ≤ length c.get-block.result.now =
    omega (arith, c.self.invariant.5 c.args.place 0 within, c.length_at-length.ensures, c.get-block.ensures.size) in
    sym (length-take-le c.length_at-length.result c.get-block.result.now fits)

pub returns : goal.returns
returns c =
    let within = rw (← c.self.view_is, length-frames_from) at c.requires in
    let len = c.len.ensures.len in
    rw (← c.self.view_is)
    (frame-read c.self.inside.blocks.blocks c.self.inside.window c.self.inside.pushed c.self.inside.lengths.items c.args.place _ _ _ within c.self.invariant.4 (ap (λ (n : ℕ). c.self.inside.pushed - (n - 1 - c.args.place)) len) c.length_at-length.ensures c.get-block.ensures.value)
