use Rattle.std.proofs.Common.{◌≤◌, ◌+◌, ◌∙◌, ◌++◌, ◌∷◌, [], ℕ, refl, ap, arith, length, length-append, List}
use Rattle.std.proofs.Math.ListN.{length-set}
use Rattle.std.proofs.lemmas.List.Elements.{All-drop, All-push}
use Rattle.link_order.specs.Ring.{Held}
use Rattle.link_order.proofs.RingLaws.{ring-pushed, length-kept, length-kept-le}
use Rattle.link_order.proofs.frame_ring.FrameRing.push.Goals as goal

pub invariant_of-self : goal.invariant_of-self
invariant_of-self c =
    let fits = rw (← c.self.view_is) at c.requires.fits in
    let more = c.self.inside.lengths.items ++ length c.args.frame.now ∷ [] in
    let short : length more ≤ c.self.inside.pushed + 1 = simp length-append (omega (arith, c.self.invariant.4)) in
    rw (c.push_back.ensures.items, c.write.ensures, c.self.invariant.1) (
      c.self.invariant.0,
      refl,
      length-set c.self.inside.blocks.blocks _ _ ∙ c.self.invariant.2,
      length-kept c.self.inside.window more,
      omega (arith, length-kept-le c.self.inside.window more),
      All-drop (λ n. n ≤ c.self.inside.blocks.size) _ more (All-push (λ n. n ≤ c.self.inside.blocks.size) c.self.inside.lengths.items (length c.args.frame.now) c.self.invariant.5 fits),
    )

pub returns : goal.returns
returns c =
    rw (← c.self.view_is, c.push_back.ensures.items, c.write.ensures, c.self.invariant.1)
    (ap (λ (frames : List (List ℕ)). let h : Held = record { pushed = c.self.inside.pushed + 1; window = c.self.inside.window; size = c.self.inside.blocks.size; frames = frames } in h)
    (ring-pushed c.self.inside.blocks.blocks c.self.inside.window c.self.inside.pushed c.self.inside.lengths.items c.args.frame.now _ c.self.invariant.0 c.self.invariant.2 c.self.invariant.3 c.self.invariant.4))
