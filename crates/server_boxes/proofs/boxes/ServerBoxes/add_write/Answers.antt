use Rattle.std.proofs.Common.{◌≡◌, ◌≤◌, ℕ, List, length, map, take, sym, ap, subst, ◌∙◌, arith}
use Rattle.std.proofs.lemmas.List.{length-drop, length-take}
use Rattle.dpf_rules.specs.Walk.{last_of, leaf_of}
use Rattle.share_store.specs.Shares.{Shares, shares_of, shares_with}
use Rattle.step_rules.specs.Boxes as steps
use Rattle.server_boxes.specs.Held.{Holdings, HasSameAddresses, with_boxes, with_leaves}
use Rattle.server_boxes.specs.Pairs.{held_in}
use Rattle.server_boxes.proofs.Both.{leaves-boxes_in, length-boxes_in, fits, written_boxes, written_rows, same_addresses}
use Rattle.server_boxes.proofs.boxes.ServerBoxes.add_write.Goals as goal

pub add_write-requires-clause-width : goal.add_write-requires-clause-width
unfolding last_of
add_write-requires-clause-width c =
    let e = ap length c.in-Some.ensures.value in
    omega (arith, length-drop 2064 c.in-Some.part, e, ap length c.deref.ensures.value, c.requires.part, ap (λ (h : Holdings). h.width) c.self.view_is)

pub add_write-requires-clause-boxes : goal.add_write-requires-clause-boxes
add_write-requires-clause-boxes c =
    let i = c.self.inside in
    let f = fits i.registry i.shares c.self.invariant in
    omega (arith, c.requires.there, f, length-boxes_in i.registry.boxes i.shares.boxes f, ap (λ (h : Holdings). length h.boxes) c.self.view_is)

pub invariant_of-self : goal.invariant_of-self
invariant_of-self c =
    let i = c.self.inside in
    let f = fits i.registry i.shares c.self.invariant in
    let few : c.args.begun.now.count ≤ length i.registry.boxes =
    omega (arith, c.requires.there, length-boxes_in i.registry.boxes i.shares.boxes f, ap (λ (h : Holdings). length h.boxes) c.self.view_is) in
    written_rows i.registry i.shares c.self.invariant c.in-Some.part (take c.args.begun.now.count c.deref-in-Some.result.now) c.add_write.new.self (omega (arith, few, length-take c.args.begun.now.count c.deref-in-Some.result.now)) c.add_write.ensures

pub returns-clause-leaves : goal.returns-clause-leaves
returns-clause-leaves c =
    let i = c.self.inside in
    let leaves = take c.args.begun.now.count c.args.room.now.leaves.items in
    let f = fits i.registry i.shares c.self.invariant in
    subst (λ (h : Holdings). held_in i.registry c.add_write.new.self ≡ with_boxes h (with_leaves c.args.room.now.part.items leaves h.boxes)) c.self.view_is
    (ap (held_in i.registry)
    (c.add_write.ensures
    ∙ (ap (λ (p : List ℕ). shares_of i.shares.width (shares_with p (take c.args.begun.now.count c.deref-in-Some.result.now) i.shares.boxes)) (c.in-Some.ensures.value ∙ c.deref.ensures.value)
    ∙ ap (λ (l : List ℕ). shares_of i.shares.width (shares_with c.args.room.now.part.items (take c.args.begun.now.count l) i.shares.boxes)) c.deref-in-Some.ensures.value))
    ∙ ap (with_boxes (held_in i.registry i.shares)) (leaves-boxes_in c.args.room.now.part.items leaves i.registry.boxes i.shares.boxes f))

pub returns-clause-added : goal.returns-clause-added
returns-clause-added c server leaves_are =
    let i = c.self.inside in
    subst (λ (h : Holdings). held_in i.registry c.add_write.new.self ≡ with_boxes h (steps.with_write c.args.room.now.part.items server c.args.begun.now.root c.args.begun.now.count h.boxes)) c.self.view_is
    (written_boxes i.registry i.shares c.self.invariant c.args.room.now.part.items server c.args.begun.now.root c.args.begun.now.count (take c.args.begun.now.count c.args.room.now.leaves.items) c.add_write.new.self
    (leaves_are ∙ ap (λ (h : Holdings). map (leaf_of c.args.room.now.part.items server c.args.begun.now.root) (take c.args.begun.now.count (steps.addresses_of h.boxes))) (sym c.self.view_is))
    (c.add_write.ensures
    ∙ (ap (λ (p : List ℕ). shares_of i.shares.width (shares_with p (take c.args.begun.now.count c.deref-in-Some.result.now) i.shares.boxes)) (c.in-Some.ensures.value ∙ c.deref.ensures.value)
    ∙ ap (λ (l : List ℕ). shares_of i.shares.width (shares_with c.args.room.now.part.items (take c.args.begun.now.count l) i.shares.boxes)) c.deref-in-Some.ensures.value)))

pub returns-clause-same : goal.returns-clause-same
returns-clause-same c =
    let i = c.self.inside in
    let f = fits i.registry i.shares c.self.invariant in
    let few : c.args.begun.now.count ≤ length i.registry.boxes =
    omega (arith, c.requires.there, length-boxes_in i.registry.boxes i.shares.boxes f, ap (λ (h : Holdings). length h.boxes) c.self.view_is) in
    subst (λ (h : Holdings). HasSameAddresses h (held_in i.registry c.add_write.new.self)) c.self.view_is
    (same_addresses i.registry i.shares c.add_write.new.self c.self.invariant
    (written_rows i.registry i.shares c.self.invariant c.in-Some.part (take c.args.begun.now.count c.deref-in-Some.result.now) c.add_write.new.self (omega (arith, few, length-take c.args.begun.now.count c.deref-in-Some.result.now)) c.add_write.ensures)
    (ap (λ (s : Shares). s.width) c.add_write.ensures))
