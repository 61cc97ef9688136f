use Rattle.std.proofs.Common.{◌≡◌, ◌+◌, ℕ, List, length, map, take, sym, ap, ◌∙◌, arith}
use Rattle.dpf_rules.specs.Evaluation.{prefix_count}
use Rattle.dpf_rules.specs.Walk.{leaf_of}
use Rattle.audit_rules.specs.declared.sums.Sums.{Sums}
use Rattle.audit_rules.specs.Audit.{opening_of}
use Rattle.audit_rules.specs.Challenges.{sums_under}
use Rattle.box_registry.specs.Boxes as registry
use Rattle.audit_rules.specs.Values.{opens, sums_at}
use Rattle.step_rules.specs.Boxes.{addresses_of}
use Rattle.server_boxes.specs.Held.{Holdings}
use Rattle.server_boxes.proofs.Both.{length-boxes_in, addresses-boxes_in, fits}
use Rattle.server_boxes.proofs.boxes.ServerBoxes.open_write.Goals as goal

pub fill-requires-clause-there : goal.fill-requires-clause-there
fill-requires-clause-there g c =
    let i = c.self.inside in
    omega (arith, c.requires.there, length-boxes_in i.registry.boxes i.shares.boxes (fits i.registry i.shares c.self.invariant), ap (λ (h : Holdings). length h.boxes) c.self.view_is)

pub returns-clause-leaves : goal.returns-clause-leaves
returns-clause-leaves g c =
    let i = c.self.inside in
    let same : registry.addresses_of i.registry.boxes ≡ addresses_of c.args.self.now.boxes =
    sym (addresses-boxes_in i.registry.boxes i.shares.boxes (fits i.registry i.shares c.self.invariant)) ∙ ap (λ (h : Holdings). addresses_of h.boxes) c.self.view_is in
    c.fill.ensures.leaves ∙ ap (λ xs. map (leaf_of c.args.room.now.part.items c.args.server c.args.begun.now.root) (take c.args.begun.now.count xs)) same

pub returns-clause-steps : goal.returns-clause-steps
returns-clause-steps g c =
    let i = c.self.inside in
    let same : registry.addresses_of i.registry.boxes ≡ addresses_of c.args.self.now.boxes =
    sym (addresses-boxes_in i.registry.boxes i.shares.boxes (fits i.registry i.shares c.self.invariant)) ∙ ap (λ (h : Holdings). addresses_of h.boxes) c.self.view_is in
    c.fill.ensures.steps ∙ ap (λ xs. c.args.steps.now + prefix_count (take c.args.begun.now.count xs)) same

pub returns-clause-opened : goal.returns-clause-opened
unfolding opens sums_at
returns-clause-opened g c =
    let i = c.self.inside in
    let n = c.args.begun.now.count in
    let same : registry.addresses_of i.registry.boxes ≡ addresses_of c.args.self.now.boxes =
    sym (addresses-boxes_in i.registry.boxes i.shares.boxes (fits i.registry i.shares c.self.invariant)) ∙ ap (λ (h : Holdings). addresses_of h.boxes) c.self.view_is in
    let first = c.first-addresses.ensures.first ∙ (ap (λ (b : registry.Boxes). take n (registry.addresses_of b.boxes)) c.fill.ensures.same ∙ ap (take n) same) in
    let own = c.fill.ensures.leaves ∙ ap (λ xs. map (leaf_of c.args.room.now.part.items c.args.server c.args.begun.now.root) (take n xs)) same in
    c.open_share.ensures.openings
    ∙ ap (λ (x : Sums). opening_of x c.args.proof.now.share c.args.proof.now.sigma)
    (c.sums-sums.ensures.sums
    ∙ (ap (λ (l : List ℕ). sums_under c.args.begun.now.ckey c.first-addresses.result.now (take n l)) c.deref.ensures.value
    ∙ (ap (λ a. sums_under c.args.begun.now.ckey a (take n c.fill.new.room.leaves.items)) first
    ∙ ap (sums_under c.args.begun.now.ckey (take n (addresses_of c.args.self.now.boxes))) own)))
