use Rattle.std.proofs.Common.{◌≡◌, ◌+◌, ◌<◌, ℕ, length, map, filter, ap, ◌∙◌, slice_index, arith}
use Rattle.std.specs.Prelude.{nat_lt}
use Rattle.std.proofs.lemmas.List.{get_or-map, length-map}
use Rattle.dpf_rules.specs.Walk.{leaf_of}
use Rattle.dpf_eval.proofs.ChosenLemmas.{chosen_few, chosen_below, chosen_rise, chosen-prefix_count, leaves_written, rest_kept}
use Rattle.dpf_eval.proofs.scratch.Scratch.leaves_into.Goals as goal

pub descend_all-requires-clause-size : goal.descend_all-requires-clause-size
descend_all-requires-clause-size g c =
    let addresses = c.args.sorted.addresses.now in
    let order = c.args.sorted.order.now in
    let chosen = filter (λ b. nat_lt b c.args.count) order in
    rw (c.choose.ensures.addresses, c.choose.ensures.boxes)
    (omega (arith, length-map chosen (slice_index addresses), chosen_few addresses order c.args.count c.requires.order c.requires.there))

pub descend_all-requires-clause-room : goal.descend_all-requires-clause-room
descend_all-requires-clause-room g c =
    let addresses = c.args.sorted.addresses.now in
    let order = c.args.sorted.order.now in
    let chosen = filter (λ b. nat_lt b c.args.count) order in
    rw (c.choose.ensures.addresses, c.choose.ensures.boxes)
    (omega (
      arith,
      length-map chosen (slice_index addresses),
      chosen_few addresses order c.args.count c.requires.order c.requires.there,
      c.self.view_is,
    ))

pub descend_all-requires-clause-rising : goal.descend_all-requires-clause-rising
descend_all-requires-clause-rising g c =
    rw (c.choose.ensures.addresses, c.choose.ensures.boxes)
    (chosen_rise c.args.sorted.addresses.now c.args.sorted.order.now c.args.count c.requires.order c.requires.there)

pub write_at-requires-clause-inside : goal.write_at-requires-clause-inside
write_at-requires-clause-inside g c =
    rw (c.deref.ensures.value, c.choose.ensures.boxes)
    (λ k inside. omega (arith, chosen_below c.args.sorted.addresses.now c.args.sorted.order.now c.args.count c.requires.order c.requires.there k inside))

pub write_at-requires-clause-values : goal.write_at-requires-clause-values
write_at-requires-clause-values g c =
    let few = chosen_few c.args.sorted.addresses.now c.args.sorted.order.now c.args.count c.requires.order c.requires.there in
    rw (c.deref.ensures.value, c.choose.ensures.boxes, c.states.ensures) (omega (arith, few, c.self.view_is, c.descend_all.ensures.room))

pub returns-clause-leaves : goal.returns-clause-leaves
returns-clause-leaves g c =
    let addresses = c.args.sorted.addresses.now in
    let order = c.args.sorted.order.now in
    let count = c.args.count in
    let chosen = filter (λ b. nat_lt b count) order in
    let leaf = leaf_of c.args.key.part.now c.args.key.server c.args.key.root in
    let entries : c.choose.new.self.addresses.items ≡ map (slice_index addresses) chosen = rw c.choose.ensures.boxes at c.choose.ensures.addresses in
    let states : (k : ℕ) → k < length chosen → slice_index c.states.result.now k ≡ leaf (slice_index addresses (slice_index chosen k)) =
    λ k inside.
    let within : k < length (map (slice_index addresses) chosen) = omega (arith, length-map chosen (slice_index addresses)) in
    rw c.states.ensures ((rw entries at c.descend_all.ensures.leaves) k within ∙ ap leaf (get_or-map (slice_index addresses) chosen k 0 0 inside)) in
    leaves_written addresses order count c.requires.order c.requires.there leaf c.write_at.new.out (omega arith)
    ((rw (c.deref.ensures.value, c.choose.ensures.boxes) at c.write_at.ensures.written) (λ b. leaf (slice_index addresses b)) states)

pub returns-clause-rest : goal.returns-clause-rest
returns-clause-rest g c =
    rest_kept c.args.sorted.addresses.now c.args.sorted.order.now c.args.count c.requires.order c.requires.there c.write_at.new.out c.args.out.now (omega arith)
    (rw (c.deref.ensures.value, c.choose.ensures.boxes) at c.write_at.ensures.others)

pub returns-clause-steps : goal.returns-clause-steps
returns-clause-steps g c =
    c.descend_all.ensures.steps
    ∙ ap (λ (n : ℕ). c.args.steps.now + n)
    (rw (c.choose.ensures.addresses, c.choose.ensures.boxes)
    (chosen-prefix_count c.args.sorted.addresses.now c.args.sorted.order.now c.args.count c.requires.order c.requires.there))
