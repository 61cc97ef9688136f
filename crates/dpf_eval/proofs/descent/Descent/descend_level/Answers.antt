use Rattle.std.proofs.Common.{◌≡◌, ◌<◌, ◌≤◌, ℕ, ◌++◌, ◌∙◌, ap, refl, length, take, drop, arith}
use Rattle.std.proofs.lemmas.List.{length-take-le}
use Rattle.dpf_rules.specs.Walk.{step}
use Rattle.dpf_eval.proofs.GroupLemmas.{group_pair}
use Rattle.dpf_eval.proofs.LevelLemmas.{groups-prefixes}
use Rattle.dpf_eval.proofs.OrderLemmas.{read_whole}
use Rattle.dpf_eval.proofs.descent.Descent.descend_level.Goals as goal

pub descend-requires-clause-pairs : goal.descend-requires-clause-pairs
descend-requires-clause-pairs g c k inside =
    let splits = c.args.entries.now.splits.items in
    let states = c.args.self.now in
    let nodes = c.gather-groups.new.nodes in
    let states_are : c.deref.result.now ≡ states = c.deref.ensures.value ∙ c.self.view_is in
    let nodes_are : c.deref-3.result.now ≡ nodes =
    c.deref-3.ensures.value ∙ read_whole c.self.inside.nodes.len nodes (drop (length nodes) c.self.inside.nodes.items) (omega arith) in
    let pairs_are : c.deref-6.result.now ≡ c.expand.new.pairs =
    c.deref-6.ensures.value ∙ read_whole c.self.inside.pairs.len c.expand.new.pairs (drop (length c.expand.new.pairs) c.self.inside.pairs.items) (omega arith) in
    let within : k < length splits = omega (arith, ap (length {A = ℕ}) c.deref-4.ensures.value) in
    let room : c.gather-groups.result ≤ length nodes =
    omega (arith, ap (length {A = ℕ}) c.deref-2.ensures.value, ap (length {A = ℕ}) c.self.view_is) in
    rw (pairs_are, c.deref-5.ensures.value, c.deref_mut-3.ensures.value, c.self.view_is)
    (group_pair splits states nodes c.expand.new.pairs c.args.level c.gather-groups.result
    (omega (arith, c.requires.split.first)) (rw c.deref-2.ensures.value at c.gather-groups.ensures.count) room
    (rw (c.deref-2.ensures.value, states_are) at c.gather-groups.ensures.nodes) (rw nodes_are at c.expand.ensures.pairs) k within)

pub returns-clause-states : goal.returns-clause-states
unfolding step
returns-clause-states g c k inside =
    let states = c.descend.new.states in
    let states_are : take c.self.inside.states.len (states ++ drop (length states) c.self.inside.states.items) ≡ states =
    read_whole c.self.inside.states.len states (drop (length states) c.self.inside.states.items) (omega arith) in
    let within : k < length c.deref-4.result.now = omega (arith, ap (length {A = ℕ}) c.deref-4.ensures.value) in
    rw states_are
    (rw (c.correction_at-correction.ensures, c.deref-4.ensures.value, c.deref_mut-3.ensures.value, c.self.view_is) at (c.descend.ensures k within))

pub returns-clause-steps : goal.returns-clause-steps
returns-clause-steps g c =
    let addresses = c.args.entries.now.addresses.items in
    let splits = c.args.entries.now.splits.items in
    let groups = c.gather-groups.result in
    let room : groups ≤ length c.deref-3.result.now =
    omega (arith, ap (length {A = ℕ}) c.deref-2.ensures.value, ap (length {A = ℕ}) c.self.view_is) in
    let many : length (take groups c.deref-3.result.now) ≡ groups = length-take-le groups c.deref-3.result.now room in
    c.expand.ensures.steps
    ∙ rw (many, c.gather-groups.ensures.count, c.deref-2.ensures.value, c.requires.splits)
    (rw (groups-prefixes c.args.level addresses splits (omega arith) c.requires.splits c.requires.split c.requires.rising) refl)
