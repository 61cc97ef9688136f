use Rattle.std.proofs.Common.{◌≡◌, ◌+◌, ◌++◌, ◌∙◌, sym, ap, refl, slice_index, length, take, drop, arith, add-one, suc}
use Rattle.dpf_rules.specs.Expansion.{with_bit}
use Rattle.dpf_rules.specs.Walk.{state_at}
use Rattle.dpf_rules.specs.Evaluation.{prefixes_below}
use Rattle.dpf_eval.proofs.OrderLemmas.{read_whole}
use Rattle.dpf_eval.proofs.PrefixLemmas.{state_at-prefix}
use Rattle.dpf_eval.proofs.descent.Descent.descend_all.Goals as goal

pub loop-level-init : goal.loop-level-init
unfolding state_at prefixes_below
loop-level-init g c =
    let states = c.start.new.states in
    let states_are : take c.self.inside.states.len (states ++ drop (length states) c.self.inside.states.items) ≡ states =
    read_whole c.self.inside.states.len states (drop (length states) c.self.inside.states.items) (omega arith) in
    let root_is : c.with_bit-root.result ≡ with_bit c.args.key.root c.args.key.server =
    c.with_bit-root.ensures ∙ ap (with_bit c.args.key.root) c.from.ensures in
    record {
      states = λ k inside. rw states_are (c.start.ensures k (omega arith) ∙ root_is);
      room = refl;
      steps = omega arith;
    }

pub descend_level-requires-clause-grouped : goal.descend_level-requires-clause-grouped
descend_level-requires-clause-grouped g c k inside same =
    let addresses = c.args.entries.now.addresses.items in
    c.loop-level.invariant.states (k + 1) inside
    ∙ sym (state_at-prefix c.args.key.part.now c.args.key.server c.args.key.root (slice_index addresses k) (slice_index addresses (k + 1))
    c.loop-level.level (omega arith) same)
    ∙ sym (c.loop-level.invariant.states k (omega arith))

pub loop-level-preserved : goal.loop-level-preserved
unfolding state_at prefixes_below
loop-level-preserved g c =
    let levels : c.loop-level.level + 1 ≡ suc c.loop-level.level = add-one c.loop-level.level in
    record {
      states = λ k inside. rw (levels, ← c.loop-level.invariant.states k inside) (c.descend_level.ensures.states k inside);
      room = c.descend_level.ensures.room ∙ c.loop-level.invariant.room;
      steps = c.descend_level.ensures.steps ∙ rw (c.loop-level.invariant.steps, levels) (omega arith);
    }
