use Rattle.std.proofs.Common.{◌≡◌, ◌≢◌, ℕ, ◌∙◌, sym, slice_index, get_or-set_other, arith}
use Rattle.std.proofs.lemmas.List.Edits.{fill_by_more}
use Rattle.dpf_rules.specs.Walk.{side_at}
use Rattle.dpf_eval.specs.Groups.{stepped}
use Rattle.dpf_eval.proofs.GroupLemmas.{groups_more}
use Rattle.dpf_eval.proofs.levels.descend.Goals as goal

pub loop-k-preserved : goal.loop-k-preserved
loop-k-preserved c =
    let k = c.loop-k.k in
    let states = c.loop-k.states in
    let next = λ (j : ℕ). stepped c.args.correction.now.left c.args.correction.now.right
    (side_at (slice_index c.args.addresses.now j) c.args.level) (slice_index c.args.states.now j) in
    let here : slice_index states k ≡ slice_index c.args.states.now k = c.loop-k.invariant.rest k (omega arith) in
    let value : c.step.result ≡ next k = rw (← here) c.step.ensures in
    record {
      count = c.groups_after-groups.ensures ∙ rw c.loop-k.invariant.count (sym (groups_more c.args.splits.now c.args.level k (omega arith)));
      done = rw value (fill_by_more next states k 0 (omega arith) c.loop-k.invariant.done);
      rest = λ j later.
          let other : j ≢ k = omega arith in
          get_or-set_other states k j c.step.result 0 other ∙ c.loop-k.invariant.rest j (omega arith);
    }
