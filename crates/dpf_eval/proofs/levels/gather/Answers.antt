use Rattle.std.proofs.Common.{◌≡◌, ◌+◌, ◌<◌, ◌≤◌, length, slice_index, arith}
use Rattle.dpf_eval.specs.Groups.{groups_of}
use Rattle.dpf_eval.proofs.GroupLemmas.{groups_more_yes, groups_more_no, gathered_yes, gathered_no}
use Rattle.dpf_eval.proofs.levels.gather.Goals as goal
use Rattle.dpf_eval.proofs.levels.gather.Goals.{then-splits-k, else-splits-k}

pub loop-k-preserved : goal.loop-k-preserved
loop-k-preserved c =
    let splits = c.args.splits.now in
    let level = c.args.level in
    let k = c.loop-k.k in
    let inside : k < length splits = omega arith in
    let count : c.loop-k.groups ≡ groups_of splits level k = c.loop-k.invariant.count in
    elim c.if-splits-k.branch [
      | then-splits-k w ↦
          let here : slice_index splits k ≤ level = w.if-splits-k.true in
          let more : groups_of splits level (k + 1) ≡ groups_of splits level k + 1 = groups_more_yes splits level k inside here in
          record {
            count = omega arith;
            within = omega arith;
            nodes = rw (w.nodes-is, count) (gathered_yes splits level c.args.states.now c.loop-k.nodes k inside c.requires.first
                c.loop-k.invariant.nodes here (omega arith));
          }
      | else-splits-k w ↦
          let joins : level < slice_index splits k = w.if-splits-k.false in
          let more : groups_of splits level (k + 1) ≡ groups_of splits level k = groups_more_no splits level k inside joins in
          record {
            count = omega arith;
            within = omega arith;
            nodes = rw w.nodes-is (gathered_no splits level c.args.states.now c.loop-k.nodes k inside c.requires.first
                c.loop-k.invariant.nodes joins (λ j later apart. c.requires.grouped j (omega arith) apart));
          }
    ]
