use Rattle.std.proofs.Common.{◌≡◌, map}
use Rattle.std.specs.List.{range_with_len}
use Rattle.dpf_rules.specs.Walk.{state_at}
use Rattle.write_hiding.specs.Choices.{plain_choice}
use Rattle.write_hiding.specs.Moved.{moved_at}
use Rattle.write_hiding.proofs.expansions.moved_levels.Given as goal

abbrev pub invariant-loop-level : goal.invariant-loop-level
invariant-loop-level l =
    let c = plain_choice l.choice in
    let viewer = l.choice.viewer in
    record {
      state : l.state ≡ state_at l.part viewer c.own_root l.to l.level;
      pairs : l.pairs.items ≡ map (moved_at l.part viewer c.own_root c.other l.from l.to) (range_with_len 0 l.level);
    }
