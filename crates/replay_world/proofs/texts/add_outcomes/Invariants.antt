use Rattle.std.proofs.Common.{◌≡◌, ◌++◌, drop}
use Rattle.std.specs.Prelude.{flat_map, string_bytes}
use Rattle.replay_world.specs.Output.{outcome_line}
use Rattle.replay_world.specs.Parts.{outcomes_in}
use Rattle.replay_world.proofs.texts.add_outcomes.Given as goal

abbrev pub invariant-loop-line : goal.invariant-loop-line
invariant-loop-line l =
    string_bytes l.text ++ flat_map outcome_line (outcomes_in (drop l.line-index l.lines)) ≡ string_bytes l.fn.text ++ flat_map outcome_line (outcomes_in l.lines)
