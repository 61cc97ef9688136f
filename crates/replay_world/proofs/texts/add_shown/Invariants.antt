use Rattle.std.proofs.Common.{◌≡◌, ◌++◌, drop}
use Rattle.std.specs.Prelude.{flat_map, string_bytes}
use Rattle.replay_world.specs.Output.{shown_line}
use Rattle.replay_world.specs.Parts.{shown_all_in}
use Rattle.replay_world.proofs.texts.add_shown.Given as goal

abbrev pub invariant-loop-line : goal.invariant-loop-line
invariant-loop-line l =
    string_bytes l.text ++ flat_map shown_line (shown_all_in (drop l.line-index l.lines)) ≡ string_bytes l.fn.text ++ flat_map shown_line (shown_all_in l.lines)
