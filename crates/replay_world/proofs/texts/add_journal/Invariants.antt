use Rattle.std.proofs.Common.{◌≡◌, ◌++◌, drop}
use Rattle.std.specs.Prelude.{flat_map, string_bytes}
use Rattle.replay_world.specs.Output.{journal_line}
use Rattle.replay_world.specs.Parts.{journal_in}
use Rattle.replay_world.proofs.texts.add_journal.Given as goal

abbrev pub invariant-loop-line : goal.invariant-loop-line
invariant-loop-line l =
    string_bytes l.text ++ flat_map journal_line (journal_in (drop l.line-index l.lines)) ≡ string_bytes l.fn.text ++ flat_map journal_line (journal_in l.lines)
