use Rattle.std.proofs.Common.{◌≡◌, ◌++◌, drop}
use Rattle.std.specs.Prelude.{flat_map, string_bytes}
use Rattle.client_run.specs.Texts.{outcome_line}
use Rattle.client_run.proofs.texts.add_outcomes.Given as goal

abbrev pub invariant-loop-one : goal.invariant-loop-one
invariant-loop-one l =
    string_bytes l.text ++ flat_map outcome_line (drop l.one-index l.finished) ≡ string_bytes l.fn.text ++ flat_map outcome_line l.finished
