use Rattle.std.proofs.Common.{◌≡◌, ◌++◌, drop}
use Rattle.std.specs.Prelude.{string_bytes}
use Rattle.express_cli.specs.Batches.{rejected_lines}
use Rattle.express_cli.proofs.batch.add_rejected.Given as goal

abbrev pub invariant-loop-pair : goal.invariant-loop-pair
invariant-loop-pair l = string_bytes l.text ++ rejected_lines l.pair-counter (drop l.pair-counter l.rejected) ≡ string_bytes l.fn.text ++ rejected_lines 0 l.rejected
