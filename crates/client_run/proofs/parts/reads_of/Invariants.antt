use Rattle.std.proofs.Common.{◌≡◌, map}
use Rattle.std.specs.List.{range_with_len}
use Rattle.settings_text.specs.declared.requests.Asking.TheVariants.{Read}
use Rattle.client_run.proofs.parts.reads_of.Given as goal

abbrev pub invariant-loop-own : goal.invariant-loop-own
invariant-loop-own l = l.askings.items ≡ map Read (range_with_len 0 l.own)
