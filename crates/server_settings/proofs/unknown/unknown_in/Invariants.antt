use Rattle.std.proofs.Common.{◌≡◌}
use Rattle.toml.specs.View.{table_view}
use Rattle.server_settings.specs.Lookups.{unknown_in}
use Rattle.server_settings.proofs.UnknownLaws.{first_unknown}
use Rattle.server_settings.proofs.unknown.unknown_in.Given as goal

abbrev pub invariant-loop-name : goal.invariant-loop-name
invariant-loop-name l = first_unknown l.name-iterator ≡ unknown_in (table_view l.table)
