-- The texts of what halts the work.
use Rattle.std.specs.Prelude.{ℕ, List}
use Rattle.kept_machine.specs.Texts.{fault_text}
use Rattle.node_client.specs.Texts.{stop_text}
use Rattle.kept_errands.specs.declared.halt.Halt.{Halt}
use Rattle.kept_errands.specs.declared.halt.Halt.TheVariants.{Keep, Stop}

abbrev pub halt_text : Halt → List ℕ
halt_text (Keep fault) = fault_text fault
halt_text (Stop stop) = stop_text stop
