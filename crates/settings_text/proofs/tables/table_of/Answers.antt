use Rattle.std.proofs.Common.{codes}
use Rattle.toml.specs.View.{table_view}
use Rattle.settings_text.proofs.FaultLaws.{named}
use Rattle.settings_text.proofs.TableLaws.{table_read, table_refused}
use Rattle.settings_text.proofs.tables.table_of.Goals as goal

pub returns-in-Ok : goal.returns-in-Ok
returns-in-Ok c = table_read c.args.text.now _ c.in-Ok.ensures.ok.0 c.in-Ok.ensures.ok.1

pub returns-in-Err-2 : goal.returns-in-Err-2
returns-in-Err-2 c =
    named table_view (codes "toml") c.wrong_key.result _ c.wrong_key.ensures
    (table_refused c.args.text.now (c.in-Err.ensures.refused (λ memory. let is = c.is_memory.ensures.1 memory in cc)))
