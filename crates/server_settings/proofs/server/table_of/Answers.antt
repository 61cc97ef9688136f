use Rattle.toml.specs.View.{table_view}
use Rattle.server_settings.proofs.FaultLaws.{told}
use Rattle.server_settings.proofs.TableLaws.{table_read, table_refused}
use Rattle.server_settings.proofs.server.table_of.Goals as goal

pub returns-in-Ok : goal.returns-in-Ok
returns-in-Ok c = table_read c.args.text.now _ c.in-Ok.ensures.ok.0 c.in-Ok.ensures.ok.1

pub returns-in-Err-2 : goal.returns-in-Err-2
returns-in-Err-2 c =
    told table_view _ c.bad.result _ c.bad.ensures
    (table_refused c.args.text.now (c.in-Err.ensures.refused (λ memory. let is = c.is_memory.ensures.1 memory in cc)))
