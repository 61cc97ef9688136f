use Rattle.std.proofs.Common.{sym}
use Rattle.settings_text.proofs.FileLaws.{too_long, counted}
use Rattle.settings_text.proofs.files.count_in.Goals as goal

pub returns-in-Err-clause-value : goal.returns-in-Err-clause-value
returns-in-Err-clause-value c = too_long c.args.width c.args.file.now c.requires c.in-Err.ensures

pub returns-in-Ok-clause-value : goal.returns-in-Ok-clause-value
returns-in-Ok-clause-value c =
    counted c.args.width c.args.file.now c.in-Ok.length c.parts.result c.requires (sym c.in-Ok.ensures.1) c.parts.ensures.limits c.parts.ensures.count
