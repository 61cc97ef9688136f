use Rattle.express_cli.specs.declared.words.Command.TheVariants.{Cloak}
use Rattle.express_cli.proofs.Steps.{bad_line_said}
use Rattle.express_cli.proofs.cloak.cloak.Goals as goal

pub returns-in-Err-Wrong : goal.returns-in-Err-Wrong
returns-in-Err-Wrong g c =
    let first = rw c.in-Err-Wrong.field-0-is at c.in-Err-Wrong.ensures.judges in
    record { ends = bad_line_said Cloak c.args.text.now _ _ _ _ c.in-Err-Wrong.line _ first c.say_bad_line.ensures.says }
