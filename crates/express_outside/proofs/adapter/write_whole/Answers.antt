use Rattle.std.proofs.Common.{◌∙◌}
use Rattle.express_outside.proofs.Written.{took_more, took_some}
use Rattle.express_outside.proofs.adapter.write_whole.Goals as goal

pub writing-preserved : goal.writing-preserved
writing-preserved g c =
    (took_more _ _ _ c.args.bytes.now _ _ c.writing.invariant.0 c.in-Ok.ensures.bytes, c.write_again.ensures.gives_nothing ∙ c.writing.invariant.1)

pub returns-in-Err-clause-bytes : goal.returns-in-Err-clause-bytes
returns-in-Err-clause-bytes g c = took_some _ _ _ c.args.bytes.now _ c.write_again.result c.writing.invariant.0 c.write_again.ensures.bytes

pub returns-in-Err-2-clause-bytes : goal.returns-in-Err-2-clause-bytes
returns-in-Err-2-clause-bytes g c = took_some _ _ _ c.args.bytes.now _ c.write_again.result c.writing.invariant.0 c.write_again.ensures.bytes
