use Rattle.std.proofs.Common.{Err, inl, refl, ap}
use Rattle.replay_world.specs.Played.{output_of, played}
use Rattle.express_cli.specs.declared.ends.End.TheVariants.{Done}
use Rattle.express_cli.proofs.replay.put_world.Goals as goal

pub returns-in-Err-Failed : goal.returns-in-Err-Failed
returns-in-Err-Failed g c =
    let failed = ap Err c.in-Err-Failed.field-0-is in
    record { ends = (c.in-Err-Failed.ensures.cause failed, (Done, output_of (played c.args.world.now), inl (refl, refl), c.in-Err-Failed.ensures.failed failed)) }
