use Rattle.std.proofs.Common.{refl, ap}
use Rattle.replay_world.specs.Played.{output_of}
use Rattle.express_cli.specs.Ends.{WorkMay}
use Rattle.express_cli.specs.declared.words.Command.TheVariants.{Replay}
use Rattle.express_cli.specs.declared.ends.End.TheVariants.{Done}
use Rattle.express_cli.proofs.Steps.{bad_line_said, said_or_wants}
use Rattle.express_cli.proofs.replay.replay.Goals as goal

pub returns-in-Err-BadLine : goal.returns-in-Err-BadLine
returns-in-Err-BadLine g c =
    let first = rw c.in-Err-BadLine.field-0-is at c.in-Err-BadLine.ensures.judges in
    record { ends = bad_line_said Replay c.args.text.now _ _ _ _ c.in-Err-BadLine.line _ first c.say_bad_line.ensures.says }

pub returns-in-Ok-world_after : goal.returns-in-Ok-world_after
returns-in-Ok-world_after g c = record {
  ends = said_or_wants (WorkMay Replay c.args.text.now) _ _ _ _ Done _ _ (c.in-Ok.schedule, c.in-Ok.ensures.judges, ap output_of c.in-Ok-world_after.ensures.played)
      refl c.put_world-end.ensures.ends;
}
