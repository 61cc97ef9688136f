use Rattle.run_rules.proofs.EveryEnd.{shares_at_every_end}
use Rattle.run_rules.proofs.ForeignFollows.{foreign_runs_agree}
use Rattle.run_rules.specs.Follows.{Follows}
use Rattle.run_rules.specs.Plain.{SharesAreFolds}
use Rattle.replay_world.proofs.LeaderStays.{busy_rows_await}
use Rattle.replay_world.proofs.Protocol.{follows_protocol}
use Rattle.replay_world.proofs.Strangers.{of_every_schedule}
use Rattle.replay_world.proofs.laws.runs_follow_protocol.Goals as goal

pub returns : goal.returns
returns c schedule rules =
    follows_protocol _ _ _ (of_every_schedule Follows foreign_runs_agree schedule rules)
    (of_every_schedule SharesAreFolds shares_at_every_end schedule rules)
    (busy_rows_await c.rows_await.ensures.opened c.rows_await.ensures.clients c.rows_await.ensures.replies schedule)
