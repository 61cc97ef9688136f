use Rattle.replay_world.proofs.LeaderStays.{busy_rows_await}
use Rattle.replay_world.proofs.laws.rows_are_awaited.Goals as goal

pub returns : goal.returns
returns c = busy_rows_await c.rows_await.ensures.opened c.rows_await.ensures.clients c.rows_await.ensures.replies
