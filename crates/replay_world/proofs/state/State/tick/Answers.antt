use Rattle.replay_world.specs.Parts.{pool_in}
use Rattle.replay_world.specs.View.{run_in}
use Rattle.replay_world.proofs.Events.{on_ok}
use Rattle.replay_world.proofs.Letters.{tick_moves}
use Rattle.replay_world.proofs.state.State.tick.Goals as goal

pub returns-clause-moved : goal.returns-clause-moved
returns-clause-moved c =
    on_ok c.tick.result (λ e header. tick_moves (run_in header c.args.self.now) (pool_in c.tick.new.pool.items) e) c.tick.ensures.pool
