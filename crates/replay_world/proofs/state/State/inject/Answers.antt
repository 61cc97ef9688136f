use Rattle.replay_world.specs.Parts.{addressee_in, pool_in}
use Rattle.replay_world.specs.View.{run_in}
use Rattle.replay_world.proofs.Events.{on_ok, injected_moves}
use Rattle.replay_world.proofs.state.State.inject.Goals as goal

pub returns-clause-moved : goal.returns-clause-moved
returns-clause-moved c =
    on_ok c.post.result (λ e header.
    injected_moves (run_in header c.args.self.now) c.args.server c.args.bytes.now (addressee_in c.server_of.result) (pool_in c.post.new.pool.items) c.server_of.ensures e)
    c.post.ensures
