use Rattle.replay_world.specs.Parts.{pool_in}
use Rattle.replay_world.specs.View.{run_in}
use Rattle.replay_world.proofs.Events.{on_ok}
use Rattle.replay_world.proofs.Letters.{leader_moves}
use Rattle.replay_world.proofs.state.State.leader_hears.Goals as goal

pub returns-clause-moved : goal.returns-clause-moved
returns-clause-moved c =
    on_ok c.frame_comes.result (λ e header.
    leader_moves (run_in header c.args.self.now) c.args.frame.now c.frame_comes.new.leader (pool_in c.frame_comes.new.pool.items) c.frame_comes.ensures.leader e)
    c.frame_comes.ensures.pool
