use Rattle.replay_world.specs.Parts.{pool_in}
use Rattle.replay_world.specs.View.{run_in}
use Rattle.replay_world.proofs.Events.{on_ok}
use Rattle.replay_world.proofs.Letters.{leader_link_moves}
use Rattle.replay_world.proofs.state.State.leader_is_answered.Goals as goal

pub returns-clause-moved : goal.returns-clause-moved
returns-clause-moved c =
    on_ok c.reply_comes.result (λ e header.
    leader_link_moves (run_in header c.args.self.now) c.args.frame.now c.reply_comes.new.leader (pool_in c.reply_comes.new.pool.items) c.reply_comes.ensures.leader e)
    c.reply_comes.ensures.pool
