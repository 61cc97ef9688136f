use Rattle.replay_world.specs.Parts.{journal_in, pool_in}
use Rattle.replay_world.specs.View.{run_in}
use Rattle.replay_world.proofs.Events.{on_ok_both}
use Rattle.replay_world.proofs.Letters.{helper_link_moves}
use Rattle.replay_world.proofs.state.State.helper_is_ordered.Goals as goal

pub returns-clause-moved : goal.returns-clause-moved
returns-clause-moved c =
    on_ok_both c.command_comes.result (λ j p header.
    helper_link_moves (run_in header c.args.self.now) c.args.frame.now c.command_comes.new.helper (journal_in c.command_comes.new.journal.items) (pool_in c.command_comes.new.pool.items)
    c.command_comes.ensures.helper j p)
    c.command_comes.ensures.journal c.command_comes.ensures.pool
