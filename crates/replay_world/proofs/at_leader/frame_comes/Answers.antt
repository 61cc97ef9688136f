use Rattle.std.proofs.Common.{◌≡◌, ◌++◌, List, subst, sym, refl, arith}
use Rattle.std.specs.Prelude.{OnOk}
use Rattle.step_rules.specs.LeaderClients.{on_client}
use Rattle.run_rules.specs.Letters.{Letter}
use Rattle.replay_world.specs.Parts.{pool_in}
use Rattle.replay_world.proofs.ReplyLanes.{leader_lane}
use Rattle.replay_world.proofs.Letters.{reply_letters}
use Rattle.replay_world.proofs.at_leader.frame_comes.Goals as goal

pub returns-in-Reply-clause-pool : goal.returns-in-Reply-clause-pool
returns-in-Reply-clause-pool c =
    let small = leader_lane c.args.leader.now c.args.frame.now (λ i. omega (arith, c.type_inv.frame i)) in
    let letters = reply_letters (on_client c.args.leader.now c.args.frame.now).answer c.in-Reply.length c.lane_in.result c.take_request.new.out _ (sym c.in-Reply.ensures.answer) refl c.take_request.ensures.written small c.lane_in.ensures in
    subst (λ (ls : List Letter). OnOk c.post-in-Reply.result (pool_in c.post-in-Reply.new.pool.items ≡ pool_in c.args.pool.now.items ++ ls)) letters c.post-in-Reply.ensures
