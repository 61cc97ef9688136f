use Rattle.std.proofs.Common.{◌≡◌, ℕ, ◌++◌, ◌∷◌, [], List, subst, arith}
use Rattle.std.specs.Prelude.{OnOk}
use Rattle.frame_rules.specs.Spelling.{spelling}
use Rattle.run_rules.specs.Letters.{letter, ToClient}
use Rattle.step_rules.specs.HelperClients.{on_client}
use Rattle.replay_world.specs.Parts.{pool_in}
use Rattle.replay_world.proofs.ReplyLanes.{helper_lane}
use Rattle.replay_world.proofs.at_helper.frame_comes.Goals as goal

pub returns-clause-pool : goal.returns-clause-pool
returns-clause-pool c =
    let turn = on_client c.args.helper.now c.args.frame.now in
    let spelled = c.on_client-length.ensures.written in
    let small = helper_lane c.args.helper.now c.args.frame.now (λ i. omega (arith, c.type_inv.frame i)) in
    let lane = c.lane_in.ensures turn.reply spelled small in
    let old = pool_in c.args.pool.now.items in
    let new = pool_in c.post.new.pool.items in
    subst (λ n. OnOk c.post.result (new ≡ old ++ letter (ToClient n) (spelling turn.reply) ∷ [])) lane
    (subst (λ (b : List ℕ). OnOk c.post.result (new ≡ old ++ letter (ToClient c.lane_in.result) b ∷ [])) spelled c.post.ensures)
