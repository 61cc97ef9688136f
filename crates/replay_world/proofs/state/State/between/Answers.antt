use Rattle.std.proofs.Common.{ap, ◌∙◌}
use Rattle.run_rules.specs.Letters.{leader_seed, helper_seed}
use Rattle.step_rules.specs.Helper.{Helper}
use Rattle.step_rules.specs.Leader.{Leader}
use Rattle.replay_world.proofs.Lanes.{opens, leader_settings, helper_settings}
use Rattle.replay_world.proofs.state.State.between.Goals as goal

pub returns-clause-opened : goal.returns-clause-opened
returns-clause-opened c =
    opens c.args.header.now _ _ c.in_ok-askers.askers.items c.new.result.items c.new-2.result.items c.new-3.result.items c.new-4.result.items
    c.requires.leader c.requires.helper
    c.in_ok-askers.ensures.fresh c.new.ensures.items c.new-2.ensures.items c.new-3.ensures.items c.new-4.ensures.items

pub returns-clause-fit : goal.returns-clause-fit
returns-clause-fit c =
    let header = c.args.header.now in
    let s = header.settings in
    record {
      leader = ap (λ (a : Leader). a.settings) c.requires.leader ∙ leader_settings s (leader_seed header.seed);
      helper = ap (λ (h : Helper). h.server.settings) c.requires.helper ∙ helper_settings s (helper_seed header.seed);
      lanes = c.in_ok-askers.ensures.count;
    }
