use Rattle.std.proofs.Common.{ap, ◌∙◌, arith}
use Rattle.express_words.specs.declared.settings.Settings.{Settings}
use Rattle.replay_world.specs.Output.{run_text}
use Rattle.replay_world.proofs.world.World.text.Goals as goal

pub text_of-requires : goal.text_of-requires
text_of-requires c =
    let leader = ap (λ (s : Settings). s.boxes) c.requires.fit.leader in
    let helper = ap (λ (s : Settings). s.boxes) c.requires.fit.helper in
    omega (arith, leader, helper)

pub returns : goal.returns
returns c = c.in_ok-text_of.ensures c.args.self.now.header ∙ ap run_text c.requires.stands
