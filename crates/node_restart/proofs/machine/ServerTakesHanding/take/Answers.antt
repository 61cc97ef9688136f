use Rattle.std.proofs.Common.{refl, ap, ◌∙◌}
use Rattle.node_restart.specs.declared.machine.Server.{Server}
use Rattle.node_restart.specs.declared.server.Core.{Core}
use Rattle.node_restart.specs.Frames.{handed}
use Rattle.node_restart.proofs.MachineLaws.{recorded, unrecorded}
use Rattle.node_restart.proofs.StepLaws.{no_frame_stays}
use Rattle.node_restart.proofs.machine.ServerTakesHanding.take.Goals as goal

pub returns-clause-steps : goal.returns-clause-steps
returns-clause-steps c bytes is =
    let h = handed c.args.input.now.sender c.args.input.now.received.now in
    let one = recorded h bytes is in
    record { handed = h; whole = one.0; is = one.1; step = c.step.ensures.takes.core; opening = refl }

pub returns-clause-rests : goal.returns-clause-rests
returns-clause-rests c is =
    let h = handed c.args.input.now.sender c.args.input.now.received.now in
    let with : Core → Server = λ core. record { opening = c.args.self.now.opening; core = core } in
    ap with (c.step.ensures.takes.core ∙ no_frame_stays c.args.self.now.core h.sender h.frame (unrecorded h is))
