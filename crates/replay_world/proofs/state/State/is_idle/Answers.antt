use Rattle.std.proofs.Common.{◌<◌, length, refl, sym, ap, ◌∙◌, arith}
use Rattle.std.specs.Prelude.{slice_get, is_none}
use Rattle.std.proofs.lemmas.Option.{slice_get_read}
use Rattle.step_rules.specs.Client.{Client}
use Rattle.replay_world.specs.View.{fresh}
use Rattle.replay_world.proofs.Lanes.{lane_here}
use Rattle.replay_world.proofs.state.State.is_idle.Goals as goal

pub returns : goal.returns
returns c header =
    let xs = c.args.self.now.askers.items in
    let a = c.index.result.now in
    let within : c.from.result < length xs = omega (arith, c.from.ensures, c.requires) in
    let here = ap (slice_get xs) (sym c.from.ensures) ∙ slice_get_read xs (length xs) c.from.result a refl within c.index.ensures in
    c.is_idle.ensures ∙ ap (λ (x : Client). is_none x.current) (sym (lane_here (λ x. x.client) (fresh header) xs c.args.lane a here))
