use Rattle.std.proofs.Common.{◌≡◌, ◌<◌, length, refl, sym, ap, ◌∙◌, arith}
use Rattle.std.specs.Prelude.{slice_get, slice_set}
use Rattle.std.proofs.lemmas.Option.{slice_get_read}
use Rattle.run_rules.specs.Run.{asks}
use Rattle.replay_world.specs.Parts.{request_in}
use Rattle.replay_world.specs.View.{run_in, with_asker}
use Rattle.replay_world.proofs.Events.{on_ok_all}
use Rattle.replay_world.proofs.Lanes.{laned, lane_moves}
use Rattle.replay_world.proofs.state.State.ask.Goals as goal

pub returns-clause-moved : goal.returns-clause-moved
returns-clause-moved c =
    let s = c.args.self.now in
    let xs = s.askers.items in
    let lane = c.args.lane in
    let a = c.index_mut-asker.result.now in
    let b = c.ask.new.self in
    let after = c.ask.new.outcomes.items in
    let r = request_in c.args.asked.now in
    let within : c.from.result < length xs = omega (arith, c.from.ensures, c.requires.lane) in
    let here = ap (slice_get xs) (sym c.from.ensures) ∙ slice_get_read xs (length xs) c.from.result a refl within c.index_mut-asker.ensures.value in
    on_ok_all (λ w. with_asker w lane b after ≡ asks (with_asker w lane a s.outcomes.items) lane r) c.ask.result
    (λ all header.
    ap (λ i. laned header (run_in header s) (slice_set xs i b) after) c.from.ensures
    ∙ lane_moves (λ v. asks v lane r) header (run_in header s) xs s.outcomes.items after lane a b here c.requires.lane (all (run_in header s)))
    c.ask.ensures.moved
