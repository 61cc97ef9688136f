use Rattle.std.proofs.Common.{◌≡◌, ◌<◌, length, refl, sym, ap, ◌∙◌, arith}
use Rattle.std.specs.Prelude.{slice_get, slice_set}
use Rattle.std.proofs.lemmas.Option.{slice_get_read}
use Rattle.step_rules.specs.ClientReplies.{on_reply}
use Rattle.run_rules.specs.Run.{to_client}
use Rattle.replay_world.specs.View.{run_in, with_asker}
use Rattle.replay_world.proofs.Events.{on_ok_all}
use Rattle.replay_world.proofs.Lanes.{laned, heard_moves, nobody_hears}
use Rattle.replay_world.proofs.state.State.client_hears.Goals as goal

pub returns-then-from-len-clause-moved : goal.returns-then-from-len-clause-moved
returns-then-from-len-clause-moved c header =
    let s = c.args.self.now in
    nobody_hears header (run_in header s) s.askers.items s.outcomes.items c.args.lane c.args.frame.now (omega (arith, c.from.ensures, c.len.ensures))

pub returns-clause-moved : goal.returns-clause-moved
returns-clause-moved c =
    let s = c.args.self.now in
    let xs = s.askers.items in
    let lane = c.args.lane in
    let a = c.index_mut-asker.result.now in
    let b = c.hear.new.self in
    let after = c.hear.new.outcomes.items in
    let frame = c.args.frame.now in
    let lt : lane < length xs = omega (arith, c.from.ensures, c.len.ensures) in
    let within : c.from-2.result < length xs = omega (arith, lt, c.from-2.ensures) in
    let here = ap (slice_get xs) (sym c.from-2.ensures) ∙ slice_get_read xs (length xs) c.from-2.result a refl within c.index_mut-asker.ensures.value in
    on_ok_all (λ w. with_asker w lane b after ≡ to_client (with_asker w lane a s.outcomes.items) lane (on_reply a.client frame)) c.hear.result
    (λ all header.
    ap (λ i. laned header (run_in header s) (slice_set xs i b) after) c.from-2.ensures
    ∙ heard_moves header (run_in header s) xs s.outcomes.items after lane a b frame here lt (all (run_in header s)))
    c.hear.ensures.moved
