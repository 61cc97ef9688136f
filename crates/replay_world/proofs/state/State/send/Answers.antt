use Rattle.std.proofs.Common.{◌≡◌, ◌<◌, length, take, refl, sym, ap, ◌∙◌, arith}
use Rattle.std.specs.Prelude.{slice_get}
use Rattle.std.specs.Vec.{with_items}
use Rattle.std.proofs.lemmas.List.{with_items_is}
use Rattle.std.proofs.lemmas.Option.{slice_get_read}
use Rattle.replay_world.specs.Parts.{addressee_in, pool_in}
use Rattle.replay_world.specs.View.{fresh, run_in}
use Rattle.replay_world.proofs.Events.{on_ok, none_sent, one_sent}
use Rattle.replay_world.proofs.Lanes.{lane_here}
use Rattle.replay_world.proofs.state.State.send.Goals as goal

pub returns-in-None-clause-moved : goal.returns-in-None-clause-moved
returns-in-None-clause-moved c header =
    let s = c.args.self.now in
    let xs = s.askers.items in
    let a = c.index.result.now in
    let within : c.from.result < length xs = omega (arith, c.from.ensures, c.requires.lane) in
    let here = ap (slice_get xs) (sym c.from.ensures) ∙ slice_get_read xs (length xs) c.from.result a refl within c.index.ensures in
    none_sent (run_in header s) c.args.lane a.client (lane_here (λ x. x.client) (fresh header) xs c.args.lane a here) c.in-None.ensures.sent

pub returns-in-Some-clause-moved : goal.returns-in-Some-clause-moved
returns-in-Some-clause-moved c =
    let s = c.args.self.now in
    let xs = s.askers.items in
    let a = c.index.result.now in
    let within : c.from.result < length xs = omega (arith, c.from.ensures, c.requires.lane) in
    let here = ap (slice_get xs) (sym c.from.ensures) ∙ slice_get_read xs (length xs) c.from.result a refl within c.index.ensures in
    let whole : (with_items s.out c.send.new.out).items ≡ c.send.new.out = with_items_is s.out c.send.new.out (omega arith) in
    let bytes = take c.in-Some.length c.deref.result.now in
    on_ok c.post.result (λ e header.
    one_sent (run_in header s) c.args.lane a.client c.in-Some.server c.in-Some.length (addressee_in c.server_of.result) bytes c.send.new.out (pool_in c.post.new.pool.items)
    (lane_here (λ x. x.client) (fresh header) xs c.args.lane a here) c.in-Some.ensures.sent (ap (take c.in-Some.length) (c.deref.ensures.value ∙ whole)) c.send.ensures.written c.server_of.ensures e)
    c.post.ensures
