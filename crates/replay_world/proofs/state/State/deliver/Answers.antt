use Rattle.std.proofs.Common.{List, ap, ◌∙◌}
use Rattle.std.specs.Prelude.{slice_get}
use Rattle.run_rules.specs.Run.{delivers_at}
use Rattle.replay_world.specs.declared.pool.Letter.{Letter}
use Rattle.replay_world.specs.Parts.{pool_in}
use Rattle.replay_world.specs.View.{run_in}
use Rattle.replay_world.proofs.Events.{on_ok, none_delivered, one_delivered}
use Rattle.replay_world.proofs.state.State.deliver.Goals as goal

pub returns-in-None-clause-moved : goal.returns-in-None-clause-moved
unfolding delivers_at
returns-in-None-clause-moved c header =
    let pool = c.args.self.now.pool.items in
    none_delivered (run_in header c.args.self.now) (slice_get (pool_in pool) c.args.number)
    (c.in-None.ensures ∙ ap (λ (xs : List Letter). slice_get (pool_in xs) c.args.number) c.as_slice.ensures.value)

pub returns-clause-moved : goal.returns-clause-moved
unfolding delivers_at
returns-clause-moved c =
    let pool = c.args.self.now.pool.items in
    on_ok c.arrive.result (λ m header.
    one_delivered (run_in header c.args.self.now) (run_in header c.arrive.new.self) (slice_get (pool_in pool) c.args.number) c.in-Some.letter.now c.in_ok-letter-in-Some.letter
    (c.in-Some.ensures ∙ ap (λ (xs : List Letter). slice_get (pool_in xs) c.args.number) c.as_slice.ensures.value) c.in_ok-letter-in-Some.ensures (m header))
    c.arrive.ensures.moved
