use Rattle.std.proofs.Common.{List, None, ◌-◌, length, take, drop, ap, ◌∙◌, arith}
use Rattle.run_rules.specs.Run.{last_for}
use Rattle.replay_world.specs.declared.pool.Letter.{Letter}
use Rattle.replay_world.specs.Parts.{pool_in}
use Rattle.replay_world.specs.View.{run_in}
use Rattle.replay_world.proofs.Events.{on_ok, none_delivered, one_delivered, none_from, pool_from, rest_from}
use Rattle.replay_world.proofs.state.State.hand_last.Goals as goal

pub returns-then-from-len-clause-moved : goal.returns-then-from-len-clause-moved
returns-then-from-len-clause-moved c header =
    let pool = c.args.self.now.pool.items in
    none_delivered (run_in header c.args.self.now) (last_for c.args.lane None (drop c.args.from (pool_in pool)))
    (none_from c.args.lane c.args.from pool (omega (arith, c.len.ensures)))

pub returns-in-None-clause-moved : goal.returns-in-None-clause-moved
returns-in-None-clause-moved c header =
    let pool = c.args.self.now.pool.items in
    none_delivered (run_in header c.args.self.now) (last_for c.args.lane None (drop c.args.from (pool_in pool)))
    (c.in-None.ensures ∙ (ap (λ (xs : List Letter). last_for c.args.lane None (pool_in (take (length xs - c.args.from) (drop c.args.from xs)))) c.deref.ensures.value
    ∙ (ap (λ (ys : List Letter). last_for c.args.lane None (pool_in ys)) (rest_from pool c.args.from) ∙ ap (last_for c.args.lane None) (pool_from pool c.args.from))))

pub returns-clause-moved : goal.returns-clause-moved
returns-clause-moved c =
    let pool = c.args.self.now.pool.items in
    on_ok c.arrive.result (λ m header.
    one_delivered (run_in header c.args.self.now) (run_in header c.arrive.new.self) (last_for c.args.lane None (drop c.args.from (pool_in pool))) c.in-Some.letter.now c.in_ok-letter-in-Some.letter
    (c.in-Some.ensures ∙ (ap (λ (xs : List Letter). last_for c.args.lane None (pool_in (take (length xs - c.args.from) (drop c.args.from xs)))) c.deref.ensures.value
    ∙ (ap (λ (ys : List Letter). last_for c.args.lane None (pool_in ys)) (rest_from pool c.args.from) ∙ ap (last_for c.args.lane None) (pool_from pool c.args.from))))
    c.in_ok-letter-in-Some.ensures (m header))
    c.arrive.ensures.moved
