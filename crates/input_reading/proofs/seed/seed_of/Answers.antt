use Rattle.std.proofs.Common.{◌≡◌, ℕ, ◌+◌, ◌≤◌, ◌++◌, List, [], length, take, drop, sym, ap, ◌∙◌, subst, arith}
use Rattle.std.proofs.Math.Seq.{take-add}
use Rattle.std.proofs.lemmas.List.{length-take}
use Rattle.express_words.specs.Causes.{next}
use Rattle.express_words.specs.Streams.{Gave}
use Rattle.input_reading.proofs.Seeding.{gave_more, gave_no_more}
use Rattle.input_reading.proofs.seed.seed_of.Goals as goal

pub taking-preserved : goal.taking-preserved
taking-preserved g c =
    let before : List ℕ = take c.taking.length c.taking.seed in
    let seed : List ℕ = c.take_behind.new.seed in
    let more : List ℕ = take c.in-Ok.count (drop c.taking.length seed) in
    let all : before ++ more ≡ take (c.taking.length + c.in-Ok.count) seed
    = sym (take-add c.taking.length c.in-Ok.count seed ∙ ap (λ (x : List ℕ). x ++ more) c.take_behind.ensures.stays) in
    record {
      gave = subst (Gave (g.S.Counted.seen c.args.random.now).content (g.S.Counted.seen c.take_behind.new.random).content) all
          (gave_more _ _ _ before more c.taking.invariant.gave c.in-Ok.ensures.gave);
      unfailed = c.in-Ok.ensures.counts.unfailed ∙ c.taking.invariant.unfailed;
      short = c.in-Ok.ensures.bound;
      long = c.take_behind.array_long;
    }

pub returns-in-Err-clause-refused : goal.returns-in-Err-clause-refused
returns-in-Err-clause-refused g c =
    let before : List ℕ = take c.taking.length c.taking.seed in
    let room : length before ≤ c.taking.length = omega (arith, length-take c.taking.length c.taking.seed) in (
      c.in-Err.ensures.counts.one_more ∙ ap next c.taking.invariant.unfailed,
      c.faults.ensures,
      (before, gave_no_more _ _ _ before c.taking.invariant.gave c.in-Err.ensures.failed, omega (arith, room, c.taking-test.true)),
    )

pub returns-in-Ok-eq0-clause-refused : goal.returns-in-Ok-eq0-clause-refused
returns-in-Ok-eq0-clause-refused g c =
    let before : List ℕ = take c.taking.length c.taking.seed in
    let gave : Gave (g.S.Counted.seen c.taking.random).content (g.S.Counted.seen c.take_behind.new.random).content []
    = subst (λ n. Gave (g.S.Counted.seen c.taking.random).content (g.S.Counted.seen c.take_behind.new.random).content
    (take n (drop c.taking.length c.take_behind.new.seed))) c.in-Ok-eq0.field-0-test c.in-Ok-eq0.ensures.gave in (
      c.taking-test.true,
      c.in-Ok-eq0.ensures.counts.unfailed ∙ c.taking.invariant.unfailed,
      c.in-Ok-eq0.ensures.end c.in-Ok-eq0.field-0-test,
      (
        before,
        gave_no_more _ _ _ before c.taking.invariant.gave gave,
        omega (arith, length-take c.taking.length c.taking.seed, c.taking.invariant.long, c.taking-test.true),
      ),
    )
