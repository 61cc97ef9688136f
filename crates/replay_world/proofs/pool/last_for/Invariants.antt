use Rattle.std.proofs.Common.{◌≡◌, None, drop}
use Rattle.std.specs.Prelude.{option_map}
use Rattle.run_rules.specs.Run.{last_for}
use Rattle.replay_world.specs.Parts.{letter_in, pool_in}
use Rattle.replay_world.proofs.pool.last_for.Given as goal

abbrev pub invariant-loop-letter : goal.invariant-loop-letter
invariant-loop-letter l =
    last_for l.lane (option_map (λ x. letter_in x.now) l.found) (pool_in (drop l.letter-index l.letters)) ≡ last_for l.lane None (pool_in l.letters)
