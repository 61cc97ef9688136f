use Rattle.std.proofs.Common.{◌≡◌, []}
use Rattle.express_words.specs.Streams.{Gave}
use Rattle.express_outside.proofs.adapter.read_again.Given as goal

abbrev pub invariant-loop : goal.invariant-loop
invariant-loop g l = Gave (g.T.Passes.content l.initial.inner) (g.T.Passes.content l.inner) []
    × (g.T.Passes.taken l.inner ≡ g.T.Passes.taken l.initial.inner)
