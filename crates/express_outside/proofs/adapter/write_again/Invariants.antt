use Rattle.std.proofs.Common.{◌≡◌}
use Rattle.std.specs.Io.KnownBytes.{Keeps}
use Rattle.express_outside.proofs.adapter.write_again.Given as goal

abbrev pub invariant-loop : goal.invariant-loop
invariant-loop g l = Keeps (g.T.Passes.taken l.initial.inner) (g.T.Passes.taken l.inner)
    × (g.T.Passes.content l.inner ≡ g.T.Passes.content l.initial.inner)
