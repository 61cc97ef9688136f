use Rattle.std.proofs.Common.{◌≡◌, length}
use Rattle.socks_proxy.specs.Routes.{names_onion}
use Rattle.socks_proxy.proofs.routes.names_onion.Given as goal

abbrev pub invariant-loop-rest : goal.invariant-loop-rest
invariant-loop-rest l = names_onion l.rest ≡ names_onion l.place

abbrev pub decreases-loop-rest : goal.decreases-loop-rest
decreases-loop-rest l = length l.rest
