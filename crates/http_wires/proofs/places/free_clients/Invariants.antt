use Rattle.std.proofs.Common.{◌≡◌, replicate}
use Rattle.http_wires.specs.Clients.{raw_client}
use Rattle.http_wires.proofs.places.free_clients.Given as goal

abbrev pub invariant-loop-place : goal.invariant-loop-place
invariant-loop-place l = l.clients.items ≡ replicate l.place raw_client
