use Rattle.std.proofs.Common.{◌≡◌, map, take}
use Rattle.client_core.specs.Requests.{plain_request}
use Rattle.client_run.specs.Accounts.{request_of}
use Rattle.client_run.proofs.asking.requests_of.Given as goal

abbrev pub invariant-loop-asking : goal.invariant-loop-asking
invariant-loop-asking l = map plain_request l.requests.items ≡ map request_of (take l.asking-index l.askings)
