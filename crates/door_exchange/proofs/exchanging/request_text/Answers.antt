use Rattle.std.proofs.Common.{arith}
use Rattle.http_door.specs.Requests.{plain_request}
use Rattle.http_door.proofs.ComingLaws.{sent_short}
use Rattle.door_exchange.proofs.exchanging.request_text.Goals as goal

pub unreachable-requires : goal.unreachable-requires
unreachable-requires c =
    let short = sent_short (plain_request c.args.request.now) c.host.result c.requires.sendable
    c.host.ensures.value in
    omega (arith, c.in-None.ensures.short)
