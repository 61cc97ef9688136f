use Rattle.std.proofs.Common.{refl}
use Rattle.http_wires.proofs.client.Client.next.Goals as goal

pub returns-then-is_done-clause-next : goal.returns-then-is_done-clause-next
returns-then-is_done-clause-next c = (_, c.go_on.ensures, (c.if-is_done.ensures.done, refl))

pub returns-clause-next : goal.returns-clause-next
returns-clause-next c = (_, c.go_on.ensures, (c.if-is_done.ensures.stays, c.give.ensures.gives))
