use Rattle.std.proofs.Common.{sym, subst}
use Rattle.http_wires.specs.Clients.{IsWhole}
use Rattle.http_wires.proofs.Hearing.{whole_of}
use Rattle.http_wires.proofs.client.Client.lacks.Goals as goal

pub returns-in-Some-clause-whole : goal.returns-in-Some-clause-whole
returns-in-Some-clause-whole c =
    let seen = c.in-Some.ensures in
    rw (sym c.self.view_is) (subst IsWhole c.deref.ensures.value (whole_of _ _ seen.never seen.short))
