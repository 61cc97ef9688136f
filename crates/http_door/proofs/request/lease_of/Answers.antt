use Rattle.std.proofs.Common.{refl, ◌∙◌}
use Rattle.http_door.proofs.RequestLaws.{longer, exact}
use Rattle.http_door.proofs.request.lease_of.Goals as goal

pub returns-in_default : goal.returns-in_default
returns-in_default c =
    let ticket = c.in_ok-ticket.ensures in
    let digest = c.in_ok-digest.ensures in
    rw (longer c.args.body.now _ _ ticket.2 digest.2 c.in_default.len_at_least) refl

pub returns : goal.returns
returns c =
    let ticket = c.in_ok-ticket.ensures in
    let digest = c.in_ok-digest.ensures in
    let size = exact c.args.body.now _ _ ticket.2 digest.2 ticket.0 digest.0 c.in_default-empty.len_below in
    let first = ticket.1 in
    let whole = digest.1 ∙ size.1 ∙ ticket.2 in
    rw size.0 cc
