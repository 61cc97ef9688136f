use Rattle.std.proofs.Common.{◌∙◌}
use Rattle.http_door.proofs.head.stated_len.Goals as goal

pub returns-in-Ok-clause-len : goal.returns-in-Ok-clause-len
returns-in-Ok-clause-len c head framing found =
    let known = c.known_fields-known.ensures head framing found in
    let method = c.of-method.ensures ∙ found.parts.method in
    let version = found.parts.version in
    let framed = found.takes.accepts.framed in
    cc (c.in-Ok.is, c.request_framing.ensures, c.of.ensures, c.body_len.ensures.len)

pub returns-in-Err-clause-len : goal.returns-in-Err-clause-len
returns-in-Err-clause-len c head framing found =
    let known = c.known_fields-known.ensures head framing found in
    let method = c.of-method.ensures ∙ found.parts.method in
    let version = found.parts.version in
    let framed = found.takes.accepts.framed in
    cc (c.in-Err.is, c.request_framing.ensures, c.of.ensures)
