use Rattle.std.proofs.Common.{sym, ◌∙◌}
use Rattle.http_door.proofs.RequestLaws.{behind, heard_when}
use Rattle.http_door.proofs.hearing.heard_at.Goals as goal

pub returns-in-Ok : goal.returns-in-Ok
returns-in-Ok c head framing found =
    let all = behind c.args.held.now c.args.at.now.len in
    let sized = sym (c.stated_len.ensures.len head framing found) ∙ c.in-Ok.is in
    heard_when head framing _ c.in-Ok.n _ _ sized (rw all at c.if-n-after.true)
    (rw all at (c.asked_of.ensures head framing found)) (c.keeps.ensures head framing found)
