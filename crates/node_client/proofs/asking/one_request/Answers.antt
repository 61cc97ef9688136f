use Rattle.std.proofs.Common.{refl}
use Rattle.node_client.proofs.AskLaws.{taken_sends, refused_possible}
use Rattle.node_client.proofs.RequestLaws.{came_refused, walked_idle}
use Rattle.node_client.proofs.asking.one_request.Goals as goal

pub walk-requires-clause-sends : goal.walk-requires-clause-sends
walk-requires-clause-sends g c = taken_sends _ _ _ c.requires.idle c.in-Ok.ensures.asked

pub unreachable-requires : goal.unreachable-requires
unreachable-requires g c =
    let e = rw c.in-Err-Busy.field-0-is at c.in-Err-Busy.ensures.refused in
    refused_possible _ _ _ c.requires.idle c.requires.fits e

pub unreachable-requires-in-Err-Width : goal.unreachable-requires-in-Err-Width
unreachable-requires-in-Err-Width g c =
    let e = rw c.in-Err-Width.field-0-is at c.in-Err-Width.ensures.refused in
    refused_possible _ _ _ c.requires.idle c.requires.fits e

pub returns-in-Ok-clause-idle : goal.returns-in-Ok-clause-idle
returns-in-Ok-clause-idle g c = walked_idle _ _ _ _ _ _ _ c.walk.ensures.walked

pub returns-in-Err-NoBox-clause-came : goal.returns-in-Err-NoBox-clause-came
returns-in-Err-NoBox-clause-came g c =
    let e = rw c.in-Err-NoBox.field-0-is at c.in-Err-NoBox.ensures.refused in
    came_refused _ _ _ _ _ _ _ _ e refl c.in-Err-NoBox.ensures.same tt

pub returns-in-Err-Spent-clause-came : goal.returns-in-Err-Spent-clause-came
returns-in-Err-Spent-clause-came g c =
    let e = rw c.in-Err-Spent.field-0-is at c.in-Err-Spent.ensures.refused in
    came_refused _ _ _ _ _ _ _ _ e refl c.in-Err-Spent.ensures.same tt

pub returns-in-Err-OwnFull-clause-came : goal.returns-in-Err-OwnFull-clause-came
returns-in-Err-OwnFull-clause-came g c =
    let e = rw c.in-Err-OwnFull.field-0-is at c.in-Err-OwnFull.ensures.refused in
    came_refused _ _ _ _ _ _ _ _ e refl c.in-Err-OwnFull.ensures.same tt
