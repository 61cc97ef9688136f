use Rattle.std.proofs.Common.{◌∙◌}
use Rattle.http_door.proofs.HeadLaws.{none_refused, heard_same, heard_request, heard_unsized, heard_lacking}
use Rattle.http_door.proofs.hearing.read.Goals as goal

pub returns-in-Ok-Some-clause-request : goal.returns-in-Ok-Some-clause-request
returns-in-Ok-Some-clause-request c head body rest holds =
    let found = rw c.in-Ok-Some.field-0-is at c.in-Ok-Some.ensures.found in
    c.heard_at.ensures found.1 found.2 found.3
    ∙ heard_same _ _ _ head found.1 holds.framing found.2 _ found.3 holds.takes ∙ heard_request _ head body rest holds

pub returns-in-Ok-Some-clause-bad_length : goal.returns-in-Ok-Some-clause-bad_length
returns-in-Ok-Some-clause-bad_length c why holds =
    let found = rw c.in-Ok-Some.field-0-is at c.in-Ok-Some.ensures.found in
    c.heard_at.ensures found.1 found.2 found.3
    ∙ heard_same _ _ _ holds.0 found.1 holds.1 found.2 _ found.3 holds.3 ∙ heard_unsized why holds.0 holds.1 holds.2 holds.4

pub returns-in-Ok-Some-clause-cut : goal.returns-in-Ok-Some-clause-cut
returns-in-Ok-Some-clause-cut c lacks =
    let found = rw c.in-Ok-Some.field-0-is at c.in-Ok-Some.ensures.found in
    c.heard_at.ensures found.1 found.2 found.3
    ∙ heard_same _ _ _ lacks.0 found.1 lacks.1 found.2 _ found.3 lacks.4
    ∙ heard_lacking lacks.0 lacks.1 lacks.2 lacks.3 lacks.5 lacks.6

pub returns-in-Ok-Some-clause-headless : goal.returns-in-Ok-Some-clause-headless
returns-in-Ok-Some-clause-headless c none =
    let found = rw c.in-Ok-Some.field-0-is at c.in-Ok-Some.ensures.found in
    absurd (none found.1 found.2 _ found.3.takes)

pub returns-in-Err-clause-request : goal.returns-in-Err-clause-request
returns-in-Err-clause-request c head body rest holds =
    absurd (none_refused _ c.in-Err.ensures.why.never head holds.framing _ holds.takes)

pub returns-in-Err-clause-bad_length : goal.returns-in-Err-clause-bad_length
returns-in-Err-clause-bad_length c why holds =
    absurd (none_refused _ c.in-Err.ensures.why.never holds.0 holds.1 holds.2 holds.3)

pub returns-in-Err-clause-cut : goal.returns-in-Err-clause-cut
returns-in-Err-clause-cut c lacks =
    absurd (none_refused _ c.in-Err.ensures.why.never lacks.0 lacks.1 lacks.2 lacks.4)
