use Rattle.std.proofs.Common.{sym, ◌∙◌}
use Rattle.http_door.proofs.HeadLaws.{none_refused, ends_at, not_lacking, not_over, sized_once}
use Rattle.http_door.proofs.ends.whole.Goals as goal

pub returns-in_default-clause-request : goal.returns-in_default-clause-request
returns-in_default-clause-request c head body rest holds =
    absurd (none_refused _ c.in_default.ensures.why.never head holds.framing _ holds.takes)

pub returns-in-Ok-stated_len-clause-request : goal.returns-in-Ok-stated_len-clause-request
returns-in-Ok-stated_len-clause-request c head body rest holds =
    let found = rw c.in_ok-at.was at c.in-Ok.ensures.found in
    let sized = sym (c.stated_len.ensures.len found.1 found.2 found.3) ∙ c.in-Ok-stated_len.is in
    let ends = ends_at _ _ _ found.1 found.2 _ head body rest found.3 sized holds in
    cc (ends.0, ends.1)

pub returns-in-Ok-stated_len-clause-bad_length : goal.returns-in-Ok-stated_len-clause-bad_length
returns-in-Ok-stated_len-clause-bad_length c why holds =
    let found = rw c.in_ok-at.was at c.in-Ok.ensures.found in
    let sized = sym (c.stated_len.ensures.len found.1 found.2 found.3) ∙ c.in-Ok-stated_len.is in
    let same = sized_once _ _ _ holds.0 found.1 holds.1 found.2 _ found.3 holds.3 in
    let wrong = holds.4 in
    cc

pub returns-in-Ok-2-clause-request : goal.returns-in-Ok-2-clause-request
returns-in-Ok-2-clause-request c head body rest holds =
    let found = rw c.in_ok-at.was at c.in-Ok.ensures.found in
    let sized = sym (c.stated_len.ensures.len found.1 found.2 found.3) ∙ c.in-Ok-stated_len.is in
    let ends = ends_at _ _ _ found.1 found.2 _ head body rest found.3 sized holds in
    absurd (not_over _ _ _ body rest ends.1 ends.2 found.0.section.len_fits c.if-at-n.false)

pub returns-in-Ok-2-clause-bad_length : goal.returns-in-Ok-2-clause-bad_length
returns-in-Ok-2-clause-bad_length c why holds =
    let found = rw c.in_ok-at.was at c.in-Ok.ensures.found in
    let sized = sym (c.stated_len.ensures.len found.1 found.2 found.3) ∙ c.in-Ok-stated_len.is in
    let same = sized_once _ _ _ holds.0 found.1 holds.1 found.2 _ found.3 holds.3 in
    let wrong = holds.4 in
    cc

pub returns-in-Err-clause-request : goal.returns-in-Err-clause-request
returns-in-Err-clause-request c head body rest holds =
    let found = rw c.in_ok-at.was at c.in-Ok.ensures.found in
    let sized = sym (c.stated_len.ensures.len found.1 found.2 found.3) ∙ c.in-Err.is in
    let same = sized_once _ _ _ head found.1 holds.framing found.2 _ found.3 holds.takes in
    let size = holds.size in
    cc

pub returns-in_default-clause-short : goal.returns-in_default-clause-short
returns-in_default-clause-short c lacks =
    absurd (none_refused _ c.in_default.ensures.why.never lacks.0 lacks.1 lacks.2 lacks.4)

pub returns-in-Ok-stated_len-clause-short : goal.returns-in-Ok-stated_len-clause-short
returns-in-Ok-stated_len-clause-short c lacks =
    let found = rw c.in_ok-at.was at c.in-Ok.ensures.found in
    let sized = sym (c.stated_len.ensures.len found.1 found.2 found.3) ∙ c.in-Ok-stated_len.is in
    absurd (not_lacking _ _ _ found.1 found.2 _ lacks found.3 sized c.if-at-n.true)

pub returns-in-Err-clause-short : goal.returns-in-Err-clause-short
returns-in-Err-clause-short c lacks =
    let found = rw c.in_ok-at.was at c.in-Ok.ensures.found in
    let sized = sym (c.stated_len.ensures.len found.1 found.2 found.3) ∙ c.in-Err.is in
    let same = sized_once _ _ _ lacks.0 found.1 lacks.1 found.2 _ found.3 lacks.4 in
    let size = lacks.5 in
    cc
