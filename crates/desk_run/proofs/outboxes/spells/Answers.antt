use Rattle.std.proofs.Common.{◌≡◌}
use Rattle.desk_letters.specs.Opening.{Empty, Letter}
use Rattle.desk_run.proofs.outboxes.spells.Goals as goal

pub returns-in-Letter-clause-other : goal.returns-in-Letter-clause-other
returns-in-Letter-clause-other c =
    λ no h. let same = c.sealed_letters_open.ensures.one (Letter c.in-Letter.id c.in-Letter.other.now)
    (Letter h.0 c.args.text.now) c.args.message.now c.in-Letter.ensures h.1 in
    let text : c.in-Letter.other.now ≡ c.args.text.now = cc same in
    let yes = c.is_same_text.ensures.1 text in cc

pub returns-in-Empty-clause-other : goal.returns-in-Empty-clause-other
returns-in-Empty-clause-other c =
    λ no h. let same = c.sealed_letters_open.ensures.one Empty (Letter h.0 c.args.text.now) c.args.message.now c.in-Empty.ensures h.1 in cc
