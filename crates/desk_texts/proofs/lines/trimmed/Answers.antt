use Rattle.std.proofs.Common.{◌∙◌, sym}
use Rattle.desk_texts.proofs.TrimLaws.{trim_blank, trim_other, trim_none}
use Rattle.desk_texts.proofs.lines.trimmed.Goals as goal

pub returns-then-not-is_blank : goal.returns-then-not-is_blank
returns-then-not-is_blank c =
    sym (trim_other c.loop-rest.rest.now c.in-len1-up.len_at_least (sym c.is_blank.ensures ∙ c.if-not-is_blank.true))
    ∙ c.loop-rest.invariant

pub loop-rest-preserved : goal.loop-rest-preserved
loop-rest-preserved c =
    trim_blank c.loop-rest.rest.now c.in-len1-up.len_at_least (sym c.is_blank.ensures ∙ c.if-not-is_blank.false)
    ∙ c.loop-rest.invariant

pub returns : goal.returns
returns c = trim_none c.loop-rest.rest.now c.in_default.len_below ∙ c.loop-rest.invariant
