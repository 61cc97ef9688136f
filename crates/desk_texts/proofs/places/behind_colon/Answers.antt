use Rattle.std.proofs.Common.{◌∙◌}
use Rattle.std.specs.Option.{option_copied}
use Rattle.desk_texts.proofs.PlaceLaws.{on_colon, on_other, on_none}
use Rattle.desk_texts.proofs.places.behind_colon.Goals as goal

pub loop-rest-preserved-then-byte-eq58 : goal.loop-rest-preserved-then-byte-eq58
loop-rest-preserved-then-byte-eq58 c =
    on_colon c.loop-rest.rest.now (option_copied c.loop-rest.found) c.in-len1-up.len_at_least c.if-byte-eq58.true
    ∙ c.loop-rest.invariant

pub loop-rest-preserved : goal.loop-rest-preserved
loop-rest-preserved c =
    on_other c.loop-rest.rest.now (option_copied c.loop-rest.found) c.in-len1-up.len_at_least c.if-byte-eq58.false
    ∙ c.loop-rest.invariant

pub returns : goal.returns
returns c = on_none c.loop-rest.rest.now (option_copied c.loop-rest.found) c.in_default.len_below ∙ c.loop-rest.invariant
