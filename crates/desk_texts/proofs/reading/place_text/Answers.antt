use Rattle.desk_texts.proofs.TextLaws.{place_utf8}
use Rattle.desk_texts.proofs.reading.place_text.Goals as goal

pub unreachable-requires : goal.unreachable-requires
unreachable-requires c = c.in-Err.ensures.cases.0 (place_utf8 c.args.place.now c.requires)
