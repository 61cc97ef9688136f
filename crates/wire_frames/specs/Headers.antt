-- The header of the code as the header of the rules.
use Rattle.wire_frames.specs.declared.header.Header.{Header}
use Rattle.frame_rules.specs.Reading.{Header as Judged}

abbrev pub seen : Header → Judged
seen h = record { kind = h.kind; lane = h.lane; serial = h.serial; link = h.link; left = h.left }
