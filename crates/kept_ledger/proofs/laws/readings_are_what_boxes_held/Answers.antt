use Rattle.kept_ledger.proofs.ReadLaws.{no_reading_is_left_out, readings_are_what_boxes_held}
use Rattle.kept_ledger.proofs.laws.readings_are_what_boxes_held.Goals as goal

pub returns : goal.returns
returns c = record { held = readings_are_what_boxes_held; all = no_reading_is_left_out }
