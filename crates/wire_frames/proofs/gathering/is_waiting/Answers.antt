use Rattle.frame_rules.proofs.Waiting.{decoded_short}
use Rattle.wire_frames.proofs.gathering.is_waiting.Goals as goal

pub returns-in-Err-Short-clause-room : goal.returns-in-Err-Short-clause-room
returns-in-Err-Short-clause-room c t = (decoded_short c.args.held.now (rw c.in-Err-Short.field-0-is at c.in-Err-Short.ensures.exact)).most
