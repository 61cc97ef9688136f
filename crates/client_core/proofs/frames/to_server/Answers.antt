use Rattle.frame_rules.specs.Frames.{plain_body}
use Rattle.client_core.proofs.FrameLemmas.{sent_frame}
use Rattle.client_core.proofs.frames.to_server.Goals as goal

pub returns-clause-is_frame : goal.returns-clause-is_frame
returns-clause-is_frame c = sent_frame c.args.lane c.args.serial (plain_body c.args.body.now) c.ranges.lane.fits c.ranges.serial.fits c.requires.first c.requires.sent c.requires.right
