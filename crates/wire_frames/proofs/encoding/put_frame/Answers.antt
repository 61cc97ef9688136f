use Rattle.std.proofs.Common.{arith}
use Rattle.frame_rules.specs.Frames.{plain}
use Rattle.frame_rules.proofs.GrammarLaws.{length-spelling, spelling_limit}
use Rattle.wire_frames.proofs.Writes.{framed}
use Rattle.wire_frames.proofs.encoding.put_frame.Goals as goal

pub put_body-end-requires-clause-room : goal.put_body-end-requires-clause-room
put_body-end-requires-clause-room c = omega (arith, length-spelling (plain c.args.frame.now), c.requires.room)

pub put_header-requires-clause-left : goal.put_header-requires-clause-left
put_header-requires-clause-left c = omega (arith, length-spelling (plain c.args.frame.now), spelling_limit (plain c.args.frame.now) c.requires.is_frame, c.put_body-end.ensures.ends)

pub returns : goal.returns
returns c = framed (plain c.args.frame.now) c.kind_of-kind.result c.kind_of-kind.ensures c.put_body-end.ensures c.put_header.ensures
