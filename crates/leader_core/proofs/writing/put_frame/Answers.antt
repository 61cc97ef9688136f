use Rattle.std.proofs.Common.{arith}
use Rattle.frame_rules.specs.Frames.{plain}
use Rattle.frame_rules.proofs.GrammarLaws.{spelling_limit}
use Rattle.leader_core.proofs.writing.put_frame.Goals as goal

pub encode_into-requires-clause-room : goal.encode_into-requires-clause-room
encode_into-requires-clause-room c = let l = spelling_limit (plain c.args.frame.now) c.requires.is_frame in omega arith
