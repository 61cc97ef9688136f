use Rattle.std.proofs.Common.{arith}
use Rattle.frame_rules.specs.Frames.{plain}
use Rattle.frame_rules.proofs.GrammarLaws.{spelling_limit}
use Rattle.owner_check.proofs.asking.ask.Goals as goal

pub encode_into-size-requires-clause-room : goal.encode_into-size-requires-clause-room
encode_into-size-requires-clause-room g c =
    let l = spelling_limit (plain c.args.question.now) c.requires.frame in omega (arith, l)
