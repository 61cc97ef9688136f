use Rattle.std.proofs.Common.{subst}
use Rattle.frame_rules.specs.Spelling.{address}
use Rattle.wire_frames.specs.Writing.{Writes}
use Rattle.wire_frames.proofs.writing.put_address.Goals as goal

pub returns-clause-written : goal.returns-clause-written
unfolding address
returns-clause-written c = subst (λ t. Writes c.args.out.now c.args.place t c.put.new.out c.put.result) c.to_be_bytes.ensures c.put.ensures.written
