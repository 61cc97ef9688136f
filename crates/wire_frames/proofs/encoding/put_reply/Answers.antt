use Rattle.std.proofs.Common.{◌+◌, ◌≤◌, length, subst, arith}
use Rattle.frame_rules.specs.Frames.{plain_reply}
use Rattle.frame_rules.specs.Spelling.{reply}
use Rattle.frame_rules.proofs.BodyFields.{audited_len}
use Rattle.wire_frames.proofs.encoding.put_reply.Goals as goal

pub put_audited-requires : goal.put_audited-requires
put_audited-requires c =
    let h = subst (λ r. c.args.place + length (reply (plain_reply r)) ≤ length c.args.out.now) c.in-Audited.is c.requires in
    omega (arith, h, audited_len c.in-Audited.opened c.in-Audited.closed)
