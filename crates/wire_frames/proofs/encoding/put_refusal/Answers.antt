use Rattle.std.proofs.Common.{◌+◌, ◌≤◌, length, subst, arith}
use Rattle.frame_rules.specs.Spelling.{refusal}
use Rattle.frame_rules.proofs.BodyFields.{rejected_len}
use Rattle.wire_frames.proofs.encoding.put_refusal.Goals as goal

pub put_rejected-requires : goal.put_rejected-requires
put_rejected-requires c =
    let h = subst (λ r. c.args.place + length (refusal r) ≤ length c.args.out.now) c.in-Rejected.is c.requires in
    omega (arith, h, rejected_len c.in-Rejected.o_0 c.in-Rejected.o_1 c.in-Rejected.tau_0 c.in-Rejected.tau_1)
