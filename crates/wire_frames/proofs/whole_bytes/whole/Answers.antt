use Rattle.std.proofs.Common.{Err, length, ap, ◌∙◌, subst, arith}
use Rattle.std.proofs.lemmas.List.{take_all}
use Rattle.frame_rules.specs.Spelling.{Spells}
use Rattle.frame_rules.specs.Frames.{plain}
use Rattle.frame_rules.proofs.Waiting.{decoded_short}
use Rattle.frame_rules.proofs.WholeLaws.{whole_ok, whole_front, whole_short, whole_malformed, whole_version, malformed_frame}
use Rattle.wire_frames.proofs.whole_bytes.whole.Goals as goal

pub overflow_cast-result-in-Err-Short : goal.overflow_cast-result-in-Err-Short
overflow_cast-result-in-Err-Short c =
    let w = decoded_short c.args.bytes.now (c.in-Err-Short.ensures.exact ∙ ap Err c.in-Err-Short.field-0-is) in
    omega arith

pub returns-then-length-bytes-clause-frame : goal.returns-then-length-bytes-clause-frame
returns-then-length-bytes-clause-frame c = whole_ok c.args.bytes.now _ c.in-Ok.length c.in-Ok.ensures.exact c.if-length-bytes.true

pub returns-else-length-bytes-clause-refused : goal.returns-else-length-bytes-clause-refused
returns-else-length-bytes-clause-refused c = whole_front c.args.bytes.now _ c.in-Ok.length c.in-Ok.ensures.exact c.if-length-bytes.false

pub returns-in-Err-Short-clause-refused : goal.returns-in-Err-Short-clause-refused
returns-in-Err-Short-clause-refused c = whole_short c.args.bytes.now _ c.in-Err-Short.ensures.exact c.in-Err-Short.field-0-is

pub returns-in-Err-Short-clause-is_refusal : goal.returns-in-Err-Short-clause-is_refusal
returns-in-Err-Short-clause-is_refusal c =
    let w = decoded_short c.args.bytes.now (c.in-Err-Short.ensures.exact ∙ ap Err c.in-Err-Short.field-0-is) in
    malformed_frame (length c.args.bytes.now) (omega arith)

pub returns-in-Err-Malformed-clause-refused : goal.returns-in-Err-Malformed-clause-refused
returns-in-Err-Malformed-clause-refused c = whole_malformed c.args.bytes.now _ c.in-Err-Malformed.place c.in-Err-Malformed.ensures.exact c.in-Err-Malformed.field-0-is

pub returns-in-Err-Version-clause-refused : goal.returns-in-Err-Version-clause-refused
returns-in-Err-Version-clause-refused c = whole_version c.args.bytes.now _ c.in-Err-Version.version c.in-Err-Version.ensures.exact c.in-Err-Version.field-0-is

pub returns-then-length-bytes-clause-spelled : goal.returns-then-length-bytes-clause-spelled
returns-then-length-bytes-clause-spelled c =
    subst (Spells (plain c.in-Ok.frame)) (take_all c.in-Ok.length c.args.bytes.now (omega (arith, c.if-length-bytes.true))) c.in-Ok.ensures.found
