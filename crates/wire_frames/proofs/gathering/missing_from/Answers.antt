use Rattle.std.proofs.Common.{◌≡◌, ◌∙◌, length, true, false, sym, ap, arith}
use Rattle.frame_rules.specs.Reading.{decoded}
use Rattle.frame_rules.specs.Gathering.{is_short, missing_from}
use Rattle.frame_rules.proofs.Waiting.{decoded_short}
use Rattle.frame_rules.proofs.GatheringLaws.{short_is, missing_none, missing_is, length_missing}
use Rattle.wire_frames.proofs.gathering.missing_from.Goals as goal

pub returns-then-not-is_waiting-clause-exact : goal.returns-then-not-is_waiting-clause-exact
returns-then-not-is_waiting-clause-exact c =
    let t : is_short (decoded c.args.held.now) ≡ false = grind arith in
    sym (missing_none c.args.held.now t)

pub overflow_sub-result : goal.overflow_sub-result
overflow_sub-result c = omega (arith, length_missing c.args.held.now c.in-Err.field-0 c.in-Err.ensures)

pub overflow_sub-result-in-Ok : goal.overflow_sub-result-in-Ok
overflow_sub-result-in-Ok c =
    let t : is_short (decoded c.args.held.now) ≡ true = grind arith in
    let w = decoded_short c.args.held.now (short_is (decoded c.args.held.now) t) in
    omega (arith, w.length_right c.in-Ok.length c.in-Ok.ensures)

pub returns-in-Err-clause-exact : goal.returns-in-Err-clause-exact
returns-in-Err-clause-exact c =
    let t : is_short (decoded c.args.held.now) ≡ true = grind arith in
    sym (missing_is c.args.held.now t ∙ ap (λ r. missing_from r (length c.args.held.now)) c.in-Err.ensures)

pub returns-in-Err-clause-open : goal.returns-in-Err-clause-open
returns-in-Err-clause-open c e = omega (arith, length_missing c.args.held.now c.in-Err.field-0 c.in-Err.ensures)

pub returns-in-Ok-clause-exact : goal.returns-in-Ok-clause-exact
returns-in-Ok-clause-exact c =
    let t : is_short (decoded c.args.held.now) ≡ true = grind arith in
    sym (missing_is c.args.held.now t ∙ ap (λ r. missing_from r (length c.args.held.now)) c.in-Ok.ensures)

pub returns-in-Ok-clause-open : goal.returns-in-Ok-clause-open
returns-in-Ok-clause-open c e = omega (arith, (decoded_short c.args.held.now e).length_right c.in-Ok.length c.in-Ok.ensures)
