use Rattle.std.proofs.Common.{ℕ, List, [], ◌++◌, ap, ◌∙◌, subst, arith}
use Rattle.std.specs.Prelude.{codes}
use Rattle.http_door.specs.Output.{IsPut}
use Rattle.http1.specs.Head.{status_digits}
use Rattle.http_door.specs.Replies.{origin_value, start_text}
use Rattle.http_door.proofs.OutputLaws.{put_first, put_next, none_weaker, some_weaker}
use Rattle.http_door.proofs.ReplyLaws.{over_first, over_second, over_third, over_fourth, over_fifth, put_whole}
use Rattle.http_door.proofs.writing.write.Goals as goal

pub returns-in_err-started-clause-short : goal.returns-in_err-started-clause-short
returns-in_err-started-clause-short c =
    let digits = c.status_digits-status.ensures in
    let status = c.status.ensures in
    let reason = c.reason.ensures in
    let own = c.own_field.ensures in
    let starts = c.start_parts-start.ensures ∙ (λ i. start_text ((digits ∙ ap status_digits status) i) (reason i) (own i)) in
    rw c.from_residual.ensures (over_first _ _ _ _ _ [] [] starts (omega (arith, c.in_err-started.ensures.short)))

pub returns-in_err-sized-clause-short : goal.returns-in_err-sized-clause-short
returns-in_err-sized-clause-short c =
    let starts = c.start_parts-start.ensures ∙ (λ i. start_text ((c.status_digits-status.ensures ∙ ap status_digits c.status.ensures) i) (c.reason.ensures i) (c.own_field.ensures i)) in
    let first = put_first _ _ _ _ c.in_ok-started.ensures.put in
    let over = over_second _ (origin_value c.args.origin) c.args.keeps _ _ _ [] starts c.length_parts.ensures _ first.end c.in_err-sized.ensures.short in
    rw c.from_residual-in_err-sized.ensures (omega (arith, over))

pub returns-in_err-allowed-clause-short : goal.returns-in_err-allowed-clause-short
returns-in_err-allowed-clause-short c =
    let starts = c.start_parts-start.ensures ∙ (λ i. start_text ((c.status_digits-status.ensures ∙ ap status_digits c.status.ensures) i) (c.reason.ensures i) (c.own_field.ensures i)) in
    let first = put_first _ _ _ _ c.in_ok-started.ensures.put in
    let second = put_next _ _ _ _ _ _ _ (omega arith) first c.in_ok-sized.ensures.put in
    let over = over_third _ (origin_value c.args.origin) c.args.keeps _ _ _ [] starts c.length_parts.ensures _ second.end c.in_err-allowed.ensures.short in
    rw c.from_residual-in_err-allowed.ensures (omega (arith, over))

pub returns-in_err-ended-clause-short : goal.returns-in_err-ended-clause-short
returns-in_err-ended-clause-short c =
    let starts = c.start_parts-start.ensures ∙ (λ i. start_text ((c.status_digits-status.ensures ∙ ap status_digits c.status.ensures) i) (c.reason.ensures i) (c.own_field.ensures i)) in
    let closes = ap (λ (t : List ℕ). t ++ codes "\r\n") c.close_text.ensures in
    let first = put_first _ _ _ _ c.in_ok-started.ensures.put in
    let second = put_next _ _ _ _ _ _ _ (omega arith) first c.in_ok-sized.ensures.put in
    let third = put_next _ _ _ _ _ _ _ (omega arith) second c.in_ok-allowed.ensures.put in
    let over = over_fourth _ (origin_value c.args.origin) c.args.keeps _ _ _ _ starts c.length_parts.ensures closes _ third.end c.in_err-ended.ensures.short in
    rw c.from_residual-in_err-ended.ensures (omega (arith, over))

pub returns-clause-short : goal.returns-clause-short
returns-clause-short c =
    let starts = c.start_parts-start.ensures ∙ (λ i. start_text ((c.status_digits-status.ensures ∙ ap status_digits c.status.ensures) i) (c.reason.ensures i) (c.own_field.ensures i)) in
    let closes = ap (λ (t : List ℕ). t ++ codes "\r\n") c.close_text.ensures in
    let first = put_first _ _ _ _ c.in_ok-started.ensures.put in
    let second = put_next _ _ _ _ _ _ _ (omega arith) first c.in_ok-sized.ensures.put in
    let third = put_next _ _ _ _ _ _ _ (omega arith) second c.in_ok-allowed.ensures.put in
    let fourth = put_next _ _ _ _ _ _ _ (omega arith) third c.in_ok-ended.ensures.put in
    none_weaker _ _ _ (λ short.
    let over = over_fifth _ (origin_value c.args.origin) c.args.keeps _ _ _ _ starts c.length_parts.ensures closes _ fourth.end short in
    omega (arith, over)) c.put_body.ensures.short

pub returns-clause-written : goal.returns-clause-written
returns-clause-written c =
    let starts = c.start_parts-start.ensures ∙ (λ i. start_text ((c.status_digits-status.ensures ∙ ap status_digits c.status.ensures) i) (c.reason.ensures i) (c.own_field.ensures i)) in
    let closes = ap (λ (t : List ℕ). t ++ codes "\r\n") c.close_text.ensures in
    let first = put_first _ _ _ _ c.in_ok-started.ensures.put in
    let second = put_next _ _ _ _ _ _ _ (omega arith) first c.in_ok-sized.ensures.put in
    let third = put_next _ _ _ _ _ _ _ (omega arith) second c.in_ok-allowed.ensures.put in
    let fourth = put_next _ _ _ _ _ _ _ (omega arith) third c.in_ok-ended.ensures.put in
    let whole = put_whole _ (origin_value c.args.origin) c.args.keeps _ _ _ starts c.length_parts.ensures closes in
    some_weaker _ _ _ (λ n last.
    subst (λ (t : List ℕ). IsPut c.args.out.now c.put_body.new.out t n) whole (put_next _ _ _ _ _ _ _ (omega arith) fourth last))
    c.put_body.ensures.put
