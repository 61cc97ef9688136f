use Rattle.std.proofs.Common.{ℕ, List, ap, ◌∙◌, subst, arith}
use Rattle.std.specs.Prelude.{decimal}
use Rattle.http_door.specs.Output.{IsPut}
use Rattle.http_door.specs.Requests.{path_text}
use Rattle.http_door.specs.Sending.{sent_head}
use Rattle.http_door.proofs.OutputLaws.{put_first, put_next, none_weaker, some_weaker}
use Rattle.http_door.proofs.SendingLaws.{sent_pieces, over_head, over_body}
use Rattle.http_door.proofs.sending.write_request.Goals as goal

pub returns-in_err-started-clause-short : goal.returns-in_err-started-clause-short
returns-in_err-started-clause-short c =
    let path = c.text.ensures ∙ ap path_text c.path.ensures in
    let digits = c.as_bytes-digits.ensures.value ∙ c.format.ensures.text ∙ ap decimal c.in_ok-n.ensures.len in
    let heads = c.head_parts-head.ensures ∙ (λ i. sent_head (path i) (c.bytes.ensures.bytes i) (digits i)) in
    rw c.from_residual-in_err-started.ensures (over_head _ _ _ _ heads (omega (arith, c.in_err-started.ensures.short)))

pub returns-clause-written : goal.returns-clause-written
returns-clause-written c =
    let path = c.text.ensures ∙ ap path_text c.path.ensures in
    let digits = c.as_bytes-digits.ensures.value ∙ c.format.ensures.text ∙ ap decimal c.in_ok-n.ensures.len in
    let heads = c.head_parts-head.ensures ∙ (λ i. sent_head (path i) (c.bytes.ensures.bytes i) (digits i)) in
    let first = put_first _ _ _ _ c.in_ok-started.ensures.put in
    some_weaker _ _ _ (λ n last.
    subst (λ (t : List ℕ). IsPut c.args.out.now c.put_body.new.out t n) (sent_pieces _ _ _ heads) (put_next _ _ _ _ _ _ _ (omega arith) first last))
    c.put_body.ensures.put

pub returns-clause-short : goal.returns-clause-short
returns-clause-short c =
    let path = c.text.ensures ∙ ap path_text c.path.ensures in
    let digits = c.as_bytes-digits.ensures.value ∙ c.format.ensures.text ∙ ap decimal c.in_ok-n.ensures.len in
    let heads = c.head_parts-head.ensures ∙ (λ i. sent_head (path i) (c.bytes.ensures.bytes i) (digits i)) in
    let first = put_first _ _ _ _ c.in_ok-started.ensures.put in
    none_weaker _ _ _ (λ short.
    let over = over_body _ _ _ _ _ heads first.end short in
    omega (arith, over)) c.put_body.ensures.short
