use Rattle.std.proofs.Common.{List, ℕ, [], ◌++◌, ap, ◌∙◌, subst}
use Rattle.std.specs.Prelude.{codes, IfSome}
use Rattle.http_door.specs.Output.{IsPutAt}
use Rattle.http_door.proofs.ReplyLaws.{origin_is}
use Rattle.http_door.proofs.writing.put_origin.Goals as goal

pub returns-in-Some-clause-put : goal.returns-in-Some-clause-put
returns-in-Some-clause-put c =
    let text =
    ap (λ (t : List ℕ). codes "Access-Control-Allow-Origin: " ++ (t ++ (codes "\r\nVary: Origin\r\n" ++ []))) c.bytes.ensures.bytes
    ∙ origin_is c.in-Some.value.now in
    rw c.in-Some.is
    (subst (λ (t : List ℕ). IfSome c.put_all.result (λ n. IsPutAt c.args.out.now c.put_all.new.out c.args.at t n)) text c.put_all.ensures.put)
