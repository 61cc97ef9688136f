use Rattle.std.proofs.Common.{arith, rules, ap, sym, ◌∙◌}
use Rattle.std.specs.Fmt.{decimal}
use Rattle.std.proofs.lemmas.Slice.Eq.{bytes_eq-Decides}
use Rattle.express_drill.proofs.Ports.{unread, read_is}
use Rattle.express_drill.proofs.order.port_in.Goals as goal

pub returns-in-Err : goal.returns-in-Err
returns-in-Err c n large small same = unread c.args.text.now n c.parse.result _ c.parse.ensures.value.0 c.in-Err.is small same

pub returns-then-port-eq0 : goal.returns-then-port-eq0
returns-then-port-eq0 c n large small same =
    let read = read_is c.args.text.now c.in-Ok.port n c.parse.result c.parse.ensures.value.0 c.in-Ok.is small same in omega (arith, read, large)

pub returns-then-port-gt-LAST_PORT : goal.returns-then-port-gt-LAST_PORT
returns-then-port-gt-LAST_PORT c n large small same =
    let read = read_is c.args.text.now c.in-Ok.port n c.parse.result c.parse.ensures.value.0 c.in-Ok.is small same in omega (arith, read, small)

pub returns : goal.returns
returns c n large small same =
    let read = read_is c.args.text.now c.in-Ok.port n c.parse.result c.parse.ensures.value.0 c.in-Ok.is small same in
    let equal = (bytes_eq-Decides c.as_str.result.now c.args.text.now).1 (c.as_str.ensures.value ∙ c.in_ok-digits.ensures.ok ∙ ap decimal read ∙ sym same) in search (rules, equal)
