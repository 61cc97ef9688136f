use Rattle.std.specs.Prelude.{OnOk}
use Rattle.std.proofs.Common.{[], Result, sym, subst, refl}
use Rattle.std.proofs.lemmas.Result.{IfOk-at_ok}
use Rattle.node_restart.specs.declared.server.Core.TheVariants.{Lead, Help}
use Rattle.node_serve.specs.declared.never.Never.{Never}
use Rattle.node_serve.specs.declared.node.Node.{Node}
use Rattle.node_serve.specs.declared.node.Served.{Served}
use Rattle.node_serve.specs.declared.node.Node.TheVariants as node
use Rattle.node_serve.specs.Moved.{moved, shown}
use Rattle.node_serve.specs.NoLog.{core_of, no_log, node_log, peer_of}
use Rattle.node_serve.specs.Own.{TellsOwnOn}
use Rattle.node_serve.specs.Serving.{AnswersOn}
use Rattle.node_serve.proofs.RespondLaws.{of_node}
use Rattle.node_serve.proofs.faces.serve_one.Goals as goal

pub returns-in-Lead-clause-serves : goal.returns-in-Lead-clause-serves
returns-in-Lead-clause-serves g c given =
    let leader = c.in-Lead.leader in
    let peer = c.in-Lead.peer in
    let held = c.serve.new.gather in
    let net = shown g.N.Counted.seen c.args.net.now c.serve.new.net in
    let conn = shown g.C.Counted.seen c.args.conn.now c.serve.new.conn in
    let why = c.unrefused.result in
    let h = IfOk-at_ok (AnswersOn (no_log Lead) c.as_str.result.now held (moved leader c.serve.new.server) net conn) c.unrefused.ensures (c.serve.ensures.serves.serves given) in
    subst (λ (n : Node). AnswersOn node_log (peer_of n) held (moved n (node.Lead c.serve.new.server peer)) net conn why) (sym c.in-Lead.is)
    (of_node Lead (λ s. node.Lead s peer) c.as_str.result.now held leader c.serve.new.server net conn why (λ s. refl) (λ s. sym c.as_str.ensures) h)

pub returns-in-Help-clause-serves : goal.returns-in-Help-clause-serves
returns-in-Help-clause-serves g c given =
    let helper = c.in-Help.helper in
    let new = c.serve-in-Help.new.server in
    let held = c.serve-in-Help.new.gather in
    let net = shown g.N.Counted.seen c.args.net.now c.serve-in-Help.new.net in
    let conn = shown g.C.Counted.seen c.args.conn.now c.serve-in-Help.new.conn in
    let why = c.unrefused-in-Help.result in
    let h = IfOk-at_ok (AnswersOn (no_log Help) [] held (moved helper new) net conn) c.unrefused-in-Help.ensures (c.serve-in-Help.ensures.serves.serves given) in
    subst (λ (n : Node). AnswersOn node_log (peer_of n) held (moved n (node.Help new)) net conn why) (sym c.in-Help.is)
    (of_node Help node.Help [] held helper new net conn why (λ s. refl) (λ s. refl) h)

pub returns-in-Lead-clause-own : goal.returns-in-Lead-clause-own
returns-in-Lead-clause-own g c =
    let held = c.serve.new.gather in
    let net = shown g.N.Counted.seen c.args.net.now c.serve.new.net in
    let conn = shown g.C.Counted.seen c.args.conn.now c.serve.new.conn in
    let told = subst (λ (r : Result Served Never). OnOk r (TellsOwnOn (Lead c.in-Lead.leader) held net conn)) c.unrefused.ensures c.serve.ensures.own in
    subst (λ (n : Node). TellsOwnOn (core_of n) held net conn) (sym c.in-Lead.is) told

pub returns-in-Help-clause-own : goal.returns-in-Help-clause-own
returns-in-Help-clause-own g c =
    let held = c.serve-in-Help.new.gather in
    let net = shown g.N.Counted.seen c.args.net.now c.serve-in-Help.new.net in
    let conn = shown g.C.Counted.seen c.args.conn.now c.serve-in-Help.new.conn in
    let told = subst (λ (r : Result Served Never). OnOk r (TellsOwnOn (Help c.in-Help.helper) held net conn)) c.unrefused-in-Help.ensures c.serve-in-Help.ensures.own in
    subst (λ (n : Node). TellsOwnOn (core_of n) held net conn) (sym c.in-Help.is) told
