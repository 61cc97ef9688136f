use Rattle.std.proofs.Common.{◌≡◌, ap, sym, subst, ◌∙◌}
use Rattle.socks_proxy.specs.Telling.{tunnel_seen, WasTold}
use Rattle.socks_proxy.proofs.TellLaws.{closed_so, told_before_close}
use Rattle.socks_proxy.proofs.proxied_net.ProxiedNetNet.close.Goals as goal
use Rattle.socks_proxy.proofs.proxied_net.ProxiedNetNet.close.Goals.{then-faults-ne0, else-faults-ne0}

pub returns-in-Some-clause-call : goal.returns-in-Some-clause-call
returns-in-Some-clause-call g c =
    let below : c.if-faults-ne0.self.below ≡ c.args.self.now.below =
    elim c.if-faults-ne0.branch [ then-faults-ne0 w ↦ ap (λ n. n.below) w.self-is ∙ ap (λ n. n.below) w.count_fault.ensures.counted | else-faults-ne0 w ↦ ap (λ n. n.below) w.self-is ] in
    let log : c.if-faults-ne0.self.log ≡ c.args.self.now.log =
    elim c.if-faults-ne0.branch [ then-faults-ne0 w ↦ ap (λ n. n.log) w.self-is ∙ ap (λ n. n.log) w.count_fault.ensures.counted | else-faults-ne0 w ↦ ap (λ n. n.log) w.self-is ] in
    closed_so _ (tunnel_seen g.N.Conn.Counted.seen) (g.N.Counted.seen c.args.self.now.below).calls (g.N.Counted.seen c.close.new.self).calls
    c.args.self.now.log.items c.log_call.new.self.log.items c.args.conn
    (subst (λ n. WasTold (g.N.Counted.seen n).calls (g.N.Counted.seen c.close.new.self).calls) (c.log_call.ensures.below ∙ below) (told_before_close _ _ _ _ _ c.close.ensures.call))
    (rw log at c.log_call.ensures.noted)
