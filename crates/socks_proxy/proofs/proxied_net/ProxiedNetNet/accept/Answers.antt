use Rattle.std.proofs.Common.{refl, ap, ◌∙◌}
use Rattle.socks_proxy.specs.Telling.{tunnel_seen}
use Rattle.socks_proxy.proofs.TellLaws.{logged_so, told_before}
use Rattle.socks_proxy.proofs.proxied_net.ProxiedNetNet.accept.Goals as goal

pub returns-in-Ok-clause-call : goal.returns-in-Ok-clause-call
returns-in-Ok-clause-call g c =
    logged_so _ (tunnel_seen g.N.Conn.Counted.seen) _ _ _ _ _ _ _ (told_before _ _ _ c.in-Ok.ensures.call)
    (ap (λ n. (g.N.Counted.seen n).calls) c.log_call.ensures.below) c.log_call.ensures.noted refl

pub returns-in-Err-clause-call : goal.returns-in-Err-clause-call
returns-in-Err-clause-call g c =
    logged_so _ (tunnel_seen g.N.Conn.Counted.seen) _ _ _ _ _ _ _ (told_before _ _ _ c.in-Err.ensures.call)
    (ap (λ n. (g.N.Counted.seen n.below).calls) c.count_door_fault.ensures.counted ∙ ap (λ n. (g.N.Counted.seen n).calls) c.log_call-in-Err.ensures.below)
    (ap (λ n. n.log.items) c.count_door_fault.ensures.counted ∙ c.log_call-in-Err.ensures.noted) refl
