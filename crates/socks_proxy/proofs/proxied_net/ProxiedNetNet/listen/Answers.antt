use Rattle.std.specs.Prelude.{is_err}
use Rattle.std.proofs.Common.{None, refl, ap, ◌∙◌}
use Rattle.socks_proxy.specs.Telling.{tunnel_seen}
use Rattle.socks_proxy.proofs.TellLaws.{logged_so, same_listened, told_before}
use Rattle.socks_proxy.proofs.proxied_net.ProxiedNetNet.listen.Goals as goal

pub returns-in-Ok-clause-call : goal.returns-in-Ok-clause-call
returns-in-Ok-clause-call g c =
    logged_so _ (tunnel_seen g.N.Conn.Counted.seen) _ _ _ _ _ _ _ (told_before _ _ _ c.listen-answer.ensures.call)
    (ap (λ n. (g.N.Counted.seen n).calls) c.log_call.ensures.below) c.log_call.ensures.noted (same_listened _ (tunnel_seen g.N.Conn.Counted.seen) None _ _ _ _ (c.noted.ensures ∙ c.as_bytes.ensures.value) (c.is_err.ensures.value ∙ ap is_err c.in-Ok.is))

pub returns-in-Err-clause-call : goal.returns-in-Err-clause-call
returns-in-Err-clause-call g c =
    logged_so _ (tunnel_seen g.N.Conn.Counted.seen) _ _ _ _ _ _ _ (told_before _ _ _ c.listen-answer.ensures.call)
    (ap (λ n. (g.N.Counted.seen n.below).calls) c.count_door_fault.ensures.counted ∙ ap (λ n. (g.N.Counted.seen n).calls) c.log_call.ensures.below)
    (ap (λ n. n.log.items) c.count_door_fault.ensures.counted ∙ c.log_call.ensures.noted) (same_listened _ (tunnel_seen g.N.Conn.Counted.seen) None _ _ _ _ (c.noted.ensures ∙ c.as_bytes.ensures.value) (c.is_err.ensures.value ∙ ap is_err c.in-Err.is))
