use Rattle.std.specs.Prelude.{is_err}
use Rattle.std.proofs.Common.{None, ap, ◌∙◌}
use Rattle.socks_proxy.specs.Telling.{tunnel_seen}
use Rattle.socks_proxy.proofs.TellLaws.{logged_so, same_dialled, through_tunnel, through_refused}
use Rattle.socks_proxy.proofs.proxied_net.ProxiedNetNet.dial.Goals as goal

pub returns-in-Ok-clause-call : goal.returns-in-Ok-clause-call
returns-in-Ok-clause-call g c =
    logged_so _ (tunnel_seen g.N.Conn.Counted.seen) _ _ _ c.args.self.now.log.items c.log_call.new.self.log.items _ _ c.dial_by_route-answer.ensures.still_told
    (ap (λ n. (g.N.Counted.seen n).calls) c.log_call.ensures.below) (rw c.dial_by_route-answer.ensures.log at c.log_call.ensures.noted) (same_dialled _ (tunnel_seen g.N.Conn.Counted.seen) None _ _ _ _ (c.noted.ensures ∙ c.as_bytes.ensures.value) (c.is_err.ensures.value ∙ ap is_err c.in-Ok.is))

pub returns-in-Err-clause-call : goal.returns-in-Err-clause-call
returns-in-Err-clause-call g c =
    logged_so _ (tunnel_seen g.N.Conn.Counted.seen) _ _ _ c.args.self.now.log.items c.log_call.new.self.log.items _ _ c.dial_by_route-answer.ensures.still_told
    (ap (λ n. (g.N.Counted.seen n).calls) c.log_call.ensures.below) (rw c.dial_by_route-answer.ensures.log at c.log_call.ensures.noted) (same_dialled _ (tunnel_seen g.N.Conn.Counted.seen) None _ _ _ _ (c.noted.ensures ∙ c.as_bytes.ensures.value) (c.is_err.ensures.value ∙ ap is_err c.in-Err.is))

pub returns-in-Ok-clause-through : goal.returns-in-Ok-clause-through
returns-in-Ok-clause-through g c = λ to is.
    let t = through_tunnel _ _ _ g.N.Counted.seen g.N.Conn.Counted.seen _ c.dial_by_route-answer.new.self c.log_call.new.self to c.in-Ok.below c.new.result c.new.ensures.below
    c.log_call.ensures.below (ap (λ n. n.number) c.log_call.ensures.rest) (rw c.in-Ok.is at (c.dial_by_route-answer.ensures.through to is)) in
    record { opens = t.opens; names = t.names; spent = t.spent }

pub returns-in-Err-clause-through : goal.returns-in-Err-clause-through
returns-in-Err-clause-through g c = λ to is.
    let t = through_refused _ _ _ _ g.N.Counted.seen g.N.Conn.Counted.seen (λ tunnel. g.N.Conn.Counted.seen tunnel.below) _ c.dial_by_route-answer.new.self c.log_call.new.self to c.in-Err.field-0
    c.log_call.ensures.below (ap (λ n. n.number) c.log_call.ensures.rest) (rw c.in-Err.is at (c.dial_by_route-answer.ensures.through to is)) in
    record { opens = t.opens; names = t.names; spent = t.spent }
