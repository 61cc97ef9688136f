use Rattle.std.proofs.Common.{refl}
use Rattle.socks_proxy.specs.Dials.{places_of}
use Rattle.socks_proxy.proofs.DialLaws.{opened, refused_closed, refused_unreached}
use Rattle.socks_proxy.proofs.proxied_net.open.Goals as goal

pub returns-in-Err-clause-opens : goal.returns-in-Err-clause-opens
returns-in-Err-clause-opens g c = record {
  reached = tt;
  opened = tt;
  refused = refused_unreached (places_of c.args.proxy) _ _ _ c.in-Err.ensures.unreached;
}

pub returns-in-Ok-talk-clause-opens : goal.returns-in-Ok-talk-clause-opens
returns-in-Ok-talk-clause-opens g c =
    let was = g.N.Conn.Counted.seen c.in-Ok.conn in
    let now = g.N.Conn.Counted.seen c.talk.new.conn in
    let yes = c.in-Ok-talk.ensures.yes in
    record {
      reached = c.in-Ok.ensures.reached;
      opened = opened (g.N.Counted.seen c.reach.new.net).calls was.content now.content was.written now.written _ yes.0 now refl refl c.in-Ok.ensures.tells yes.2.0 yes.2.1 yes.1;
      refused = tt;
    }

pub returns-in-Err-talk-clause-opens : goal.returns-in-Err-talk-clause-opens
returns-in-Err-talk-clause-opens g c =
    let was = g.N.Conn.Counted.seen c.in-Ok.conn in
    let now = g.N.Conn.Counted.seen c.talk.new.conn in
    record {
      reached = tt;
      opened = tt;
      refused = refused_closed (places_of c.args.proxy) _ (g.N.Counted.seen c.args.net.now).calls (g.N.Counted.seen c.reach.new.net).calls
          (g.N.Counted.seen c.close.new.self).calls was.content now.content was.written now.written now.faults
          c.in-Ok.ensures.reached c.in-Ok.ensures.tells c.in-Err-talk.ensures.said c.close.ensures.call;
    }
