use Rattle.std.proofs.Common.{[], ◌∷◌, codes, sym, subst}
use Rattle.socks_proxy.specs.Dials.{Makes, places_of, ReachesOn, unreached}
use Rattle.socks_proxy.proofs.DialLaws.{reaches_first, reaches_second, makes_two}
use Rattle.socks_proxy.proofs.proxied_net.reach.Goals as goal

pub returns-in-Ok-clause-reached : goal.returns-in-Ok-clause-reached
returns-in-Ok-clause-reached g c =
    let a = (g.N.Counted.seen c.args.net.now).calls in
    let b = (g.N.Counted.seen c.dial.new.self).calls in
    subst (λ p. ReachesOn (places_of p) a b) (sym c.in-Named.is) (reaches_first c.in-Named.place.now [] a b c.in-Ok.ensures.call)

pub returns-in-Ok-dial-clause-reached : goal.returns-in-Ok-dial-clause-reached
returns-in-Ok-dial-clause-reached g c =
    let a = (g.N.Counted.seen c.args.net.now).calls in
    let b = (g.N.Counted.seen c.dial-in-Tor.new.self).calls in
    subst (λ p. ReachesOn (places_of p) a b) (sym c.in-Tor.is)
    (reaches_first (codes "127.0.0.1:9050") (codes "127.0.0.1:9150" ∷ []) a b c.in-Ok-dial.ensures.call)

pub returns-in-Ok-dial-2-clause-reached : goal.returns-in-Ok-dial-2-clause-reached
returns-in-Ok-dial-2-clause-reached g c =
    let a = (g.N.Counted.seen c.args.net.now).calls in
    let b = (g.N.Counted.seen c.dial-in-Tor.new.self).calls in
    let d = (g.N.Counted.seen c.dial-in-Err-dial.new.self).calls in
    subst (λ p. ReachesOn (places_of p) a d) (sym c.in-Tor.is)
    (reaches_second (codes "127.0.0.1:9050") (codes "127.0.0.1:9150") a b d c.in-Err-dial.ensures.call c.in-Ok-dial-2.ensures.call)

pub returns-in-Err-dial-2-clause-unreached : goal.returns-in-Err-dial-2-clause-unreached
returns-in-Err-dial-2-clause-unreached g c =
    let a = (g.N.Counted.seen c.args.net.now).calls in
    let b = (g.N.Counted.seen c.dial-in-Tor.new.self).calls in
    let d = (g.N.Counted.seen c.dial-in-Err-dial.new.self).calls in
    subst (λ p. Makes a d (unreached (places_of p))) (sym c.in-Tor.is)
    (makes_two a b d _ _ c.in-Err-dial.ensures.call c.in-Err-dial-2.ensures.call)
