use Rattle.std.proofs.Common.{subst}
use Rattle.socks_proxy.specs.Routes.{IsShort}
use Rattle.socks_proxy.proofs.proxied_net.ProxiedNet.dial_by_route.Goals as goal

pub open_through-requires : goal.open_through-requires
open_through-requires g c = subst IsShort c.in-Through.is c.route_of.ensures.short
