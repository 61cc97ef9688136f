use Rattle.socks_proxy.proofs.NameLaws.{names_tell}
use Rattle.socks_proxy.proofs.circuits.names_differ.Goals as goal

pub returns : goal.returns
returns c = names_tell
