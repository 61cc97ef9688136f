use Rattle.std.proofs.Common.{arith}
use Rattle.leader_core.proofs.stores.LeaderStores.outstanding.Goals as goal

pub returns-clause-few : goal.returns-clause-few
returns-clause-few c =
    let limits = c.args.self.now.settings.limits in
    let window = limits.3 in
    let same = c.requires.is.link.window in
    let few = c.count.ensures.link.few in
    omega (arith, window, same, few, c.count.ensures.count)
