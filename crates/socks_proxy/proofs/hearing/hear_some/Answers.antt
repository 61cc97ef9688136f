use Rattle.std.proofs.Common.{◌≡◌, length, arith}
use Rattle.std.proofs.lemmas.List.{length-take}
use Rattle.socks_proxy.proofs.hearing.hear_some.Goals as goal

pub returns-in-Ok-clause-whole : goal.returns-in-Ok-clause-whole
returns-in-Ok-clause-whole g c =
    let long : length c.hear.new.into ≡ c.args.count = omega (arith, c.hear.auto.into, length-take c.args.count c.args.room.now) in
    (c.hear.new.into, long, c.in-Ok.ensures.whole)
