use Rattle.std.proofs.Common.{ap, arith}
use Rattle.express_words.specs.declared.settings.Settings.{Settings}
use Rattle.replay_world.proofs.world.World.share.Goals as goal

pub share-requires : goal.share-requires
share-requires c =
    let boxes = ap (λ (s : Settings). s.boxes) c.requires.whole.fit.leader in
    omega (arith, boxes, c.requires.within)

pub share-requires-else-server-eq0 : goal.share-requires-else-server-eq0
share-requires-else-server-eq0 c =
    let boxes = ap (λ (s : Settings). s.boxes) c.requires.whole.fit.helper in
    omega (arith, boxes, c.requires.within)
