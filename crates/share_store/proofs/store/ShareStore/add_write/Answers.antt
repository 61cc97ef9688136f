use Rattle.std.proofs.Common.{length, ap, arith}
use Rattle.std.proofs.lemmas.List.{length-take-le}
use Rattle.share_store.specs.Shares.{Shares}
use Rattle.share_store.proofs.ShareLemmas.{length-shares_in}
use Rattle.share_store.proofs.store.ShareStore.add_write.Goals as goal

pub add_leaves-requires-clause-count : goal.add_leaves-requires-clause-count
add_leaves-requires-clause-count c =
    omega (
      arith,
      length-take-le c.args.count c.args.leaves.now c.requires.leaves,
      ap length c.deref.ensures.value,
      ap (λ (s : Shares). length s.boxes) c.self.view_is,
      length-shares_in c.self.inside.live.items c.self.inside.shares.blocks c.self.invariant,
    )
