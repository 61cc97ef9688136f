use Rattle.std.proofs.Common.{◌<◌, ◌∙◌, length, replicate, ap, arith}
use Rattle.std.proofs.lemmas.List.{length-set}
use Rattle.share_store.specs.Shares.{Shares, share_at}
use Rattle.share_store.proofs.ShareLemmas.{length-shares_in, retired_view}
use Rattle.share_store.proofs.store.ShareStore.retire.Goals as goal

pub index_mut-requires : goal.index_mut-requires
index_mut-requires c =
    omega (
      arith,
      ap (λ (s : Shares). length s.boxes) (c.self.view_is ∙ c.take.ensures.cleared),
      length-set c.args.self.now.boxes c.args.box_number (record { bytes = replicate c.args.self.now.width 0; live = (share_at c.args.self.now.boxes c.args.box_number).live }),
      length-shares_in c.self.inside.live.items c.self.inside.shares.blocks c.self.invariant,
    )

pub returns-clause-retired : goal.returns-clause-retired
returns-clause-retired c =
    let within : c.args.box_number < length c.self.inside.live.items =
    omega (
      arith,
      ap (λ (s : Shares). length s.boxes) (c.self.view_is ∙ c.take.ensures.cleared),
      length-set c.args.self.now.boxes c.args.box_number (record { bytes = replicate c.args.self.now.width 0; live = (share_at c.args.self.now.boxes c.args.box_number).live }),
      length-shares_in c.self.inside.live.items c.self.inside.shares.blocks c.self.invariant,
    ) in
    retired_view c.self.inside.live.items c.self.inside.shares.blocks c.args.box_number c.self.invariant within c.self.inside.shares.size
    c.args.self.now (share_at c.args.self.now.boxes c.args.box_number).live (c.self.view_is ∙ c.take.ensures.cleared)
