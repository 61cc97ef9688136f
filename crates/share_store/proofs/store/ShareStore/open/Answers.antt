use Rattle.std.proofs.Common.{◌∙◌, ap, List, Bool, replicate}
use Rattle.block_region.specs.Region.{Blocks, zeros}
use Rattle.share_store.specs.Marks.{shares_in}
use Rattle.share_store.specs.Shares.{shares_of}
use Rattle.share_store.proofs.ShareLemmas.{shares_in-new}
use Rattle.share_store.proofs.store.ShareStore.open.Goals as goal

pub returns-in-Ok : goal.returns-in-Ok
returns-in-Ok c =
    ap (λ (b : Blocks). shares_of b.size (shares_in c.in-Ok.live.items b.blocks)) c.in_ok-shares.ensures
    ∙ ap (λ (ls : List Bool). shares_of c.args.width (shares_in ls (replicate c.args.boxes (zeros c.args.width)))) (c.in-Ok.ensures.items_if_clones_equal (λ y e. e))
    ∙ ap (shares_of c.args.width) (shares_in-new c.args.boxes c.args.width)
