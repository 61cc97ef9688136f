use Rattle.std.proofs.Common.{◌<◌, ◌∙◌, length, sym, ap, not, arith}
use Rattle.share_store.specs.Shares.{Share, Shares, share_at}
use Rattle.share_store.proofs.ShareLemmas.{length-shares_in, share_at-shares_in}
use Rattle.share_store.proofs.store.ShareStore.retired.Goals as goal

pub index-requires : goal.index-requires
index-requires c =
    let within : c.args.box_number < length c.self.inside.live.items =
    omega (arith, ap (λ (s : Shares). length s.boxes) c.self.view_is, length-shares_in c.self.inside.live.items c.self.inside.shares.blocks c.self.invariant) in
    omega arith

pub returns : goal.returns
returns c =
    let within : c.args.box_number < length c.self.inside.live.items =
    omega (arith, ap (λ (s : Shares). length s.boxes) c.self.view_is, length-shares_in c.self.inside.live.items c.self.inside.shares.blocks c.self.invariant) in
    ap not
    (c.index.ensures
    ∙ sym (ap (λ (s : Share). s.live) (share_at-shares_in c.self.inside.live.items c.self.inside.shares.blocks c.args.box_number c.index.result.now c.self.invariant within))
    ∙ ap (λ (s : Shares). (share_at s.boxes c.args.box_number).live) c.self.view_is)
