use Rattle.std.proofs.Common.{◌<◌, ◌∙◌, length, sym, ap, true, arith}
use Rattle.share_store.specs.Shares.{Share, Shares, share_at}
use Rattle.share_store.proofs.ShareLemmas.{length-shares_in, share_at-shares_in}
use Rattle.share_store.proofs.store.ShareStore.share.Goals as goal

pub get-requires : goal.get-requires
get-requires c =
    let within : c.args.box_number < length c.self.inside.live.items =
    omega (arith, ap (λ (s : Shares). length s.boxes) c.self.view_is, length-shares_in c.self.inside.live.items c.self.inside.shares.blocks c.self.invariant) in
    omega (arith, c.self.invariant)

pub returns-clause-bytes : goal.returns-clause-bytes
returns-clause-bytes c =
    let within : c.args.box_number < length c.self.inside.live.items =
    omega (arith, ap (λ (s : Shares). length s.boxes) c.self.view_is, length-shares_in c.self.inside.live.items c.self.inside.shares.blocks c.self.invariant) in
    c.get.ensures.value
    ∙ sym (ap (λ (s : Share). s.bytes) (share_at-shares_in c.self.inside.live.items c.self.inside.shares.blocks c.args.box_number true c.self.invariant within))
    ∙ ap (λ (s : Shares). (share_at s.boxes c.args.box_number).bytes) c.self.view_is
