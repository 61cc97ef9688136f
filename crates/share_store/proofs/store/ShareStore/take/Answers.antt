use Rattle.std.proofs.Common.{◌≡◌, ◌<◌, ◌∙◌, length, sym, ap, true, get_or, set, replicate, [], ℕ, List, arith}
use Rattle.std.specs.List.{refill}
use Rattle.express_words.specs.Bytes.{xor_bytes}
use Rattle.share_store.specs.Marks.{shares_in}
use Rattle.share_store.specs.Shares.{Share, Shares, share_at, shares_of, with_cleared}
use Rattle.share_store.proofs.ShareLemmas.{length-shares_in, share_at-shares_in, cleared_view, lent_back}
use Rattle.share_store.proofs.store.ShareStore.take.Goals as goal

pub get-requires : goal.get-requires
get-requires c =
    let within : c.args.box_number < length c.self.inside.live.items =
    omega (arith, ap (λ (s : Shares). length s.boxes) c.self.view_is, length-shares_in c.self.inside.live.items c.self.inside.shares.blocks c.self.invariant) in
    omega (arith, c.self.invariant)

pub get_mut-requires : goal.get_mut-requires
get_mut-requires c =
    let within : c.args.box_number < length c.self.inside.live.items =
    omega (arith, ap (λ (s : Shares). length s.boxes) c.self.view_is, length-shares_in c.self.inside.live.items c.self.inside.shares.blocks c.self.invariant) in
    omega (arith, c.self.invariant)

pub returns-clause-given : goal.returns-clause-given
returns-clause-given c =
    let within : c.args.box_number < length c.self.inside.live.items =
    omega (arith, ap (λ (s : Shares). length s.boxes) c.self.view_is, length-shares_in c.self.inside.live.items c.self.inside.shares.blocks c.self.invariant) in
    c.xor_into.ensures
    ∙ ap (xor_bytes c.args.out.now)
    (c.get.ensures.value
    ∙ sym (ap (λ (s : Share). s.bytes) (share_at-shares_in c.self.inside.live.items c.self.inside.shares.blocks c.args.box_number true c.self.invariant within))
    ∙ ap (λ (s : Shares). (share_at s.boxes c.args.box_number).bytes) c.self.view_is)

pub returns-clause-cleared : goal.returns-clause-cleared
returns-clause-cleared c =
    let within : c.args.box_number < length c.self.inside.live.items =
    omega (arith, ap (λ (s : Shares). length s.boxes) c.self.view_is, length-shares_in c.self.inside.live.items c.self.inside.shares.blocks c.self.invariant) in
    let blocks = c.self.inside.shares.blocks in
    let size = c.self.inside.shares.size in
    let bytes : refill (length (get_or blocks c.args.box_number [])) (get_or blocks c.args.box_number []) c.clear.new.bytes ≡ replicate size 0 =
    lent_back (get_or blocks c.args.box_number []) c.get_mut.result.now c.clear.new.bytes c.get_mut.ensures.value c.clear.auto.bytes
    ∙ c.clear.ensures ∙ ap (λ (n : ℕ). replicate n 0) c.get_mut.ensures.size in
    ap (λ (xs : List ℕ). shares_of size (shares_in c.self.inside.live.items (set blocks c.args.box_number xs))) bytes
    ∙ cleared_view c.self.inside.live.items blocks c.args.box_number c.self.invariant within size
    ∙ ap (λ (s : Shares). with_cleared s c.args.box_number (share_at s.boxes c.args.box_number).live) c.self.view_is
