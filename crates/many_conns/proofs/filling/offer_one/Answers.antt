use Rattle.std.proofs.Common.{sym, ◌∙◌, ap, refl, true}
use Rattle.many_conns.specs.Places.{frames_at, frames_by, frames_if}
use Rattle.many_conns.specs.Batches.{is_side}
use Rattle.many_conns.proofs.BatchLaws.{offered_no, offered_same, from_side}
use Rattle.many_conns.proofs.filling.offer_one.Goals as goal

pub returns-then-not-is_side : goal.returns-then-not-is_side
returns-then-not-is_side g c =
    let rules = g.S.Answering.rules in
    offered_no rules c.args.server.now c.args.place c.args.from.now.door _ c.args.batch.now
    (ap (λ b. frames_if b (frames_at rules.whole c.args.from.now)) (ap (λ d. is_side c.args.peers d) (sym c.door.ensures) ∙ (sym c.is_side.ensures ∙ c.if-not-is_side.true)))

pub returns-then-peers : goal.returns-then-peers
returns-then-peers g c =
    let rules = g.S.Answering.rules in
    offered_same rules c.args.server.now c.args.place _ _ _ _ _ _ _ refl
    (ap (λ b. frames_by b rules.whole c.args.from.now) (sym c.if-peers.true)
    ∙ from_side rules.whole c.args.peers c.args.from.now (ap (λ d. is_side c.args.peers d) (sym c.door.ensures) ∙ (sym c.is_side.ensures ∙ c.if-not-is_side.false)))
    c.offer_all.ensures

pub returns : goal.returns
returns g c =
    let rules = g.S.Answering.rules in
    offered_same rules c.args.server.now c.args.place _ _ _ _ _ _ _ refl
    (ap (λ b. frames_by b rules.whole c.args.from.now) (sym c.if-peers.false)
    ∙ from_side rules.whole c.args.peers c.args.from.now (ap (λ d. is_side c.args.peers d) (sym c.door.ensures) ∙ (sym c.is_side.ensures ∙ c.if-not-is_side.false)))
    c.offer_first.ensures
