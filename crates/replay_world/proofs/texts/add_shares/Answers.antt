use Rattle.std.proofs.Common.{◌++◌, List, ℕ, ap, ap₂, ◌∙◌, arith}
use Rattle.std.specs.Prelude.{string_bytes}
use Rattle.replay_world.specs.Output.{share_line}
use Rattle.replay_world.proofs.ShareLines.{shares_next, shares_end}
use Rattle.replay_world.proofs.texts.add_shares.Goals as goal

pub share-requires : goal.share-requires
share-requires c = let within = c.count-box_number-end.ensures.within in omega (arith, c.requires, within)

pub loop-box_number-preserved : goal.loop-box_number-preserved
loop-box_number-preserved c =
    let s = c.args.state.now in
    let n = c.loop-box_number.box_number in
    let address = c.address_of.result in
    let count = c.count-box_number-end.ensures.count in
    shares_next s.leader s.helper.server n address (string_bytes c.in_ok-piece.piece) (string_bytes c.loop-box_number.text) _ _ (omega (arith, count)) c.address_of.ensures
    (c.in_ok-piece.ensures ∙ ap₂ (share_line n address) c.share.ensures c.share-in-loop-box_number.ensures)
    (c.in_ok-push_str.ensures.bytes ∙ ap (λ (piece : List ℕ). string_bytes c.loop-box_number.text ++ piece) c.as_str.ensures.value)
    c.loop-box_number.invariant

pub returns : goal.returns
returns c =
    let s = c.args.state.now in
    let count = c.count-box_number-end.ensures.count in
    shares_end s.leader s.helper.server.boxes c.loop-box_number.box_number (string_bytes c.loop-box_number.text) _ (omega (arith, count)) c.loop-box_number.invariant
