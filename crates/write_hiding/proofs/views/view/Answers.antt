use Rattle.std.proofs.Common.{◌∙◌, refl}
use Rattle.write_hiding.specs.Choices.{plain_choice, plain_aim, plain_game}
use Rattle.write_hiding.specs.Views.{view}
use Rattle.write_hiding.proofs.ViewLemmas.{same_view}
use Rattle.write_hiding.proofs.views.view.Goals as goal

pub returns-clause-view : goal.returns-clause-view
unfolding view
returns-clause-view c =
    let viewer = c.args.choice.now.viewer in
    let choice = plain_choice c.args.choice.now in
    let aim = plain_aim c.args.aim.now in
    let game = plain_game c.args.game.now in
    let sums = c.in_ok-audited.ensures in
    let shares = c.shares.ensures in
    same_view _ (view viewer choice aim game) refl (c.from_vec.ensures ∙ c.in_ok-bytes.ensures.part) shares.own
    (c.exchanged.ensures.opened ∙ rw (sums.other, shares.other) refl)
    (c.exchanged.ensures.closed ∙ rw (sums.own, sums.other, shares.own, shares.other) refl)
