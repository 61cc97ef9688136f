use Rattle.run_sights.proofs.HelperSights.{helper_sights_stay, helper_runs_stay, helper_runs_return, helper_masks_stay}
use Rattle.run_sights.proofs.helper_runs_stay.Goals as goal

pub returns : goal.returns
returns c =
    let moves = c.moved_choices_are_twins.ensures in
    let stay = c.views_stay.ensures.choices_stay in
    let clients = c.helpers_tell_views.ensures.clients in
    let leaders = c.helpers_tell_views.ensures.leaders in
    record {
      sights = helper_sights_stay moves stay clients leaders;
      form = helper_runs_stay moves stay clients leaders;
      back = helper_runs_return moves stay clients leaders;
      masks = helper_masks_stay moves stay clients leaders;
    }
