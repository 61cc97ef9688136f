use Rattle.run_sights.proofs.LeaderSights.{leader_sights_stay, leader_runs_stay, leader_runs_return, leader_masks_stay}
use Rattle.run_sights.proofs.leader_runs_stay.Goals as goal

pub returns : goal.returns
returns c =
    let moves = c.moved_choices_are_twins.ensures in
    let stay = c.views_stay.ensures.choices_stay in
    let clients = c.leaders_tell_views.ensures.clients in
    let helpers = c.leaders_tell_views.ensures.helpers in
    record {
      sights = leader_sights_stay moves stay clients helpers;
      form = leader_runs_stay moves stay clients helpers;
      back = leader_runs_return moves stay clients helpers;
      masks = leader_masks_stay moves stay clients helpers;
    }
