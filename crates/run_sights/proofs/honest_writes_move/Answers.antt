use Rattle.run_sights.proofs.Writes.{writes_tell_the_same, writes_return}
use Rattle.run_sights.proofs.honest_writes_move.Goals as goal

pub returns : goal.returns
returns c = record {
  frames = writes_tell_the_same c.views_stay.ensures.views_stay;
  back = writes_return c.views_stay.ensures.choices_stay c.views_stay.ensures.moves_return;
}
