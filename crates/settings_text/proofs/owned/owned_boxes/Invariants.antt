use Rattle.settings_text.specs.Owned.{IsOwned, owned_box_in}
use Rattle.settings_text.proofs.LoopLaws.{HasRead}
use Rattle.settings_text.proofs.owned.owned_boxes.Given as goal

abbrev pub invariant-loop-value : goal.invariant-loop-value
invariant-loop-value l = HasRead owned_box_in IsOwned l.owned.items l.values l.value-index
