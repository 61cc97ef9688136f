use Rattle.std.proofs.Common.{zero, suc, arith}
use Rattle.write_hiding.specs.Laws.{WritesAreChoices, WritesAreSeen}
use Rattle.write_hiding.proofs.HonestLemmas.{form0, view0, form1, view1}
use Rattle.write_hiding.proofs.OtherLeaves.{ends_are_leaves, keys_are_honest, leaves_are_honest}
use Rattle.write_hiding.proofs.laws.writes_are_choices.Goals as goal

writes_are_choices : WritesAreChoices
writes_are_choices width zero d aim game h is_drawn places aimed = form0 width d aim game is_drawn places aimed
writes_are_choices width (suc zero) d aim game h is_drawn places aimed = form1 width d aim game is_drawn places aimed
writes_are_choices width (suc (suc n)) d aim game h is_drawn places aimed = absurd (omega arith)

writes_are_seen : WritesAreSeen
writes_are_seen width zero d aim game h is_drawn places aimed = view0 width d aim game is_drawn places aimed
writes_are_seen width (suc zero) d aim game h is_drawn places aimed = view1 width d aim game is_drawn places aimed
writes_are_seen width (suc (suc n)) d aim game h is_drawn places aimed = absurd (omega arith)

pub returns : goal.returns
returns c = record { choice = writes_are_choices; seen = writes_are_seen; keys = keys_are_honest; end = ends_are_leaves; leaf = leaves_are_honest }
