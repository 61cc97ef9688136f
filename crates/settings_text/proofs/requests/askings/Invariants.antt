use Rattle.settings_text.specs.Requests.{IsAsking, asking_in}
use Rattle.settings_text.proofs.LoopLaws.{HasRead}
use Rattle.settings_text.proofs.requests.askings.Given as goal

abbrev pub invariant-loop-value : goal.invariant-loop-value
invariant-loop-value l = HasRead (asking_in l.width) (IsAsking l.width) l.requests.items l.values l.value-index
