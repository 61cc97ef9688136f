use Rattle.std.proofs.Common.{◌≡◌, length}
use Rattle.std.specs.Option.{option_copied}
use Rattle.desk_texts.specs.Places.{behind_colon}
use Rattle.desk_texts.proofs.PlaceLaws.{later}
use Rattle.desk_texts.proofs.places.behind_colon.Given as goal

abbrev pub invariant-loop-rest : goal.invariant-loop-rest
invariant-loop-rest l = later (behind_colon l.rest) (option_copied l.found) ≡ behind_colon l.text

abbrev pub decreases-loop-rest : goal.decreases-loop-rest
decreases-loop-rest l = length l.rest
