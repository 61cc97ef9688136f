use Rattle.std.proofs.Common.{append_assoc}
use Rattle.desk_run.specs.Standings.{letters_line}
use Rattle.desk_run.proofs.standing.letters_text.Goals as goal

pub returns : goal.returns
unfolding letters_line
returns c = simp append_assoc c.in_ok-text.ensures.ok
