use Rattle.std.proofs.Common.{append_assoc}
use Rattle.desk_send.specs.Labels.{unreadable_line}
use Rattle.desk_send.proofs.listing.unreadable_line.Goals as goal

pub returns : goal.returns
unfolding unreadable_line
returns c = simp append_assoc c.in_ok-line.ensures.ok
