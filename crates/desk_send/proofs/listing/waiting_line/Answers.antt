use Rattle.std.proofs.Common.{append_assoc}
use Rattle.desk_send.specs.Labels.{waiting_line}
use Rattle.desk_send.proofs.listing.waiting_line.Goals as goal

pub returns : goal.returns
unfolding waiting_line
returns c = simp append_assoc c.in_ok-line.ensures.ok
