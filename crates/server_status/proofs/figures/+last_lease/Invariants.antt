use Rattle.std.proofs.Common.{length}
use Rattle.server_status.proofs.figures.+last_lease.Given as goal

abbrev pub decreases-last_lease : goal.decreases-last_lease
decreases-last_lease l = length l.rows.now
