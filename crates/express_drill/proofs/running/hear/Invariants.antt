use Rattle.std.proofs.Common.{◌-◌, length}
use Rattle.express_drill.proofs.running.hear.Given as goal

abbrev pub decreases-hearing : goal.decreases-hearing
decreases-hearing g l = l.enough - length l.heard.items
