use Rattle.std.proofs.Common.{rules, arith}
use Rattle.lane_table.proofs.GateLaws.{opens-stale, opens-new, opens-same, opens-other}
use Rattle.lane_table.proofs.gate.opening.Goals as goal

pub returns-then-serial-row : goal.returns-then-serial-row
returns-then-serial-row c = opens-stale c.args.row.now c.args.serial c.args.want (omega arith)

pub returns-then-serial-row-2 : goal.returns-then-serial-row-2
returns-then-serial-row-2 c = opens-new c.args.row.now c.args.serial c.args.want (omega arith)

pub returns-then-eq : goal.returns-then-eq
returns-then-eq c = opens-same c.args.row.now c.args.serial c.args.want (omega arith) (search rules)

pub returns-else-eq : goal.returns-else-eq
returns-else-eq c = opens-other c.args.row.now c.args.serial c.args.want (omega arith) (search rules)
