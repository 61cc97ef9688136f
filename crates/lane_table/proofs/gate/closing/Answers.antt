use Rattle.std.proofs.Common.{rules, arith}
use Rattle.lane_table.proofs.GateLaws.{closes-stale, closes-same, closes-other}
use Rattle.lane_table.proofs.gate.closing.Goals as goal

pub returns-then-serial-row : goal.returns-then-serial-row
returns-then-serial-row c = closes-stale c.args.row.now c.args.serial (λ same. omega arith)

pub returns-then-ne : goal.returns-then-ne
returns-then-ne c = closes-other c.args.row.now c.args.serial (omega arith) (search rules)

pub returns-else-ne : goal.returns-else-ne
returns-else-ne c = closes-same c.args.row.now c.args.serial (omega arith) (search rules)
