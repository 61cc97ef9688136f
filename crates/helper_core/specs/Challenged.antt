-- The write of a row that waits for its proof.
use Rattle.std.specs.Prelude.{ℕ, Option, Some, None}
use Rattle.step_rules.specs.Helper.{Row, Stage, Idle, Deposited, Begun, Proved, Audited, Done}
use Rattle.server_boxes.specs.Challenged.{PlainChallenged, challenged_of}

-- a write that has begun waits for its proof
abbrev pub challenged_at : ℕ → Stage → Option PlainChallenged
challenged_at serial Idle = None
challenged_at serial (Deposited held) = None
challenged_at serial (Begun write) = Some (challenged_of serial write)
challenged_at serial (Proved write share) = None
challenged_at serial (Audited write closing) = None
challenged_at serial (Done want) = None

abbrev pub challenged_in : Row → Option PlainChallenged
challenged_in r = challenged_at r.serial r.stage
