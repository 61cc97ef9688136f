-- The write of a row that waits for its proof.
use Rattle.std.specs.Prelude.{ℕ, Option, Some, None}
use Rattle.step_rules.specs.Leader.{Row, Stage, Idle, Waiting, Challenged, Auditing, Settling, Done}
use Rattle.server_boxes.specs.Challenged.{PlainChallenged, challenged_of}

-- a write whose client was given challenges waits for its proof
abbrev pub challenged_at : ℕ → Stage → Option PlainChallenged
challenged_at serial Idle = None
challenged_at serial (Waiting number asked) = None
challenged_at serial (Challenged write kept) = Some (challenged_of serial write)
challenged_at serial (Auditing number write share sigma opened) = None
challenged_at serial (Settling number write own other) = None
challenged_at serial (Done want kept) = None

abbrev pub challenged_in : Row → Option PlainChallenged
challenged_in r = challenged_at r.serial r.stage
