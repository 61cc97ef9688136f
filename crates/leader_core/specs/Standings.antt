-- How a lane stands.
use Rattle.std.specs.Prelude.{ℕ}
use Rattle.frame_rules.specs.Frames as frame
use Rattle.frame_rules.specs.Frames.{PlainBody}
use Rattle.lane_table.specs.declared.row.Want.{Want}
use Rattle.lane_table.specs.declared.row.Want.TheVariants.{Nothing, Register, Write as Writes, Read}
use Rattle.step_rules.specs.Leader.{Row, Stage, Idle, Waiting, Challenged, Auditing, Settling, Done}
use Rattle.leader_core.specs.declared.standing.Standing.{Standing}
use Rattle.leader_core.specs.declared.standing.Standing.TheVariants.{Busy, Written, Other}

-- a write that is over was accepted, or it wasn't
abbrev pub ended_as : ℕ → PlainBody → Standing
ended_as serial frame.Accepted = Written serial
ended_as serial body = Other

abbrev pub done_as : ℕ → Want → PlainBody → Standing
done_as serial Writes kept = ended_as serial kept
done_as serial Nothing kept = Other
done_as serial Register kept = Other
done_as serial Read kept = Other

abbrev pub standing_at : ℕ → Stage → Standing
standing_at serial Idle = Other
standing_at serial (Waiting number asked) = Busy
standing_at serial (Challenged write kept) = Other
standing_at serial (Auditing number write share sigma opened) = Busy
standing_at serial (Settling number write own other) = Busy
standing_at serial (Done want kept) = done_as serial want kept

abbrev pub standing_in : Row → Standing
standing_in r = standing_at r.serial r.stage
