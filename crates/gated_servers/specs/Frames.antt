-- Which bytes a gated server hands to its core.
use Rattle.std.specs.Prelude.{ℕ, nat_eq, Bool, true, false, not, ◌||◌, List, Result, Ok, Err}
use Rattle.express_words.specs.declared.refusal.Refusal.{Refusal}
use Rattle.frame_rules.specs.Frames as frame
use Rattle.frame_rules.specs.Frames.{PlainFrame, PlainBody}
use Rattle.lane_gate.specs.Gates.{GateState, row_at}
use Rattle.lane_gate.specs.Holders.{has_request}

-- somebody may send frames of this frame's lane and serial: the lane's owner, or who has its last lease
abbrev pub request_open : GateState → Result PlainFrame Refusal → Bool
request_open gate (Ok f) = has_request (row_at gate.rows f.lane).holder f.serial
request_open gate (Err refusal) = false

-- a frame's lane
abbrev pub lane_in : Result PlainFrame Refusal → ℕ
lane_in (Ok f) = f.lane
lane_in (Err refusal) = 0

-- bytes are one frame
abbrev pub is_frame : Result PlainFrame Refusal → Bool
is_frame (Ok f) = true
is_frame (Err refusal) = false

-- a command, but no audit at the point 1 or 2
abbrev pub is_passed : PlainBody → Bool
is_passed (frame.LinkAudit sigma opened) = not (nat_eq sigma 1 || nat_eq sigma 2)
is_passed (frame.LinkRegister address) = true
is_passed (frame.LinkBegin ckey part) = true
is_passed (frame.LinkSettle closing) = true
is_passed (frame.LinkRead box_number) = true
is_passed (frame.LinkRetire box_number) = true
is_passed body = false

abbrev pub passes_link : Result PlainFrame Refusal → Bool
passes_link (Ok f) = is_passed f.body
passes_link (Err refusal) = false
