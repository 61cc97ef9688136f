-- The leader's steps at frames of clients. In each function the first line that applies is taken.
use Rattle.std.specs.Prelude.{ℕ, ◌+◌, ◌-◌, ◌^◌, nat_lt, nat_le, ◌==◌, if◌then◌else◌, List, [], ◌∷◌, ◌++◌}
use Rattle.std.specs.Prelude.{length, take, Option, Some, None, Result, Ok, Err, slice_get}
use Rattle.express_words.specs.declared.audit.ProofShare.{ProofShare}
use Rattle.express_words.specs.declared.refusal.Refusal.{Refusal}
use Rattle.express_words.specs.declared.refusal.Refusal.TheVariants as refusal
use Rattle.frame_rules.specs.Frames as frame
use Rattle.frame_rules.specs.Frames.{PlainFrame, PlainBody}
use Rattle.dpf_rules.specs.Expansion.{draw32, token}
use Rattle.lane_table.specs.Gates.{opening_gate, closing_gate}
use Rattle.lane_table.specs.declared.gate.Gate.{Gate}
use Rattle.lane_table.specs.declared.gate.Gate.TheVariants.{New, Same, Stale, Phase}
use Rattle.step_rules.specs.Boxes.{Box, addresses_of}
use Rattle.audit_rules.specs.Values.{Write, opens, sigma_of}
use Rattle.frame_rules.specs.Whole.{whole, has_width, on_link}
use Rattle.step_rules.specs.Leader.{Leader, Asked, Registering, Writing, Reading, Retiring, Stage, Idle}
use Rattle.step_rules.specs.Leader.{Waiting, Challenged, Auditing, Settling, Done, row, row_at, with_row}
use Rattle.step_rules.specs.Leader.{door, want_in, StillWaiting, Link, Turn, turn, says, refuses}
use Rattle.step_rules.specs.Leader.{refuses_bytes}

-- the leader's next draw
abbrev pub draw : Leader → List ℕ
draw a = draw32 a.seed a.draws

-- ---- issuing a command: the link's numbers aren't used up, and the window isn't full

-- the next command, with the row that waits for it
abbrev pub issues : Leader → PlainFrame → PlainBody → Stage → Turn
issues a f body stage =
    let command = on_link f a.next body in
    turn
    (record (with_row a f.lane (row f.serial stage)) {
      outstanding = a.outstanding ++ command ∷ [];
      next = a.next + 1;
    })
    (Link a.next command)

abbrev pub issues_drawn : Leader → PlainFrame → PlainBody → Stage → Turn
issues_drawn a f body stage = issues (record a { draws = a.draws + 1 }) f body stage

-- the number of the oldest outstanding command
abbrev pub oldest : Leader → ℕ
oldest a = a.next - length a.outstanding

abbrev pub if_room : Leader → PlainFrame → Turn → Turn
if_room a f issued =
    if nat_lt (2 ^ 64 - 65) a.next then refuses a f (refusal.Again 0) else
    if nat_le a.settings.window (length a.outstanding) then refuses a f (refusal.Again (oldest a)) else
    issued

-- ---- Register, Write, Read and Retire

-- what a submission is issued as
unfoldable pub issued_for : Leader → PlainFrame → Asked → Turn
issued_for a f (Registering address key) =
    issues a f (frame.LinkRegister address) (Waiting a.next (Registering address key))
issued_for a f (Writing root part drawn) =
    issues_drawn a f (frame.LinkBegin drawn part) (Waiting a.next (Writing root part drawn))
issued_for a f (Reading number) = issues a f (frame.LinkRead number) (Waiting a.next (Reading number))
issued_for a f (Retiring number) = issues a f (frame.LinkRetire number) (Waiting a.next (Retiring number))

-- a read or retire names a box that is there, by its token
unfoldable pub if_token : Leader → PlainFrame → ℕ → ℕ → Option Box → Turn → Turn
if_token a f number held None issued = refuses a f (refusal.NoBox number)
if_token a f number held (Some box) issued =
    if held == token box.key f.lane f.serial then issued else refuses a f (refusal.BadToken number)

-- the box and the token that a submission names
pub record Named : Type 0 where
  pub number : ℕ
  pub held : ℕ

unfoldable pub if_named : Leader → PlainFrame → Option Named → Turn → Turn
if_named a f None issued = issued
if_named a f (Some n) issued = if_token a f n.number n.held (slice_get a.boxes n.number) issued

-- a new request, at a row of this stage
unfoldable pub new_at : Leader → PlainFrame → Asked → Option Named → Stage → Turn
new_at a f asked named (Waiting number other) = refuses a f (refusal.Phase 6)
new_at a f asked named (Auditing number write share sigma opened) = refuses a f (refusal.Phase 8)
new_at a f asked named (Settling number write own other) = refuses a f (refusal.Phase 8)
new_at a f asked named stage = if_named a f named (if_room a f (issued_for a f asked))

-- the row's request again: its command is outstanding, or its kept reply is given
unfoldable pub again_at : Leader → PlainFrame → Stage → Turn
again_at a f Idle = refuses a f (refusal.Phase 0)
again_at a f (Waiting number asked) = turn a (StillWaiting number)
again_at a f (Auditing number write share sigma opened) = turn a (StillWaiting number)
again_at a f (Settling number write own other) = turn a (StillWaiting number)
again_at a f (Challenged write kept) = says a f kept
again_at a f (Done want kept) = says a f kept

unfoldable pub submission_at : Leader → PlainFrame → Asked → Option Named → Gate → Turn
submission_at a f asked named (Stale n) = refuses a f (refusal.Stale n)
submission_at a f asked named (Phase p) = refuses a f (refusal.Phase p)
submission_at a f asked named Same = again_at a f (row_at a f.lane).stage
submission_at a f asked named New = new_at a f asked named (row_at a f.lane).stage

unfoldable pub on_submission : Leader → PlainFrame → Asked → Option Named → Turn
on_submission a f asked named =
    if nat_le a.settings.lanes f.lane then refuses a f (refusal.Lane a.settings.lanes) else
    submission_at a f asked named (opening_gate (door (row_at a f.lane)) f.serial (want_in asked))

-- ---- Proof

abbrev pub sigma : Leader → ℕ
sigma a = sigma_of (draw a)

abbrev pub counted : Leader → Write → List ℕ
counted a w = take w.count (addresses_of a.boxes)

abbrev pub audits : Leader → PlainFrame → Write → ProofShare → Turn
audits a f w share =
    let opened = opens 0 w (counted a w) share (sigma a) in
    issues_drawn a f (frame.LinkAudit (sigma a) opened) (Auditing a.next w share (sigma a) opened)

unfoldable pub proof_in : Leader → PlainFrame → ProofShare → Stage → Turn
proof_in a f share Idle = refuses a f (refusal.Phase 0)
proof_in a f share (Waiting number asked) = refuses a f (refusal.Phase 6)
proof_in a f share (Auditing number write before sigma opened) = turn a (StillWaiting number)
proof_in a f share (Settling number write own other) = turn a (StillWaiting number)
proof_in a f share (Done want kept) = says a f kept
proof_in a f share (Challenged write kept) = if_room a f (audits a f write share)

unfoldable pub proof_at : Leader → PlainFrame → ProofShare → Gate → Turn
proof_at a f share (Stale n) = refuses a f (refusal.Stale n)
proof_at a f share (Phase p) = refuses a f (refusal.Phase p)
proof_at a f share Same = proof_in a f share (row_at a f.lane).stage
proof_at a f share New = proof_in a f share (row_at a f.lane).stage

unfoldable pub on_proof : Leader → PlainFrame → ProofShare → Turn
on_proof a f share =
    if nat_le a.settings.lanes f.lane then refuses a f (refusal.Lane a.settings.lanes) else
    proof_at a f share (closing_gate (door (row_at a f.lane)) f.serial)

-- ---- any frame

unfoldable pub by_kind : Leader → PlainFrame → PlainBody → Turn
by_kind a f (frame.Register address key) = on_submission a f (Registering address key) None
by_kind a f (frame.Write root part) =
    if has_width a.settings.width (frame.Write root part)
    then on_submission a f (Writing root part (draw a)) None
    else refuses_bytes a (refusal.Malformed 0)
by_kind a f (frame.Read number held) =
    on_submission a f (Reading number) (Some (record { number = number; held = held }))
by_kind a f (frame.Retire number held) =
    on_submission a f (Retiring number) (Some (record { number = number; held = held }))
by_kind a f (frame.Proof share) = on_proof a f share
by_kind a f body = refuses_bytes a (refusal.Malformed 5)

unfoldable pub on_whole : Leader → Result PlainFrame Refusal → Turn
on_whole a (Err r) = refuses_bytes a r
on_whole a (Ok f) = by_kind a f f.body

abbrev pub on_client : Leader → List ℕ → Turn
on_client a bytes = on_whole a (whole bytes)
