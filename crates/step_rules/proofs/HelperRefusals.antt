-- What a refusal of the helper leaves.
use Rattle.std.specs.Prelude.{◌≡◌, ℕ, ◌+◌, Bool, true, false, cond, nat_le, nat_eq, refl, List, length, Option, Some, None, Result, Ok, Err, slice_get}
use Rattle.std.proofs.Common.{ap, ◌∙◌}
use Rattle.std.proofs.lemmas.List.{set-get_or, get_or-set_other}
use Rattle.express_words.specs.declared.audit.ProofShare.{ProofShare}
use Rattle.express_words.specs.declared.audit.Openings.{Openings}
use Rattle.express_words.specs.declared.audit.Closing.{Closing}
use Rattle.express_words.specs.declared.refusal.Refusal.{Refusal}
use Rattle.express_words.specs.declared.refusal.Refusal.TheVariants as refusal
use Rattle.frame_rules.specs.declared.frame.DepositBody.{DepositBody}
use Rattle.frame_rules.specs.Frames as frame
use Rattle.frame_rules.specs.Frames.{PlainFrame, PlainBody}
use Rattle.frame_rules.specs.Whole.{whole, linked, is_command}
use Rattle.lane_table.specs.Gates.{opening_gate, closing_gate}
use Rattle.lane_table.specs.declared.row.Want.{Want}
use Rattle.lane_table.specs.declared.row.Want.TheVariants.{Register, Write as Writes, Read}
use Rattle.lane_table.specs.declared.gate.Gate.{Gate}
use Rattle.lane_table.specs.declared.gate.Gate.TheVariants.{New, Same, Stale, Phase}
use Rattle.dpf_rules.specs.Expansion.{token}
use Rattle.audit_rules.specs.Audit.{accepts}
use Rattle.audit_rules.specs.Values.{Write}
use Rattle.step_rules.specs.Boxes.{Box, place_of}
use Rattle.step_rules.specs.Helper.{Server, Helper, Row, Stage, Idle, Deposited, Begun, Proved, Audited, Done, idle, row_at, with_row, door, want_in, Turn, Repeated, Ignored, LinkTurn, refuses}
use Rattle.step_rules.specs.HelperClients.{RowTurn, deposit_at, deposit_row, proof_in, proof_at, proof_row, if_lane, at_row, by_kind, on_whole}
use Rattle.step_rules.specs.HelperCommands.{Effect, done, stage_for, held_key, held_root, held_proof, held_closing, held_token, register_at, register, begin, audit, settle, read_live, read_at, read, command, carries_out, carried_with, arrives, if_command, kept_for}
use Rattle.step_rules.specs.Refusals.{IsRefusal, HelperButLane, AnswerLeaves, HelperRefusesClients, HelperRefusesCommands}

-- ---- frames of clients: a row that refuses stays

deposit_stays : (r : Row) (serial : ℕ) (held : DepositBody) (gate : Gate) → IsRefusal (deposit_at r serial held gate).body → (deposit_at r serial held gate).row ≡ r
unfolding deposit_at
deposit_stays r serial held (Stale n) said_no = refl
deposit_stays r serial held (Phase p) said_no = refl
deposit_stays r serial held Same said_no = refl
deposit_stays r serial held New said_no = absurd said_no

proof_stays : (r : Row) (share : ProofShare) (stage : Stage) → IsRefusal (proof_in r share stage).body → (proof_in r share stage).row ≡ r
unfolding proof_in
proof_stays r share Idle said_no = refl
proof_stays r share (Deposited held) said_no = refl
proof_stays r share (Begun write) said_no = absurd said_no
proof_stays r share (Proved write before) said_no = refl
proof_stays r share (Audited write own) said_no = refl
proof_stays r share (Done want) said_no = refl

gated_stays : (r : Row) (share : ProofShare) (gate : Gate) → IsRefusal (proof_at r share gate).body → (proof_at r share gate).row ≡ r
unfolding proof_at
gated_stays r share (Stale n) said_no = refl
gated_stays r share (Phase p) said_no = refl
gated_stays r share Same said_no = proof_stays r share r.stage said_no
gated_stays r share New said_no = proof_stays r share r.stage said_no

-- the same row again is the same server
same_row : (h : Server) (lane : ℕ) (r : Row) → r ≡ row_at h lane → with_row h lane r ≡ h
same_row h lane r e = ap (with_row h lane) e ∙ ap (λ rows. record h { rows = rows }) (set-get_or h.rows lane idle)

lane_stays : (h : Server) (f : PlainFrame) (t : RowTurn) → (IsRefusal t.body → t.row ≡ row_at h f.lane) → IsRefusal (if_lane h f t).reply.body → (if_lane h f t).server ≡ h
unfolding if_lane
lane_stays h f t stays said_no = either (nat_le h.settings.lanes f.lane) said_no
  where
    gone : Bool → Turn
    gone outside = cond outside (refuses h f (refusal.Lane h.settings.lanes)) (at_row h f t)

    either : (outside : Bool) → IsRefusal (gone outside).reply.body → (gone outside).server ≡ h
    either true said_no = refl
    either false said_no = same_row h f.lane t.row (stays said_no)

kind_stays : (h : Server) (f : PlainFrame) (body : PlainBody) → IsRefusal (by_kind h f body).reply.body → (by_kind h f body).server ≡ h
unfolding by_kind deposit_row proof_row
kind_stays h f (frame.Deposit held) said_no =
    let r = row_at h f.lane in lane_stays h f (deposit_row r f.serial held) (deposit_stays r f.serial held (opening_gate (door r) f.serial (want_in held))) said_no
kind_stays h f (frame.Proof share) said_no =
    let r = row_at h f.lane in lane_stays h f (proof_row r f.serial share) (gated_stays r share (closing_gate (door r) f.serial)) said_no
kind_stays h f body said_no = refl

whole_stays : (h : Server) (found : Result PlainFrame Refusal) → IsRefusal (on_whole h found).reply.body → (on_whole h found).server ≡ h
unfolding on_whole
whole_stays h (Err why) said_no = refl
whole_stays h (Ok f) said_no = kind_stays h f f.body said_no

pub clients : HelperRefusesClients
clients h bytes said_no = ap (λ server. record h { server = server }) (whole_stays h.server (whole bytes) said_no)

-- ---- commands

done_leaves : (h : Server) (f : PlainFrame) (want : Want) → HelperButLane f.lane h (done h f want)
done_leaves h f want =
    record { settings = refl; boxes = refl; lanes = λ other ne. get_or-set_other h.rows f.lane other _ idle ne; draws = refl }

all_left : (h : Server) (lane : ℕ) → HelperButLane lane h h
all_left h lane = record { settings = refl; boxes = refl; lanes = λ other ne. refl; draws = refl }

-- an effect leaves what it should where it refuses
abbrev Leaves : Server → PlainFrame → Effect → Type 0
Leaves h f e = IsRefusal e.body → HelperButLane f.lane h e.server

either_leaves : (h : Server) (f : PlainFrame) (b : Bool) (x y : Effect) → Leaves h f x → Leaves h f y → Leaves h f (cond b x y)
either_leaves h f true x y p q = p
either_leaves h f false x y p q = q

registers : (h : Server) (f : PlainFrame) (address : ℕ) (key : List ℕ) (found : Option ℕ) → Leaves h f (register_at h f address key found)
unfolding register_at
registers h f address key (Some n) = λ said_no. done_leaves h f Register
registers h f address key None =
    either_leaves h f (nat_le h.settings.boxes (length h.boxes)) _ _ (λ said_no. done_leaves h f Register) (λ said_no. absurd said_no)

held_registers : (h : Server) (f : PlainFrame) (address : ℕ) (held : Option (List ℕ)) → Leaves h f (register h f address held)
unfolding register
held_registers h f address (Some key) = registers h f address key (place_of address h.boxes)
held_registers h f address None = λ said_no. all_left h f.lane

begins : (h : Server) (f : PlainFrame) (leaders part : List ℕ) (held : Option ℕ) → Leaves h f (begin h f leaders part held)
unfolding begin
begins h f leaders part (Some root) = λ said_no. absurd said_no
begins h f leaders part None = λ said_no. all_left h f.lane

audits : (h : Server) (f : PlainFrame) (sigma : ℕ) (other : Openings) (held : Option (Option (Write × ProofShare))) → Leaves h f (audit h f sigma other held)
unfolding audit
audits h f sigma other (Some None) = λ said_no. done_leaves h f Writes
audits h f sigma other (Some (Some p)) = λ said_no. absurd said_no
audits h f sigma other None = λ said_no. all_left h f.lane

settles : (h : Server) (f : PlainFrame) (leaders : Closing) (held : Option (Write × Closing)) → Leaves h f (settle h f leaders held)
unfolding settle
settles h f leaders (Some a) = either_leaves h f (accepts leaders a.1) _ _ (λ said_no. absurd said_no) (λ said_no. done_leaves h f Writes)
settles h f leaders None = λ said_no. all_left h f.lane

reads_live : (h : Server) (f : PlainFrame) (stays : Bool) (number held : ℕ) (box : Box) → Leaves h f (read_live h f stays number held box)
unfolding read_live
reads_live h f stays number held box =
    either_leaves h f (nat_eq held (token box.key f.lane f.serial)) _ _ (λ said_no. absurd said_no) (λ said_no. done_leaves h f Read)

reads_at : (h : Server) (f : PlainFrame) (stays : Bool) (number held : ℕ) (found : Option Box) → Leaves h f (read_at h f stays number held found)
unfolding read_at
reads_at h f stays number held None = λ said_no. done_leaves h f Read
reads_at h f stays number held (Some box) = either_leaves h f box.live _ _ (reads_live h f stays number held box) (λ said_no. done_leaves h f Read)

reads : (h : Server) (f : PlainFrame) (stays : Bool) (number : ℕ) (held : Option ℕ) → Leaves h f (read h f stays number held)
unfolding read
reads h f stays number (Some held) = reads_at h f stays number held (slice_get h.boxes number)
reads h f stays number None = λ said_no. all_left h f.lane

commanded : (h : Server) (f : PlainFrame) (body : PlainBody) (stage : Stage) → Leaves h f (command h f body stage)
unfolding command
commanded h f (frame.LinkRegister address) stage = held_registers h f address (held_key stage)
commanded h f (frame.LinkBegin leaders part) stage = begins h f leaders part (held_root stage)
commanded h f (frame.LinkAudit sigma opened) stage = audits h f sigma opened (held_proof stage)
commanded h f (frame.LinkSettle leaders) stage = settles h f leaders (held_closing stage)
commanded h f (frame.LinkRead number) stage = reads h f true number (held_token stage)
commanded h f (frame.LinkRetire number) stage = reads h f false number (held_token stage)
commanded h f body stage = λ said_no. all_left h f.lane

carried_out : (h : Server) (f : PlainFrame) → Leaves h f (carries_out h f)
unfolding carries_out
carried_out h f =
    either_leaves h f (nat_le h.settings.lanes f.lane) _ _ (λ said_no. all_left h f.lane) (commanded h f f.body (stage_for (row_at h f.lane) f.serial))

-- ---- the link: a command is carried out, or nothing changes

arrived : Helper → PlainFrame → Bool → Bool → Bool → LinkTurn
arrived h f next before kept =
    cond next (carried_with h f (carries_out h.server f)) (cond before (cond kept (record { helper = h; answer = Repeated (kept_for h f.link) }) (record { helper = h; answer = Ignored })) (record { helper = h; answer = Ignored }))

arrived_leaves : (h : Helper) (f : PlainFrame) (next before kept : Bool) → AnswerLeaves (arrived h f next before kept).answer h (arrived h f next before kept).helper
unfolding arrived
arrived_leaves h f true before kept = carried_out h.server f
arrived_leaves h f false true true = refl
arrived_leaves h f false true false = refl
arrived_leaves h f false false kept = refl

found_leaves : (h : Helper) (found : Option PlainFrame) → AnswerLeaves (if_command h found).answer h (if_command h found).helper
unfolding if_command arrives arrived
found_leaves h (Some f) =
    arrived_leaves h f (nat_eq f.link (h.carried + 1)) (nat_le f.link h.carried) (nat_le (h.carried + 1) (f.link + length h.replies))
found_leaves h None = refl

pub commands : HelperRefusesCommands
commands h bytes = found_leaves h (linked is_command h.server.settings.width bytes)
