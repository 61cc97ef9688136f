-- The lane of what a server answers to a client's frame is one of 16 bits.
use Rattle.std.proofs.Common.{◌≡◌, ℕ, ◌-◌, ◌<◌, ◌^◌, nat_lt, nat_le, Bool, true, false, cond, List, length, Option, Some, None, Result, Ok, Err, refl, arith}
use Rattle.express_words.specs.declared.audit.ProofShare.{ProofShare}
use Rattle.std.specs.Prelude.{◌==◌}
use Rattle.dpf_rules.specs.Expansion.{token}
use Rattle.express_words.specs.declared.refusal.Refusal.{Refusal}
use Rattle.express_words.specs.declared.refusal.Refusal.TheVariants as refusal
use Rattle.frame_rules.specs.Frames as frame
use Rattle.frame_rules.specs.Frames.{PlainFrame, PlainBody}
use Rattle.frame_rules.specs.Reading.{decoded}
use Rattle.frame_rules.specs.Whole.{whole, has_width}
use Rattle.frame_rules.proofs.Digits.{IsBytes}
use Rattle.frame_rules.proofs.GrammarLaws.{decoded_takes}
use Rattle.frame_rules.proofs.WholeLaws.{whole_read}
use Rattle.lane_table.specs.Gates.{opening_gate, closing_gate}
use Rattle.lane_table.specs.declared.gate.Gate.{Gate}
use Rattle.lane_table.specs.declared.gate.Gate.TheVariants.{New, Same, Stale, Phase}
use Rattle.step_rules.specs.Boxes.{Box}
use Rattle.step_rules.specs.Leader as steps
use Rattle.step_rules.specs.Leader.{Leader, Asked, Registering, Writing, Reading, Retiring, Stage, Idle, Waiting, Challenged, Auditing, Settling, Done, Turn}
use Rattle.step_rules.specs.LeaderClients as leader
use Rattle.step_rules.specs.Helper as helper
use Rattle.step_rules.specs.HelperClients as deposits

abbrev pub Is16 : ℕ → Type 0
Is16 n = n < 2 ^ 16

-- ---- the leader

abbrev pub HasLane : steps.Answer → Type 0
HasLane (steps.Reply reply) = Is16 reply.lane
HasLane (steps.Link number command) = Unit {0}
HasLane (steps.StillWaiting number) = Unit {0}

-- what is answered names a lane of 16 bits
record IsSmall (t : Turn) : Type 0 where
  pub is : HasLane t.answer

either : (t : Bool) (x y : Turn) → IsSmall x → IsSmall y → IsSmall (cond t x y)
either true x y p q = p
either false x y p q = q

room_lane : (a : Leader) (f : PlainFrame) (issued : Turn) → Is16 f.lane → IsSmall issued → IsSmall (leader.if_room a f issued)
room_lane a f issued h g =
    let full = either (nat_le a.settings.window (length a.outstanding)) (steps.refuses a f (refusal.Again (leader.oldest a))) issued (record { is = h }) g in
    either (nat_lt (2 ^ 64 - 65) a.next) (steps.refuses a f (refusal.Again 0)) (cond (nat_le a.settings.window (length a.outstanding)) (steps.refuses a f (refusal.Again (leader.oldest a))) issued) (record { is = h }) full

issued_lane : (a : Leader) (f : PlainFrame) (asked : Asked) → IsSmall (leader.issued_for a f asked)
unfolding leader.issued_for
issued_lane a f (Registering address key) = record { is = tt }
issued_lane a f (Writing root part drawn) = record { is = tt }
issued_lane a f (Reading number) = record { is = tt }
issued_lane a f (Retiring number) = record { is = tt }

token_lane : (a : Leader) (f : PlainFrame) (number held : ℕ) (found : Option Box) (issued : Turn) → Is16 f.lane → IsSmall issued → IsSmall (leader.if_token a f number held found issued)
unfolding leader.if_token
token_lane a f number held None issued h g = record { is = h }
token_lane a f number held (Some box) issued h g = either (held == token box.key f.lane f.serial) issued (steps.refuses a f (refusal.BadToken number)) g (record { is = h })

named_lane : (a : Leader) (f : PlainFrame) (named : Option leader.Named) (issued : Turn) → Is16 f.lane → IsSmall issued → IsSmall (leader.if_named a f named issued)
unfolding leader.if_named
named_lane a f None issued h g = g
named_lane a f (Some n) issued h g = token_lane a f n.number n.held _ issued h g

admitted_lane : (a : Leader) (f : PlainFrame) (asked : Asked) (named : Option leader.Named) → Is16 f.lane → IsSmall (leader.if_named a f named (leader.if_room a f (leader.issued_for a f asked)))
admitted_lane a f asked named h = named_lane a f named _ h (room_lane a f _ h (issued_lane a f asked))

new_lane : (a : Leader) (f : PlainFrame) (asked : Asked) (named : Option leader.Named) (stage : Stage) → Is16 f.lane → IsSmall (leader.new_at a f asked named stage)
unfolding leader.new_at
new_lane a f asked named Idle h = admitted_lane a f asked named h
new_lane a f asked named (Waiting number other) h = record { is = h }
new_lane a f asked named (Challenged write kept) h = admitted_lane a f asked named h
new_lane a f asked named (Auditing number write share sigma opened) h = record { is = h }
new_lane a f asked named (Settling number write own other) h = record { is = h }
new_lane a f asked named (Done want kept) h = admitted_lane a f asked named h

again_lane : (a : Leader) (f : PlainFrame) (stage : Stage) → Is16 f.lane → IsSmall (leader.again_at a f stage)
unfolding leader.again_at
again_lane a f Idle h = record { is = h }
again_lane a f (Waiting number asked) h = record { is = tt }
again_lane a f (Challenged write kept) h = record { is = h }
again_lane a f (Auditing number write share sigma opened) h = record { is = tt }
again_lane a f (Settling number write own other) h = record { is = tt }
again_lane a f (Done want kept) h = record { is = h }

gate_lane : (a : Leader) (f : PlainFrame) (asked : Asked) (named : Option leader.Named) (gate : Gate) → Is16 f.lane → IsSmall (leader.submission_at a f asked named gate)
unfolding leader.submission_at
gate_lane a f asked named (Stale n) h = record { is = h }
gate_lane a f asked named (Phase p) h = record { is = h }
gate_lane a f asked named Same h = again_lane a f _ h
gate_lane a f asked named New h = new_lane a f asked named _ h

submission_lane : (a : Leader) (f : PlainFrame) (asked : Asked) (named : Option leader.Named) → Is16 f.lane → IsSmall (leader.on_submission a f asked named)
unfolding leader.on_submission
submission_lane a f asked named h =
    let gate = opening_gate (steps.door (steps.row_at a f.lane)) f.serial (steps.want_in asked) in
    either (nat_le a.settings.lanes f.lane) (steps.refuses a f (refusal.Lane a.settings.lanes)) (leader.submission_at a f asked named gate) (record { is = h }) (gate_lane a f asked named gate h)

proof_stage_lane : (a : Leader) (f : PlainFrame) (share : ProofShare) (stage : Stage) → Is16 f.lane → IsSmall (leader.proof_in a f share stage)
unfolding leader.proof_in
proof_stage_lane a f share Idle h = record { is = h }
proof_stage_lane a f share (Waiting number asked) h = record { is = h }
proof_stage_lane a f share (Challenged write kept) h = room_lane a f _ h (record { is = tt })
proof_stage_lane a f share (Auditing number write before sigma opened) h = record { is = tt }
proof_stage_lane a f share (Settling number write own other) h = record { is = tt }
proof_stage_lane a f share (Done want kept) h = record { is = h }

proof_gate_lane : (a : Leader) (f : PlainFrame) (share : ProofShare) (gate : Gate) → Is16 f.lane → IsSmall (leader.proof_at a f share gate)
unfolding leader.proof_at
proof_gate_lane a f share (Stale n) h = record { is = h }
proof_gate_lane a f share (Phase p) h = record { is = h }
proof_gate_lane a f share Same h = proof_stage_lane a f share _ h
proof_gate_lane a f share New h = proof_stage_lane a f share _ h

proof_lane : (a : Leader) (f : PlainFrame) (share : ProofShare) → Is16 f.lane → IsSmall (leader.on_proof a f share)
unfolding leader.on_proof
proof_lane a f share h =
    let gate = closing_gate (steps.door (steps.row_at a f.lane)) f.serial in
    either (nat_le a.settings.lanes f.lane) (steps.refuses a f (refusal.Lane a.settings.lanes)) (leader.proof_at a f share gate) (record { is = h }) (proof_gate_lane a f share gate h)

zero_lane : Is16 0
zero_lane = omega arith

kind_lane : (a : Leader) (f : PlainFrame) (body : PlainBody) → Is16 f.lane → IsSmall (leader.by_kind a f body)
unfolding leader.by_kind
kind_lane a f (frame.Register address key) h = submission_lane a f _ None h
kind_lane a f (frame.Write root part) h = either (has_width a.settings.width (frame.Write root part)) (leader.on_submission a f (Writing root part (leader.draw a)) None) (steps.refuses_bytes a (refusal.Malformed 0))
    (submission_lane a f (Writing root part (leader.draw a)) None h) (record { is = zero_lane })
kind_lane a f (frame.Read number held) h = submission_lane a f _ (Some _) h
kind_lane a f (frame.Retire number held) h = submission_lane a f _ (Some _) h
kind_lane a f (frame.Proof share) h = proof_lane a f share h
kind_lane a f (frame.Deposit held) h = record { is = zero_lane }
kind_lane a f (frame.Held proof) h = record { is = zero_lane }
kind_lane a f (frame.Challenge ckey) h = record { is = zero_lane }
kind_lane a f (frame.Registered n) h = record { is = zero_lane }
kind_lane a f frame.Accepted h = record { is = zero_lane }
kind_lane a f (frame.Message zero one) h = record { is = zero_lane }
kind_lane a f (frame.Refused r) h = record { is = zero_lane }
kind_lane a f (frame.LinkRegister address) h = record { is = zero_lane }
kind_lane a f (frame.LinkBegin ckey part) h = record { is = zero_lane }
kind_lane a f (frame.LinkAudit sigma opened) h = record { is = zero_lane }
kind_lane a f (frame.LinkSettle closing) h = record { is = zero_lane }
kind_lane a f (frame.LinkRead n) h = record { is = zero_lane }
kind_lane a f (frame.LinkReply r) h = record { is = zero_lane }
kind_lane a f (frame.LinkRetire n) h = record { is = zero_lane }
kind_lane a f (frame.LinkBegun count draw) h = record { is = zero_lane }

whole_lane : (bytes : List ℕ) (f : PlainFrame) → IsBytes bytes → whole bytes ≡ Ok f → Is16 f.lane
whole_lane bytes f all e =
    let d = decoded_takes bytes f (length bytes) all (whole_read (length bytes) (decoded bytes) f e) in
    d.spells.is_frame.lane

pub leader_lane : (a : Leader) (bytes : List ℕ) → IsBytes bytes → HasLane (leader.on_client a bytes).answer
unfolding leader.on_whole
leader_lane a bytes all = (at_whole (whole bytes) refl).is
  where
    at_whole : (r : Result PlainFrame Refusal) → whole bytes ≡ r → IsSmall (leader.on_whole a r)
    at_whole (Err r) e = record { is = zero_lane }
    at_whole (Ok f) e = kind_lane a f f.body (whole_lane bytes f all e)

-- ---- the helper

record IsReplied (t : helper.Turn) : Type 0 where
  pub is : Is16 t.reply.lane

one_of : (t : Bool) (x y : helper.Turn) → IsReplied x → IsReplied y → IsReplied (cond t x y)
one_of true x y p q = p
one_of false x y p q = q

deposit_lane : (h : helper.Server) (f : PlainFrame) (t : deposits.RowTurn) → Is16 f.lane → IsReplied (deposits.if_lane h f t)
unfolding deposits.if_lane
deposit_lane h f t small = one_of (nat_le h.settings.lanes f.lane) (helper.refuses h f (refusal.Lane h.settings.lanes)) (deposits.at_row h f t) (record { is = small }) (record { is = small })

helper_kind_lane : (h : helper.Server) (f : PlainFrame) (body : PlainBody) → Is16 f.lane → IsReplied (deposits.by_kind h f body)
unfolding deposits.by_kind
helper_kind_lane h f (frame.Deposit held) small = deposit_lane h f _ small
helper_kind_lane h f (frame.Proof share) small = deposit_lane h f _ small
helper_kind_lane h f (frame.Register address key) small = record { is = zero_lane }
helper_kind_lane h f (frame.Write root part) small = record { is = zero_lane }
helper_kind_lane h f (frame.Read number held) small = record { is = zero_lane }
helper_kind_lane h f (frame.Retire number held) small = record { is = zero_lane }
helper_kind_lane h f (frame.Held proof) small = record { is = zero_lane }
helper_kind_lane h f (frame.Challenge ckey) small = record { is = zero_lane }
helper_kind_lane h f (frame.Registered n) small = record { is = zero_lane }
helper_kind_lane h f frame.Accepted small = record { is = zero_lane }
helper_kind_lane h f (frame.Message zero one) small = record { is = zero_lane }
helper_kind_lane h f (frame.Refused r) small = record { is = zero_lane }
helper_kind_lane h f (frame.LinkRegister address) small = record { is = zero_lane }
helper_kind_lane h f (frame.LinkBegin ckey part) small = record { is = zero_lane }
helper_kind_lane h f (frame.LinkAudit sigma opened) small = record { is = zero_lane }
helper_kind_lane h f (frame.LinkSettle closing) small = record { is = zero_lane }
helper_kind_lane h f (frame.LinkRead n) small = record { is = zero_lane }
helper_kind_lane h f (frame.LinkReply r) small = record { is = zero_lane }
helper_kind_lane h f (frame.LinkRetire n) small = record { is = zero_lane }
helper_kind_lane h f (frame.LinkBegun count draw) small = record { is = zero_lane }

pub helper_lane : (h : helper.Helper) (bytes : List ℕ) → IsBytes bytes → Is16 (deposits.on_client h bytes).reply.lane
unfolding deposits.on_whole
helper_lane h bytes all = (at_whole (whole bytes) refl).is
  where
    at_whole : (r : Result PlainFrame Refusal) → whole bytes ≡ r → IsReplied (deposits.on_whole h.server r)
    at_whole (Err r) e = record { is = zero_lane }
    at_whole (Ok f) e = helper_kind_lane h.server f f.body (whole_lane bytes f all e)
