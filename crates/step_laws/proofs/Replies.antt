-- A leader's answers are those of the frame or the command that they answer.
use Rattle.std.specs.Prelude.{◌≡◌, ℕ, ◌^◌, ◌-◌, ◌&&◌, Bool, true, false, cond, nat_le, nat_lt, nat_eq, not, is_none, refl, List, length, Option, Some, None, Result, Ok, Err, slice_get}
use Rattle.std.proofs.Common.{subst, sym}
use Rattle.express_words.specs.declared.audit.ProofShare.{ProofShare}
use Rattle.express_words.specs.declared.audit.Openings.{Openings}
use Rattle.express_words.specs.declared.audit.Closing.{Closing}
use Rattle.express_words.specs.declared.refusal.Refusal.{Refusal}
use Rattle.frame_rules.specs.Frames as frame
use Rattle.frame_rules.specs.Frames.{PlainFrame, PlainBody}
use Rattle.frame_rules.specs.Whole.{whole, linked, is_reply, has_width}
use Rattle.lane_table.specs.Gates.{opening_gate, closing_gate}
use Rattle.lane_table.specs.declared.gate.Gate.{Gate}
use Rattle.lane_table.specs.declared.gate.Gate.TheVariants.{New, Same, Stale, Phase}
use Rattle.dpf_rules.specs.Expansion.{token}
use Rattle.audit_rules.specs.Audit.{accepts}
use Rattle.step_rules.specs.Boxes.{Box, place_of}
use Rattle.step_rules.specs.Leader.{Leader, Ack, Asked, Registering, Writing, Reading, Retiring, Stage, Idle, Waiting, Challenged, Auditing, Settling, Done, ToLane, Settles, Ignored, row_at, door, want_in, Turn, AckTurn}
use Rattle.step_rules.specs.LeaderClients.{Named, draw, if_room, issued_for, if_token, if_named, new_at, again_at, submission_at, on_submission, audits, proof_in, proof_at, on_proof, by_kind, on_whole}
use Rattle.step_rules.specs.LeaderReplies.{registered, began, audited, accepted, rejected, read, by_command, registered_in, if_registered, if_begun, if_audited, if_settled, if_read, fits, refusal_in, if_fits, answers, if_reply}
use Rattle.step_laws.specs.Replies.{AckIsOwn, AcksAreOwn, IsIssuedFor, IsSettledFor, IsToldFor, TurnIsOwn, TurnsAreOwn}

-- ---- frames of clients

module _ (bytes : List ℕ) (f : PlainFrame) (is : whole bytes ≡ Ok f) (a : Leader) where
  abbrev Own : Turn → Type 0
  Own t = TurnIsOwn t.answer bytes a t.leader

  own_either : (b : Bool) (x y : Turn) → Own x → Own y → Own (cond b x y)
  own_either true x y p q = p
  own_either false x y p q = q

  roomed : (issued : Turn) → Own issued → Own (if_room a f issued)
  roomed issued own =
      own_either (nat_lt (2 ^ 64 - 65) a.next) _ _ refl
      (own_either (nat_le a.settings.window (length a.outstanding)) _ _ refl own)

  issued : (asked : Asked) → Own (issued_for a f asked)
  unfolding issued_for
  issued (Registering address key) = record { frame = f; read = is; lane = refl; serial = refl; outstanding = refl }
  issued (Writing root part drawn) = record { frame = f; read = is; lane = refl; serial = refl; outstanding = refl }
  issued (Reading number) = record { frame = f; read = is; lane = refl; serial = refl; outstanding = refl }
  issued (Retiring number) = record { frame = f; read = is; lane = refl; serial = refl; outstanding = refl }

  tokened : (number held : ℕ) (found : Option Box) (t : Turn) → Own t → Own (if_token a f number held found t)
  unfolding if_token
  tokened number held None t own = refl
  tokened number held (Some box) t own = own_either (nat_eq held (token box.key f.lane f.serial)) _ _ own refl

  named_own : (named : Option Named) (t : Turn) → Own t → Own (if_named a f named t)
  unfolding if_named
  named_own None t own = own
  named_own (Some n) t own = tokened n.number n.held (slice_get a.boxes n.number) t own

  new_own : (asked : Asked) (named : Option Named) (stage : Stage) → Own (new_at a f asked named stage)
  unfolding new_at
  new_own asked named (Waiting number other) = refl
  new_own asked named (Auditing number w share sigma opened) = refl
  new_own asked named (Settling number w own other) = refl
  new_own asked named Idle = named_own named _ (roomed _ (issued asked))
  new_own asked named (Challenged w kept) = named_own named _ (roomed _ (issued asked))
  new_own asked named (Done want kept) = named_own named _ (roomed _ (issued asked))

  again_own : (stage : Stage) → Own (again_at a f stage)
  unfolding again_at
  again_own Idle = refl
  again_own (Waiting number asked) = refl
  again_own (Auditing number w share sigma opened) = refl
  again_own (Settling number w own other) = refl
  again_own (Challenged w kept) = refl
  again_own (Done want kept) = refl

  gated_own : (asked : Asked) (named : Option Named) (gate : Gate) → Own (submission_at a f asked named gate)
  unfolding submission_at
  gated_own asked named (Stale n) = refl
  gated_own asked named (Phase p) = refl
  gated_own asked named Same = again_own (row_at a f.lane).stage
  gated_own asked named New = new_own asked named (row_at a f.lane).stage

  submitted : (asked : Asked) (named : Option Named) → Own (on_submission a f asked named)
  unfolding on_submission
  submitted asked named =
      own_either (nat_le a.settings.lanes f.lane) _ _ refl
      (gated_own asked named (opening_gate (door (row_at a f.lane)) f.serial (want_in asked)))

  proof_own : (share : ProofShare) (stage : Stage) → Own (proof_in a f share stage)
  unfolding proof_in
  proof_own share Idle = refl
  proof_own share (Waiting number asked) = refl
  proof_own share (Auditing number w before sigma opened) = refl
  proof_own share (Settling number w own other) = refl
  proof_own share (Done want kept) = refl
  proof_own share (Challenged w kept) =
      roomed (audits a f w share) (record { frame = f; read = is; lane = refl; serial = refl; outstanding = refl })

  proof_gated : (share : ProofShare) (gate : Gate) → Own (proof_at a f share gate)
  unfolding proof_at
  proof_gated share (Stale n) = refl
  proof_gated share (Phase p) = refl
  proof_gated share Same = proof_own share (row_at a f.lane).stage
  proof_gated share New = proof_own share (row_at a f.lane).stage

  proved : (share : ProofShare) → Own (on_proof a f share)
  unfolding on_proof
  proved share =
      own_either (nat_le a.settings.lanes f.lane) _ _ refl (proof_gated share (closing_gate (door (row_at a f.lane)) f.serial))

  kinds : (body : PlainBody) → Own (by_kind a f body)
  unfolding by_kind
  kinds (frame.Register address key) = submitted (Registering address key) None
  kinds (frame.Write root part) =
      own_either (has_width a.settings.width (frame.Write root part)) _ _ (submitted (Writing root part (draw a)) None) refl
  kinds (frame.Read number held) = submitted (Reading number) (Some (record { number = number; held = held }))
  kinds (frame.Retire number held) = submitted (Retiring number) (Some (record { number = number; held = held }))
  kinds (frame.Proof share) = proved share
  kinds body = refl

wholes : (bytes : List ℕ) (a : Leader) (found : Result PlainFrame Refusal) → whole bytes ≡ found → TurnIsOwn (on_whole a found).answer bytes a (on_whole a found).leader
unfolding on_whole
wholes bytes a (Err why) is = refl
wholes bytes a (Ok f) is = kinds bytes f is a f.body

pub turns_are_own : TurnsAreOwn
turns_are_own a bytes = wholes bytes a (whole bytes) refl

-- ---- replies of the helper

-- what an applied reply comes to is its command's
abbrev AckOf : PlainFrame → Leader → Ack → Leader → Type 0
AckOf c a (ToLane lane reply) after = IsToldFor c lane reply a after
AckOf c a (Settles number command) after = IsSettledFor c command a after
AckOf c a Ignored after = after ≡ a

abbrev Fits : PlainFrame → Leader → Option AckTurn → Type 0
Fits c a (Some t) = AckOf c a t.ack t.leader
Fits c a None = Unit {0}

module _ (a : Leader) (c : PlainFrame) where
  fits_either : (b : Bool) (x y : Option AckTurn) → Fits c a x → Fits c a y → Fits c a (cond b x y)
  fits_either true x y p q = p
  fits_either false x y p q = q

  registers : (address : ℕ) (stage : Stage) (n : Option ℕ) → Fits c a (if_registered a c address stage n)
  unfolding registered
  registers address (Waiting number (Registering own key)) (Some n) =
      fits_either ((nat_eq n (length a.boxes)) && (is_none (place_of address a.boxes) && not (nat_le a.settings.boxes (length a.boxes)))) _ _
      (record { lane = refl; is = refl; outstanding = refl }) tt
  registers address stage (Some n) = tt
  registers address stage None = tt

  begins : (stage : Stage) (count : ℕ) (drawn : List ℕ) → Fits c a (began a c stage count drawn)
  unfolding began
  begins (Waiting number (Writing root part own)) count drawn =
      fits_either (nat_eq count (length a.boxes)) _ _ (record { lane = refl; is = refl; outstanding = refl }) tt
  begins stage count drawn = tt

  audits_it : (stage : Stage) (opened : Openings) (closed : Closing) → Fits c a (audited a c stage opened closed)
  unfolding audited
  audits_it (Auditing number w share sigma own) opened closed = record { lane = refl; serial = refl; outstanding = refl }
  audits_it stage opened closed = tt

  accepts_it : (stage : Stage) → Fits c a (accepted a c stage)
  unfolding accepted
  accepts_it (Settling number w own other) =
      fits_either (accepts own other) _ _ (record { lane = refl; is = refl; outstanding = refl }) tt
  accepts_it stage = tt

  rejects_it : (stage : Stage) → Fits c a (rejected a c stage)
  unfolding rejected
  rejects_it (Settling number w own other) =
      fits_either (accepts own other) _ _ tt (record { lane = refl; is = refl; outstanding = refl })
  rejects_it stage = tt

  reads_it : (stays : Bool) (number : ℕ) (found : Option Box) (share : List ℕ) → Fits c a (read a c stays number found share)
  unfolding read
  reads_it stays number None share = tt
  reads_it stays number (Some box) share = record { lane = refl; is = refl; outstanding = refl }

  begun_fits : (stage : Stage) (body : PlainBody) → Fits c a (if_begun a c stage body)
  begun_fits stage (frame.LinkBegun count drawn) = begins stage count drawn
  begun_fits stage body = tt

  audited_fits : (stage : Stage) (body : PlainBody) → Fits c a (if_audited a c stage body)
  audited_fits stage (frame.LinkReply (frame.ReplyAudited opened closed)) = audits_it stage opened closed
  audited_fits stage body = tt

  settled_fits : (stage : Stage) (body : PlainBody) → Fits c a (if_settled a c stage body)
  settled_fits stage (frame.LinkReply frame.ReplyAccepted) = accepts_it stage
  settled_fits stage (frame.LinkReply frame.ReplyRejected) = rejects_it stage
  settled_fits stage body = tt

  read_fits : (stays : Bool) (number : ℕ) (body : PlainBody) → Fits c a (if_read a c stays number body)
  read_fits stays number (frame.LinkReply (frame.ReplyMasked share)) = reads_it stays number (slice_get a.boxes number) share
  read_fits stays number body = tt

  commands : (command : PlainBody) (stage : Stage) (body : PlainBody) → Fits c a (by_command a c command stage body)
  unfolding by_command
  commands (frame.LinkRegister address) stage body = registers address stage (registered_in body)
  commands (frame.LinkBegin drawn part) stage body = begun_fits stage body
  commands (frame.LinkAudit sigma opened) stage body = audited_fits stage body
  commands (frame.LinkSettle own) stage body = settled_fits stage body
  commands (frame.LinkRead number) stage body = read_fits true number body
  commands (frame.LinkRetire number) stage body = read_fits false number body
  commands command stage body = tt

  all_fits : (body : PlainBody) (why : Option Refusal) → Fits c a (fits a c body why)
  unfolding fits
  all_fits body (Some why) = record { lane = refl; is = refl; outstanding = refl }
  all_fits body None = commands c.body (row_at a c.lane).stage body

  -- with its oldest command
  own_ack : (ack : Ack) (after : Leader) → slice_get a.outstanding 0 ≡ Some c → AckOf c a ack after → AckIsOwn ack a after
  own_ack (ToLane lane reply) after oldest h = (c, oldest, h)
  own_ack (Settles number command) after oldest h = (c, oldest, h)
  own_ack Ignored after oldest h = h

  fitted : (found : Option AckTurn) → slice_get a.outstanding 0 ≡ Some c → Fits c a found → AckIsOwn (if_fits a found).ack a (if_fits a found).leader
  fitted (Some t) oldest h = own_ack t.ack t.leader oldest h
  fitted None oldest h = refl

abbrev OwnAck : Leader → AckTurn → Type 0
OwnAck a t = AckIsOwn t.ack a t.leader

ack_either : (a : Leader) (b : Bool) (x y : AckTurn) → OwnAck a x → OwnAck a y → OwnAck a (cond b x y)
ack_either a true x y p q = p
ack_either a false x y p q = q

oldest_own : (a : Leader) (f : PlainFrame) (oldest : Option PlainFrame) → slice_get a.outstanding 0 ≡ oldest → OwnAck a (answers a f oldest)
unfolding answers
oldest_own a f None is = refl
oldest_own a f (Some c) is =
    ack_either a ((nat_eq f.link c.link) && ((nat_eq f.lane c.lane) && (nat_eq f.serial c.serial))) _ _
    (fitted a c (fits a c f.body (refusal_in f.body)) is (all_fits a c f.body (refusal_in f.body))) refl

found_own : (a : Leader) (found : Option PlainFrame) → OwnAck a (if_reply a found)
unfolding if_reply
found_own a (Some f) = oldest_own a f (slice_get a.outstanding 0) refl
found_own a None = refl

pub acks_are_own : AcksAreOwn
acks_are_own a bytes = found_own a (linked is_reply a.settings.width bytes)
