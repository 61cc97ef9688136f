-- What a refusal of the leader leaves.
use Rattle.std.specs.Prelude.{◌≡◌, ℕ, ◌^◌, ◌-◌, ◌&&◌, Bool, true, false, cond, nat_le, nat_lt, nat_eq, not, is_none, refl, List, length, Option, Some, None, Result, Ok, Err, slice_get}
use Rattle.std.proofs.Common.{subst}
use Rattle.std.proofs.lemmas.List.{get_or-set_other}
use Rattle.express_words.specs.declared.audit.ProofShare.{ProofShare}
use Rattle.express_words.specs.declared.audit.Openings.{Openings}
use Rattle.express_words.specs.declared.audit.Closing.{Closing}
use Rattle.express_words.specs.declared.refusal.Refusal.{Refusal}
use Rattle.frame_rules.specs.Frames as frame
use Rattle.frame_rules.specs.Frames.{PlainFrame, PlainBody}
use Rattle.frame_rules.specs.Whole.{whole, linked, is_reply, has_width}
use Rattle.lane_table.specs.Gates.{opening_gate, closing_gate}
use Rattle.lane_table.specs.declared.row.Want.{Want}
use Rattle.lane_table.specs.declared.gate.Gate.{Gate}
use Rattle.lane_table.specs.declared.gate.Gate.TheVariants.{New, Same, Stale, Phase}
use Rattle.dpf_rules.specs.Expansion.{token}
use Rattle.audit_rules.specs.Audit.{accepts}
use Rattle.step_rules.specs.Boxes.{Box, place_of}
use Rattle.step_rules.specs.Leader.{Leader, Asked, Registering, Writing, Reading, Retiring, Stage, Idle, Waiting, Challenged, Auditing, Settling, Done, row_at, idle, door, want_in, Turn, AckTurn}
use Rattle.step_rules.specs.LeaderClients.{Named, draw, if_room, issued_for, if_token, if_named, new_at, again_at, submission_at, on_submission, audits, proof_in, proof_at, on_proof, by_kind, on_whole}
use Rattle.step_rules.specs.LeaderReplies.{done, registered, began, audited, accepted, rejected, read, by_command, registered_in, if_registered, if_begun, if_audited, if_settled, if_read, fits, refusal_in, want_for, if_fits, answers, if_reply}
use Rattle.step_rules.specs.Refusals.{TurnLeaves, AckLeaves, LeaderRefusesClients, LeaderRefusesRequests}

-- ---- frames of clients: a reply changes nothing

abbrev Rests : Leader → Turn → Type 0
Rests a t = TurnLeaves t.answer a t.leader

rests_either : (a : Leader) (b : Bool) (x y : Turn) → Rests a x → Rests a y → Rests a (cond b x y)
rests_either a true x y p q = p
rests_either a false x y p q = q

roomed : (a : Leader) (f : PlainFrame) (issued : Turn) → Rests a issued → Rests a (if_room a f issued)
roomed a f issued rests =
    rests_either a (nat_lt (2 ^ 64 - 65) a.next) _ _ refl
    (rests_either a (nat_le a.settings.window (length a.outstanding)) _ _ refl rests)

issued : (a : Leader) (f : PlainFrame) (asked : Asked) → Rests a (issued_for a f asked)
unfolding issued_for
issued a f (Registering address key) = tt
issued a f (Writing root part drawn) = tt
issued a f (Reading number) = tt
issued a f (Retiring number) = tt

tokened : (a : Leader) (f : PlainFrame) (number held : ℕ) (found : Option Box) (t : Turn) → Rests a t → Rests a (if_token a f number held found t)
unfolding if_token
tokened a f number held None t rests = refl
tokened a f number held (Some box) t rests = rests_either a (nat_eq held (token box.key f.lane f.serial)) _ _ rests refl

named_rests : (a : Leader) (f : PlainFrame) (named : Option Named) (t : Turn) → Rests a t → Rests a (if_named a f named t)
unfolding if_named
named_rests a f None t rests = rests
named_rests a f (Some n) t rests = tokened a f n.number n.held (slice_get a.boxes n.number) t rests

new_rests : (a : Leader) (f : PlainFrame) (asked : Asked) (named : Option Named) (stage : Stage) → Rests a (new_at a f asked named stage)
unfolding new_at
new_rests a f asked named (Waiting number other) = refl
new_rests a f asked named (Auditing number w share sigma opened) = refl
new_rests a f asked named (Settling number w own other) = refl
new_rests a f asked named Idle = named_rests a f named _ (roomed a f _ (issued a f asked))
new_rests a f asked named (Challenged w kept) = named_rests a f named _ (roomed a f _ (issued a f asked))
new_rests a f asked named (Done want kept) = named_rests a f named _ (roomed a f _ (issued a f asked))

again_rests : (a : Leader) (f : PlainFrame) (stage : Stage) → Rests a (again_at a f stage)
unfolding again_at
again_rests a f Idle = refl
again_rests a f (Waiting number asked) = refl
again_rests a f (Auditing number w share sigma opened) = refl
again_rests a f (Settling number w own other) = refl
again_rests a f (Challenged w kept) = refl
again_rests a f (Done want kept) = refl

gated_rests : (a : Leader) (f : PlainFrame) (asked : Asked) (named : Option Named) (gate : Gate) → Rests a (submission_at a f asked named gate)
unfolding submission_at
gated_rests a f asked named (Stale n) = refl
gated_rests a f asked named (Phase p) = refl
gated_rests a f asked named Same = again_rests a f (row_at a f.lane).stage
gated_rests a f asked named New = new_rests a f asked named (row_at a f.lane).stage

submitted : (a : Leader) (f : PlainFrame) (asked : Asked) (named : Option Named) → Rests a (on_submission a f asked named)
unfolding on_submission
submitted a f asked named =
    rests_either a (nat_le a.settings.lanes f.lane) _ _ refl
    (gated_rests a f asked named (opening_gate (door (row_at a f.lane)) f.serial (want_in asked)))

proof_rests : (a : Leader) (f : PlainFrame) (share : ProofShare) (stage : Stage) → Rests a (proof_in a f share stage)
unfolding proof_in
proof_rests a f share Idle = refl
proof_rests a f share (Waiting number asked) = refl
proof_rests a f share (Auditing number w before sigma opened) = refl
proof_rests a f share (Settling number w own other) = refl
proof_rests a f share (Done want kept) = refl
proof_rests a f share (Challenged w kept) = roomed a f (audits a f w share) tt

proof_gated : (a : Leader) (f : PlainFrame) (share : ProofShare) (gate : Gate) → Rests a (proof_at a f share gate)
unfolding proof_at
proof_gated a f share (Stale n) = refl
proof_gated a f share (Phase p) = refl
proof_gated a f share Same = proof_rests a f share (row_at a f.lane).stage
proof_gated a f share New = proof_rests a f share (row_at a f.lane).stage

proved : (a : Leader) (f : PlainFrame) (share : ProofShare) → Rests a (on_proof a f share)
unfolding on_proof
proved a f share =
    rests_either a (nat_le a.settings.lanes f.lane) _ _ refl
    (proof_gated a f share (closing_gate (door (row_at a f.lane)) f.serial))

kinds : (a : Leader) (f : PlainFrame) (body : PlainBody) → Rests a (by_kind a f body)
unfolding by_kind
kinds a f (frame.Register address key) = submitted a f (Registering address key) None
kinds a f (frame.Write root part) =
    rests_either a (has_width a.settings.width (frame.Write root part)) _ _ (submitted a f (Writing root part (draw a)) None) refl
kinds a f (frame.Read number held) = submitted a f (Reading number) (Some (record { number = number; held = held }))
kinds a f (frame.Retire number held) = submitted a f (Retiring number) (Some (record { number = number; held = held }))
kinds a f (frame.Proof share) = proved a f share
kinds a f body = refl

wholes : (a : Leader) (found : Result PlainFrame Refusal) → Rests a (on_whole a found)
unfolding on_whole
wholes a (Err why) = refl
wholes a (Ok f) = kinds a f f.body

pub clients : LeaderRefusesClients
clients a bytes = wholes a (whole bytes)

-- ---- replies of the helper

abbrev Leaves : Leader → AckTurn → Type 0
Leaves a t = AckLeaves t.ack a t.leader

-- what fits leaves what it should
abbrev Fits : Leader → Option AckTurn → Type 0
Fits a found = (t : AckTurn) → found ≡ Some t → Leaves a t

refused_leaves : (a : Leader) (c : PlainFrame) (want : Want) (body : PlainBody) → Leaves a (done a c want body)
refused_leaves a c want body said_no =
    record { settings = refl; boxes = refl; lanes = λ other ne. get_or-set_other a.rows c.lane other _ idle ne; draws = refl; next = refl }

fits_none : (a : Leader) → Fits a None
fits_none a t e = absurd (cc e)

fits_some : (a : Leader) (x : AckTurn) → Leaves a x → Fits a (Some x)
fits_some a x leaves t e = let same : x ≡ t = cc in subst (Leaves a) same leaves

fits_either : (a : Leader) (b : Bool) (x y : Option AckTurn) → Fits a x → Fits a y → Fits a (cond b x y)
fits_either a true x y p q = p
fits_either a false x y p q = q

registers : (a : Leader) (c : PlainFrame) (address : ℕ) (stage : Stage) (found : Option ℕ) → Fits a (if_registered a c address stage found)
unfolding registered
registers a c address (Waiting number (Registering own key)) (Some n) =
    fits_either a ((nat_eq n (length a.boxes)) && (is_none (place_of address a.boxes) && not (nat_le a.settings.boxes (length a.boxes)))) _ _
    (fits_some a _ (λ said_no. absurd said_no)) (fits_none a)
registers a c address stage (Some n) = fits_none a
registers a c address stage None = fits_none a

begins : (a : Leader) (c : PlainFrame) (stage : Stage) (count : ℕ) (drawn : List ℕ) → Fits a (began a c stage count drawn)
unfolding began
begins a c (Waiting number (Writing root part own)) count drawn =
    fits_either a (nat_eq count (length a.boxes)) _ _ (fits_some a _ (λ said_no. absurd said_no)) (fits_none a)
begins a c stage count drawn = fits_none a

audits_it : (a : Leader) (c : PlainFrame) (stage : Stage) (opened : Openings) (closed : Closing) → Fits a (audited a c stage opened closed)
unfolding audited
audits_it a c (Auditing number w share sigma own) opened closed = fits_some a _ tt
audits_it a c stage opened closed = fits_none a

accepts_it : (a : Leader) (c : PlainFrame) (stage : Stage) → Fits a (accepted a c stage)
unfolding accepted
accepts_it a c (Settling number w own other) =
    fits_either a (accepts own other) _ _ (fits_some a _ (λ said_no. absurd said_no)) (fits_none a)
accepts_it a c stage = fits_none a

rejects_it : (a : Leader) (c : PlainFrame) (stage : Stage) → Fits a (rejected a c stage)
unfolding rejected
rejects_it a c (Settling number w own other) = fits_either a (accepts own other) _ _ (fits_none a) (fits_some a _ (refused_leaves a c _ _))
rejects_it a c stage = fits_none a

reads_it : (a : Leader) (c : PlainFrame) (stays : Bool) (number : ℕ) (found : Option Box) (share : List ℕ) → Fits a (read a c stays number found share)
unfolding read
reads_it a c stays number None share = fits_none a
reads_it a c stays number (Some box) share = fits_some a _ (λ said_no. absurd said_no)

begun_fits : (a : Leader) (c : PlainFrame) (stage : Stage) (body : PlainBody) → Fits a (if_begun a c stage body)
begun_fits a c stage (frame.LinkBegun count drawn) = begins a c stage count drawn
begun_fits a c stage body = fits_none a

audited_fits : (a : Leader) (c : PlainFrame) (stage : Stage) (body : PlainBody) → Fits a (if_audited a c stage body)
audited_fits a c stage (frame.LinkReply (frame.ReplyAudited opened closed)) = audits_it a c stage opened closed
audited_fits a c stage body = fits_none a

settled_fits : (a : Leader) (c : PlainFrame) (stage : Stage) (body : PlainBody) → Fits a (if_settled a c stage body)
settled_fits a c stage (frame.LinkReply frame.ReplyAccepted) = accepts_it a c stage
settled_fits a c stage (frame.LinkReply frame.ReplyRejected) = rejects_it a c stage
settled_fits a c stage body = fits_none a

read_fits : (a : Leader) (c : PlainFrame) (stays : Bool) (number : ℕ) (body : PlainBody) → Fits a (if_read a c stays number body)
read_fits a c stays number (frame.LinkReply (frame.ReplyMasked share)) = reads_it a c stays number (slice_get a.boxes number) share
read_fits a c stays number body = fits_none a

commands : (a : Leader) (c : PlainFrame) (command : PlainBody) (stage : Stage) (body : PlainBody) → Fits a (by_command a c command stage body)
unfolding by_command
commands a c (frame.LinkRegister address) stage body = registers a c address stage (registered_in body)
commands a c (frame.LinkBegin drawn part) stage body = begun_fits a c stage body
commands a c (frame.LinkAudit sigma opened) stage body = audited_fits a c stage body
commands a c (frame.LinkSettle own) stage body = settled_fits a c stage body
commands a c (frame.LinkRead number) stage body = read_fits a c true number body
commands a c (frame.LinkRetire number) stage body = read_fits a c false number body
commands a c command stage body = fits_none a

all_fits : (a : Leader) (c : PlainFrame) (body : PlainBody) (why : Option Refusal) → Fits a (fits a c body why)
unfolding fits
all_fits a c body (Some why) = fits_some a _ (refused_leaves a c (want_for c.body) (frame.Refused why))
all_fits a c body None = commands a c c.body (row_at a c.lane).stage body

-- ---- what fits, and what is ignored

fitted_leaves : (a : Leader) (found : Option AckTurn) → Fits a found → Leaves a (if_fits a found)
fitted_leaves a (Some t) fit = fit t refl
fitted_leaves a None fit = refl

leaves_either : (a : Leader) (b : Bool) (x y : AckTurn) → Leaves a x → Leaves a y → Leaves a (cond b x y)
leaves_either a true x y p q = p
leaves_either a false x y p q = q

oldest_leaves : (a : Leader) (f : PlainFrame) (oldest : Option PlainFrame) → Leaves a (answers a f oldest)
unfolding answers
oldest_leaves a f None = refl
oldest_leaves a f (Some c) =
    leaves_either a ((nat_eq f.link c.link) && ((nat_eq f.lane c.lane) && (nat_eq f.serial c.serial))) _ _
    (fitted_leaves a (fits a c f.body (refusal_in f.body)) (all_fits a c f.body (refusal_in f.body))) refl

found_leaves : (a : Leader) (found : Option PlainFrame) → Leaves a (if_reply a found)
unfolding if_reply
found_leaves a (Some f) = oldest_leaves a f (slice_get a.outstanding 0)
found_leaves a None = refl

pub requests : LeaderRefusesRequests
requests a bytes = found_leaves a (linked is_reply a.settings.width bytes)
