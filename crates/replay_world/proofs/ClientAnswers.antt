-- What goes to a client's lane is an answer to a client: of the link, of openings, closings and points it has nothing.
use Rattle.std.proofs.Common.{◌≡◌, ◌∙◌, ◌≤◌, ◌&&◌, ◌^◌, ◌-◌, ℕ, zero, suc, Bool, true, false, cond, nat_eq, nat_le, nat_lt, not, is_none, List, [], ◌∷◌, ◌++◌, length, replicate, Option, Some, None, Result, Ok, Err, slice_get, slice_set, slice_index_or, inl, inr, refl, sym, ap, subst, arith}
use Rattle.std.proofs.lemmas.Bool.{cases_eq, cases_lt, cond_both}
use Rattle.std.proofs.lemmas.List.{get_or-set_same, get_or-set_other}
use Rattle.express_words.specs.declared.audit.ProofShare.{ProofShare}
use Rattle.express_words.specs.declared.audit.Openings.{Openings}
use Rattle.express_words.specs.declared.audit.Closing.{Closing}
use Rattle.express_words.specs.declared.refusal.Refusal.{Refusal}
use Rattle.express_words.specs.declared.refusal.Refusal.TheVariants as refusal
use Rattle.frame_rules.specs.declared.frame.DepositBody.{DepositBody}
use Rattle.frame_rules.specs.Frames as frame
use Rattle.frame_rules.specs.Frames.{PlainFrame, PlainBody}
use Rattle.frame_rules.specs.Spelling.{spelling}
use Rattle.frame_rules.specs.Whole.{has_width, is_command, is_reply, linked, whole}
use Rattle.lane_table.specs.Gates.{opening_gate, closing_gate}
use Rattle.lane_table.specs.declared.gate.Gate.{Gate}
use Rattle.lane_table.specs.declared.gate.Gate.TheVariants.{New, Same, Stale, Phase}
use Rattle.dpf_rules.specs.Expansion.{token}
use Rattle.audit_rules.specs.Audit.{accepts}
use Rattle.mailbox_rules.specs.Requests.{Request}
use Rattle.step_rules.specs.Boxes.{Box, place_of, with_new, with_read}
use Rattle.step_rules.specs.Helper as helper
use Rattle.step_rules.specs.HelperClients as at_helper
use Rattle.step_rules.specs.HelperCommands.{on_link_bytes}
use Rattle.step_rules.specs.Leader as leader
use Rattle.step_rules.specs.Leader.{Leader, Asked, Registering, Writing, Reading, Retiring, Row, Stage, Idle, Waiting, Challenged, Auditing, Settling, Done, Turn, AckTurn, door, idle, row, row_at, want_in}
use Rattle.step_rules.specs.LeaderClients as steps
use Rattle.step_rules.specs.LeaderReplies as replies
use Rattle.step_rules.specs.Client as client
use Rattle.step_rules.specs.Client.{Client, Fault, Finished, Progress}
use Rattle.step_rules.specs.ClientAsks.{Sent, asked, sends}
use Rattle.step_rules.specs.ClientReplies.{on_reply}
use Rattle.token_rules.specs.Run.{own_of}
use Rattle.step_rules.specs.Needs.{IssuedFor, KeepsWhatCame}
use Rattle.step_rules.proofs.LeaderNeeds.{leader_needs}
use Rattle.run_rules.specs.Letters.{Addressee, Ended, FrameWorld, Letter, NoOwnBox, ToClient, ToHelper, ToHelperLink, ToLeader, ToLeaderLink, letter, opened}
use Rattle.run_rules.specs.Run as frames
use Rattle.run_rules.specs.Run.{Inject}
use Rattle.replay_world.specs.Parts.{events_in}
use Rattle.replay_world.specs.Played.{run_of}
use Rattle.replay_world.specs.Sight.{ClientsGetAnswers, IsForClient}
use Rattle.replay_world.proofs.RunKeeps.{Moves, run_keeps}

-- ---- the helper's answers

abbrev RowOk : at_helper.RowTurn → Type 0
RowOk t = IsForClient t.body

deposit_ok : (r : helper.Row) (serial : ℕ) (held : DepositBody) (gate : Gate) → RowOk (at_helper.deposit_at r serial held gate)
unfolding at_helper.deposit_at
deposit_ok r serial held (Stale n) = tt
deposit_ok r serial held (Phase p) = tt
deposit_ok r serial held Same = tt
deposit_ok r serial held New = tt

proof_ok : (r : helper.Row) (share : ProofShare) (stage : helper.Stage) → RowOk (at_helper.proof_in r share stage)
unfolding at_helper.proof_in
proof_ok r share helper.Idle = tt
proof_ok r share (helper.Deposited held) = tt
proof_ok r share (helper.Begun write) = tt
proof_ok r share (helper.Proved write before) = tt
proof_ok r share (helper.Audited write own) = tt
proof_ok r share (helper.Done want) = tt

gated_ok : (r : helper.Row) (share : ProofShare) (gate : Gate) → RowOk (at_helper.proof_at r share gate)
unfolding at_helper.proof_at
gated_ok r share (Stale n) = tt
gated_ok r share (Phase p) = tt
gated_ok r share Same = proof_ok r share r.stage
gated_ok r share New = proof_ok r share r.stage

lane_ok : (h : helper.Server) (f : PlainFrame) (t : at_helper.RowTurn) → RowOk t → IsForClient (at_helper.if_lane h f t).reply.body
unfolding at_helper.if_lane
lane_ok h f t ok = cond_both {A = helper.Turn} (nat_le h.settings.lanes f.lane) _ _ (λ (t : helper.Turn). IsForClient t.reply.body) (λ e. tt) (λ e. ok)

kind_ok : (h : helper.Server) (f : PlainFrame) (body : PlainBody) → IsForClient (at_helper.by_kind h f body).reply.body
unfolding at_helper.by_kind at_helper.deposit_row at_helper.proof_row
kind_ok h f (frame.Deposit held) = let r = helper.row_at h f.lane in lane_ok h f _ (deposit_ok r f.serial held (opening_gate (helper.door r) f.serial (helper.want_in held)))
kind_ok h f (frame.Proof share) = let r = helper.row_at h f.lane in lane_ok h f _ (gated_ok r share (closing_gate (helper.door r) f.serial))
kind_ok h f body = tt

helper_ok : (h : helper.Server) (bytes : List ℕ) → IsForClient (at_helper.client_turn h bytes).reply.body
unfolding at_helper.on_whole
helper_ok h bytes = at_read (whole bytes)
  where
    at_read : (found : Result PlainFrame Refusal) → IsForClient (at_helper.on_whole h found).reply.body
    at_read (Err r) = tt
    at_read (Ok f) = kind_ok h f f.body

-- ---- the answers that a leader's rows keep

abbrev Kept : Stage → Type 0
Kept (Challenged write kept) = IsForClient kept
Kept (Done want kept) = IsForClient kept
Kept stage = Unit {0}

abbrev RowsKeep : List Row → Type 0
RowsKeep rows = (c : ℕ) → Kept (slice_index_or rows c idle).stage

past_set : (xs : List Row) (c : ℕ) (r : Row) → length xs ≤ c → slice_set xs c r ≡ xs
past_set [] c r h = refl
past_set (x ∷ xs) zero r h = absurd (omega (arith, h))
past_set (x ∷ xs) (suc c) r h = ap (λ l. x ∷ l) (past_set xs c r (omega (arith, h)))

set_keeps : (rows : List Row) (d : ℕ) (r : Row) → RowsKeep rows → Kept r.stage → RowsKeep (slice_set rows d r)
set_keeps rows d r keep mine c = elim (cases_eq c d) [
  | inl same ↦ elim (cases_lt d (length rows)) [
    | inl low ↦ subst (λ (x : Row). Kept x.stage) (sym (ap (λ n. slice_index_or (slice_set rows d r) n idle) same ∙ get_or-set_same rows d r idle low)) mine
    | inr high ↦ subst (λ l. Kept (slice_index_or l c idle).stage) (sym (past_set rows d r high)) (keep c)
  ]
  | inr other ↦ subst (λ (x : Row). Kept x.stage) (sym (get_or-set_other rows d c r idle other)) (keep c)
]

-- ---- frames of clients at the leader

AnswerOk : leader.Answer → Type 0
AnswerOk (leader.Reply reply) = IsForClient reply.body
AnswerOk answer = Unit {0}

abbrev TurnOk : Turn → Type 0
TurnOk t = AnswerOk t.answer

module _ (a : Leader) (f : PlainFrame) (kept : Kept (row_at a f.lane).stage) where
  either : (b : Bool) (x y : Turn) → TurnOk x → TurnOk y → TurnOk (cond b x y)
  either true x y p q = p
  either false x y p q = q

  refused : (r : Refusal) → TurnOk (leader.refuses a f r)
  unfolding AnswerOk
  refused r = tt

  roomed : (issued : Turn) → TurnOk issued → TurnOk (steps.if_room a f issued)
  roomed issued ok =
      either (nat_lt (2 ^ 64 - 65) a.next) _ _ (refused (refusal.Again 0))
      (either (nat_le a.settings.window (length a.outstanding)) _ _ (refused (refusal.Again (steps.oldest a))) ok)

  issued : (asked : Asked) → TurnOk (steps.issued_for a f asked)
  unfolding steps.issued_for AnswerOk
  issued (Registering address key) = tt
  issued (Writing root part drawn) = tt
  issued (Reading number) = tt
  issued (Retiring number) = tt

  tokened : (number held : ℕ) (found : Option Box) (t : Turn) → TurnOk t → TurnOk (steps.if_token a f number held found t)
  unfolding steps.if_token
  tokened number held None t ok = refused (refusal.NoBox number)
  tokened number held (Some box) t ok = either (nat_eq held (token box.key f.lane f.serial)) _ _ ok (refused (refusal.BadToken number))

  named_ok : (named : Option steps.Named) (t : Turn) → TurnOk t → TurnOk (steps.if_named a f named t)
  unfolding steps.if_named
  named_ok None t ok = ok
  named_ok (Some n) t ok = tokened n.number n.held (slice_get a.boxes n.number) t ok

  new_ok : (asked : Asked) (named : Option steps.Named) (stage : Stage) → TurnOk (steps.new_at a f asked named stage)
  unfolding steps.new_at
  new_ok asked named (Waiting number other) = refused (refusal.Phase 6)
  new_ok asked named (Auditing number w share sigma opened) = refused (refusal.Phase 8)
  new_ok asked named (Settling number w own other) = refused (refusal.Phase 8)
  new_ok asked named Idle = named_ok named _ (roomed _ (issued asked))
  new_ok asked named (Challenged w kept) = named_ok named _ (roomed _ (issued asked))
  new_ok asked named (Done want kept) = named_ok named _ (roomed _ (issued asked))

  again_ok : (stage : Stage) → Kept stage → TurnOk (steps.again_at a f stage)
  unfolding steps.again_at AnswerOk
  again_ok Idle k = tt
  again_ok (Waiting number asked) k = tt
  again_ok (Auditing number w share sigma opened) k = tt
  again_ok (Settling number w own other) k = tt
  again_ok (Challenged w kept) k = k
  again_ok (Done want kept) k = k

  gated : (asked : Asked) (named : Option steps.Named) (gate : Gate) → TurnOk (steps.submission_at a f asked named gate)
  unfolding steps.submission_at
  gated asked named (Stale n) = refused (refusal.Stale n)
  gated asked named (Phase p) = refused (refusal.Phase p)
  gated asked named Same = again_ok (row_at a f.lane).stage kept
  gated asked named New = new_ok asked named (row_at a f.lane).stage

  submitted : (asked : Asked) (named : Option steps.Named) → TurnOk (steps.on_submission a f asked named)
  unfolding steps.on_submission
  submitted asked named =
      either (nat_le a.settings.lanes f.lane) _ _ (refused (refusal.Lane a.settings.lanes))
      (gated asked named (opening_gate (door (row_at a f.lane)) f.serial (want_in asked)))

  leader_proof_ok : (share : ProofShare) (stage : Stage) → Kept stage → TurnOk (steps.proof_in a f share stage)
  unfolding steps.proof_in AnswerOk
  leader_proof_ok share Idle k = tt
  leader_proof_ok share (Waiting number asked) k = tt
  leader_proof_ok share (Auditing number w before sigma opened) k = tt
  leader_proof_ok share (Settling number w own other) k = tt
  leader_proof_ok share (Done want kept) k = k
  leader_proof_ok share (Challenged w kept) k = roomed (steps.audits a f w share) tt

  proof_gated : (share : ProofShare) (gate : Gate) → TurnOk (steps.proof_at a f share gate)
  unfolding steps.proof_at
  proof_gated share (Stale n) = refused (refusal.Stale n)
  proof_gated share (Phase p) = refused (refusal.Phase p)
  proof_gated share Same = leader_proof_ok share (row_at a f.lane).stage kept
  proof_gated share New = leader_proof_ok share (row_at a f.lane).stage kept

  proved : (share : ProofShare) → TurnOk (steps.on_proof a f share)
  unfolding steps.on_proof
  proved share =
      either (nat_le a.settings.lanes f.lane) _ _ (refused (refusal.Lane a.settings.lanes))
      (proof_gated share (closing_gate (door (row_at a f.lane)) f.serial))

  kinds : (body : PlainBody) → TurnOk (steps.by_kind a f body)
  unfolding steps.by_kind AnswerOk
  kinds (frame.Register address key) = submitted (Registering address key) None
  kinds (frame.Write root part) =
      either (has_width a.settings.width (frame.Write root part)) _ _ (submitted (Writing root part (steps.draw a)) None) tt
  kinds (frame.Read number held) = submitted (Reading number) (Some (record { number = number; held = held }))
  kinds (frame.Retire number held) = submitted (Retiring number) (Some (record { number = number; held = held }))
  kinds (frame.Proof share) = proved share
  kinds body = tt

client_ok : (a : Leader) (bytes : List ℕ) → RowsKeep a.rows → AnswerOk (steps.on_client a bytes).answer
unfolding steps.on_whole AnswerOk
client_ok a bytes keep = at_read (whole bytes)
  where
    at_read : (found : Result PlainFrame Refusal) → TurnOk (steps.on_whole a found)
    at_read (Err r) = tt
    at_read (Ok f) = kinds a f (keep f.lane) f.body

came_kept : (body : PlainBody) (stage : Stage) → KeepsWhatCame body stage → Kept stage
came_kept (frame.Register address key) stage h = subst Kept (sym h.1) tt
came_kept (frame.Write root part) stage h = subst Kept (sym h.2) tt
came_kept (frame.Read number held) stage h = subst Kept (sym h.1) tt
came_kept (frame.Retire number held) stage h = subst Kept (sym h.1) tt
came_kept (frame.Proof share) (Auditing n write kept point opened) h = tt
came_kept (frame.Proof share) Idle h = absurd h
came_kept (frame.Proof share) (Waiting n asked) h = absurd h
came_kept (frame.Proof share) (Challenged w kept) h = absurd h
came_kept (frame.Proof share) (Settling n w own other) h = absurd h
came_kept (frame.Proof share) (Done want kept) h = absurd h
came_kept body stage h = absurd h

client_keeps : (a : Leader) (bytes : List ℕ) → RowsKeep a.rows → RowsKeep (steps.on_client a bytes).leader.rows
client_keeps a bytes keep = of_answer (steps.on_client a bytes).answer (leader_needs a bytes)
  where
    of_answer : (answer : leader.Answer) → IssuedFor answer a bytes (steps.on_client a bytes).leader → RowsKeep (steps.on_client a bytes).leader.rows
    of_answer (leader.Link n command) issued =
        subst RowsKeep (sym issued.2.rows) (set_keeps a.rows issued.0.lane (row issued.0.serial issued.2.stage) keep (came_kept issued.0.body issued.2.stage issued.2.keeps))
    of_answer (leader.Reply reply) same = subst (λ (a : Leader). RowsKeep a.rows) (sym same) keep
    of_answer (leader.StillWaiting n) same = subst (λ (a : Leader). RowsKeep a.rows) (sym same) keep

-- ---- replies of the helper at the leader

AckOk : leader.Ack → Type 0
AckOk (leader.ToLane lane reply) = IsForClient reply.body
AckOk ack = Unit {0}

module _ (a : Leader) (c : PlainFrame) where
  -- an answer to the client, and rows that keep one alone
  abbrev After : AckTurn → Type 0
  After t = AckOk t.ack × ((next : Stage) × (t.leader.rows ≡ slice_set a.rows c.lane (row c.serial next)) × Kept next)

  abbrev Fits : Option AckTurn → Type 0
  Fits found = (t : AckTurn) → found ≡ Some t → After t

  none : Fits None
  none t e = absurd (cc e)

  some : (x : AckTurn) → After x → Fits (Some x)
  some x after t e = let same : x ≡ t = cc in subst After same after

  fits_either : (b : Bool) (x y : Option AckTurn) → Fits x → Fits y → Fits (cond b x y)
  fits_either true x y p q = p
  fits_either false x y p q = q

  ends : (b : Leader) (want : _) (body : PlainBody) → b.rows ≡ a.rows → IsForClient body → Fits (Some (replies.done b c want body))
  unfolding AckOk
  ends b want body rows ok =
      some (replies.done b c want body) (ok, (Done want body, ap (λ rows. slice_set rows c.lane (row c.serial (Done want body))) rows, ok))

  registers : (address : ℕ) (stage : Stage) (found : Option ℕ) → Fits (replies.if_registered a c address stage found)
  unfolding replies.registered
  registers address (Waiting number (Registering own key)) (Some n) =
      fits_either ((nat_eq n (length a.boxes)) && (is_none (place_of address a.boxes) && not (nat_le a.settings.boxes (length a.boxes)))) _ _
      (ends (record a { boxes = with_new a.settings.width address key a.boxes }) _ (frame.Registered n) refl tt) none
  registers address stage (Some n) = none
  registers address stage None = none

  begins : (stage : Stage) (count : ℕ) (drawn : List ℕ) → Fits (replies.began a c stage count drawn)
  unfolding replies.began AckOk
  begins (Waiting number (Writing root part own)) count drawn =
      fits_either (nat_eq count (length a.boxes)) _ _ (some _ (tt, (_, refl, tt))) none
  begins stage count drawn = none

  audits_it : (stage : Stage) (opened : Openings) (closed : Closing) → Fits (replies.audited a c stage opened closed)
  unfolding replies.audited AckOk
  audits_it (Auditing number w share sigma own) opened closed = some _ (tt, (_, refl, tt))
  audits_it stage opened closed = none

  accepts_it : (stage : Stage) → Fits (replies.accepted a c stage)
  unfolding replies.accepted
  accepts_it (Settling number w own other) = fits_either (accepts own other) _ _ (ends (replies.settled a w) _ frame.Accepted refl tt) none
  accepts_it stage = none

  rejects_it : (stage : Stage) → Fits (replies.rejected a c stage)
  unfolding replies.rejected
  rejects_it (Settling number w own other) =
      fits_either (accepts own other) _ _ none (ends a _ (frame.Refused (refusal.Rejected own.o other.o own.tau other.tau)) refl tt)
  rejects_it stage = none

  reads_it : (stays : Bool) (number : ℕ) (found : Option Box) (share : List ℕ) → Fits (replies.read a c stays number found share)
  unfolding replies.read
  reads_it stays number None share = none
  reads_it stays number (Some box) share =
      ends (record a { boxes = with_read a.settings.width stays number box a.boxes }) _ (frame.Message (replies.masked a c box) share) refl tt

  begun_fits : (stage : Stage) (body : PlainBody) → Fits (replies.if_begun a c stage body)
  begun_fits stage (frame.LinkBegun count drawn) = begins stage count drawn
  begun_fits stage body = none

  audited_fits : (stage : Stage) (body : PlainBody) → Fits (replies.if_audited a c stage body)
  audited_fits stage (frame.LinkReply (frame.ReplyAudited opened closed)) = audits_it stage opened closed
  audited_fits stage body = none

  settled_fits : (stage : Stage) (body : PlainBody) → Fits (replies.if_settled a c stage body)
  settled_fits stage (frame.LinkReply frame.ReplyAccepted) = accepts_it stage
  settled_fits stage (frame.LinkReply frame.ReplyRejected) = rejects_it stage
  settled_fits stage body = none

  read_fits : (stays : Bool) (number : ℕ) (body : PlainBody) → Fits (replies.if_read a c stays number body)
  read_fits stays number (frame.LinkReply (frame.ReplyMasked share)) = reads_it stays number (slice_get a.boxes number) share
  read_fits stays number body = none

  commands : (command : PlainBody) (stage : Stage) (body : PlainBody) → Fits (replies.by_command a c command stage body)
  unfolding replies.by_command
  commands (frame.LinkRegister address) stage body = registers address stage (replies.registered_in body)
  commands (frame.LinkBegin drawn part) stage body = begun_fits stage body
  commands (frame.LinkAudit sigma opened) stage body = audited_fits stage body
  commands (frame.LinkSettle own) stage body = settled_fits stage body
  commands (frame.LinkRead number) stage body = read_fits true number body
  commands (frame.LinkRetire number) stage body = read_fits false number body
  commands command stage body = none

  all_fits : (body : PlainBody) (why : Option Refusal) → Fits (replies.fits a c body why)
  unfolding replies.fits
  all_fits body (Some why) = ends a (replies.want_for c.body) (frame.Refused why) refl tt
  all_fits body None = commands c.body (row_at a c.lane).stage body

abbrev AckKeeps : AckTurn → Type 0
AckKeeps t = AckOk t.ack × RowsKeep t.leader.rows

ack_either : (b : Bool) (x y : AckTurn) → AckKeeps x → AckKeeps y → AckKeeps (cond b x y)
ack_either true x y p q = p
ack_either false x y p q = q

reply_keeps : (a : Leader) (bytes : List ℕ) → RowsKeep a.rows → AckKeeps (replies.on_reply_bytes a bytes)
unfolding replies.if_reply replies.answers AckOk
reply_keeps a bytes keep = found (linked is_reply a.settings.width bytes)
  where
    stays : AckKeeps (replies.ignored a)
    stays = (tt, keep)

    fitted : (c : PlainFrame) (o : Option AckTurn) → Fits a c o → AckKeeps (replies.if_fits a o)
    fitted c (Some t) fit = let on = fit t refl in (on.0, subst RowsKeep (sym on.1.1) (set_keeps a.rows c.lane (row c.serial on.1.0) keep on.1.2))
    fitted c None fit = stays

    oldest : (f : PlainFrame) (o : Option PlainFrame) → AckKeeps (replies.answers a f o)
    oldest f None = stays
    oldest f (Some c) =
        ack_either ((nat_eq f.link c.link) && ((nat_eq f.lane c.lane) && (nat_eq f.serial c.serial))) _ _
        (fitted c (replies.fits a c f.body (replies.refusal_in f.body)) (all_fits a c f.body (replies.refusal_in f.body))) stays

    found : (o : Option PlainFrame) → AckKeeps (replies.if_reply a o)
    found (Some f) = oldest f (slice_get a.outstanding 0)
    found None = stays

-- ---- the pool

abbrev LetterOk : Letter → Type 0
LetterOk l = (c : ℕ) → l.to ≡ ToClient c → (f : PlainFrame) × (l.bytes ≡ spelling f) × IsForClient f.body

abbrev AllOk : List Letter → Type 0
AllOk [] = Unit {0}
AllOk (l ∷ ls) = LetterOk l × AllOk ls

append_ok : (xs ys : List Letter) → AllOk xs → AllOk ys → AllOk (xs ++ ys)
append_ok [] ys h k = k
append_ok (x ∷ xs) ys h k = (h.0, append_ok xs ys h.1 k)

ok_at : (ls : List Letter) (i : ℕ) (l : Letter) → AllOk ls → slice_get ls i ≡ Some l → LetterOk l
ok_at [] i l h e = absurd (cc e)
ok_at (x ∷ ls) zero l h e = let same : x ≡ l = cc e in subst LetterOk same h.0
ok_at (x ∷ ls) (suc i) l h e = ok_at ls i l h.1 e

to_client : (c : ℕ) (f : PlainFrame) → IsForClient f.body → LetterOk (letter (ToClient c) (spelling f))
to_client c f ok d e = (f, refl, ok)

abbrev NotClient : Addressee → Type 0
NotClient (ToClient c) = ⊥
NotClient to = Unit {0}

elsewhere : (to : Addressee) (bytes : List ℕ) → NotClient to → LetterOk (letter to bytes)
elsewhere to bytes away c e = absurd (subst NotClient e away)

answers_ok : (answer : leader.Answer) → AnswerOk answer → AllOk (frames.answer_letters answer)
unfolding AnswerOk
answers_ok (leader.Reply reply) ok = (to_client reply.lane reply ok, tt)
answers_ok (leader.Link n command) ok = (elsewhere ToHelperLink (spelling command) tt, tt)
answers_ok (leader.StillWaiting n) ok = tt

acks_ok : (ack : leader.Ack) → AckOk ack → AllOk (frames.ack_letters ack)
unfolding AckOk
acks_ok (leader.ToLane lane reply) ok = (to_client lane reply ok, tt)
acks_ok (leader.Settles n command) ok = (elsewhere ToHelperLink (spelling command) tt, tt)
acks_ok leader.Ignored ok = tt

-- ---- every move

abbrev Good : FrameWorld → Type 0
Good f = RowsKeep f.leader.rows × AllOk f.pool

-- a world with this leader and pool
abbrev Like : FrameWorld → FrameWorld → Type 0
Like f g = (g.leader ≡ f.leader) × (g.pool ≡ f.pool)

like : (f g : FrameWorld) → Like f g → Good f → Good g
like f g e h = (subst (λ (a : Leader). RowsKeep a.rows) (sym e.0) h.0, subst AllOk (sym e.1) h.1)

by_answer : (f : FrameWorld) (c : ℕ) (rest : List Request) (next : FrameWorld) → Like f next
    → (a : Result Client Fault) → Like f (frames.was_asked f c rest next a)
unfolding frames.was_asked
by_answer f c rest next same (Ok k) = (refl, refl)
by_answer f c rest next same (Err (client.NoBox own)) = same
by_answer f c rest next same (Err client.Busy) = (refl, refl)
by_answer f c rest next same (Err client.Spent) = (refl, refl)
by_answer f c rest next same (Err (client.Width width)) = (refl, refl)
by_answer f c rest next same (Err (client.OwnFull capacity)) = (refl, refl)

goes : (f : FrameWorld) (c : ℕ) (rs : List Request) → Like f (frames.goes_on f c rs)
unfolding frames.goes_on
goes f c [] = (refl, refl)
goes f c (r ∷ rest) =
    let refused = frames.notes f c (NoOwnBox (own_of r)) in
    by_answer f c rest (frames.goes_on refused c rest) (goes refused c rest) (asked (f.clients c) r)

goes_after : (f : FrameWorld) (c : ℕ) (p : Progress) → Like f (frames.goes_on_after f c p)
unfolding frames.goes_on_after
goes_after f c (Finished outcome) = goes (frames.notes f c (Ended outcome)) c (f.waiting c)
goes_after f c client.Ignored = (refl, refl)
goes_after f c (client.Later refusal) = (refl, refl)
goes_after f c client.Next = (refl, refl)

helper_answered : (f : FrameWorld) (command : Option PlainFrame) (answer : helper.Answer) → Good f → Good (frames.helper_answers f command answer)
unfolding frames.helper_answers
helper_answered f command (helper.Carried reply) h = (h.0, append_ok f.pool _ h.1 (elsewhere ToLeaderLink (spelling reply) tt, tt))
helper_answered f command (helper.Repeated bytes) h = (h.0, append_ok f.pool _ h.1 (elsewhere ToLeaderLink bytes tt, tt))
helper_answered f command helper.Ignored h = h

comes_good : (f : FrameWorld) (to : Addressee) (bytes : List ℕ) → Good f → Good (frames.comes f to bytes)
unfolding frames.comes
comes_good f (ToClient c) bytes h =
    let turn = on_reply (f.clients c) bytes in
    like (frames.with_client f c turn.client) (frames.goes_on_after (frames.with_client f c turn.client) c turn.progress) (goes_after (frames.with_client f c turn.client) c turn.progress) h
comes_good f ToLeader bytes h =
    (client_keeps f.leader bytes h.0, append_ok f.pool _ h.1 (answers_ok (steps.on_client f.leader bytes).answer (client_ok f.leader bytes h.0)))
comes_good f ToHelper bytes h =
    let turn = at_helper.client_turn f.helper.server bytes in
    (h.0, append_ok f.pool _ h.1 (to_client turn.reply.lane turn.reply (helper_ok f.helper.server bytes), tt))
comes_good f ToLeaderLink bytes h =
    let kept = reply_keeps f.leader bytes h.0 in
    (kept.1, append_ok f.pool _ h.1 (acks_ok (replies.on_reply_bytes f.leader bytes).ack kept.0))
comes_good f ToHelperLink bytes h =
    let turn = on_link_bytes f.helper bytes in
    helper_answered (record f { helper = turn.helper }) (linked is_command f.helper.server.settings.width bytes) turn.answer h

delivers_good : (f : FrameWorld) (l : Option Letter) → Good f → Good (frames.delivers f l)
unfolding frames.delivers
delivers_good f (Some l) h = comes_good f l.to l.bytes h
delivers_good f None h = h

sent_ok : (sent : Option Sent) → AllOk (frames.sent_letters sent)
sent_ok (Some sent) = (
  cond_both {A = Addressee} (nat_eq sent.server 0) ToLeader ToHelper (λ to. LetterOk (letter to (spelling sent.frame)))
      (λ e. elsewhere ToLeader (spelling sent.frame) tt) (λ e. elsewhere ToHelper (spelling sent.frame) tt),
  tt,
)
sent_ok None = tt

resent_ok : (command : Option PlainFrame) → AllOk (frames.command_letters command)
resent_ok (Some command) = (elsewhere ToHelperLink (spelling command) tt, tt)
resent_ok None = tt

sends_good : (f : FrameWorld) (c : ℕ) → Good f → Good (frames.client_sends f c)
unfolding frames.client_sends
sends_good f c h = (h.0, append_ok f.pool _ h.1 (sent_ok (sends (f.clients c))))

ticks_good : (f : FrameWorld) → Good f → Good (frames.ticks f)
unfolding frames.ticks
ticks_good f h = (h.0, append_ok f.pool _ h.1 (resent_ok (replies.resent f.leader)))

shows_good : (f : FrameWorld) (n : ℕ) (l : Option Letter) → Good f → Good (frames.shows f n l)
unfolding frames.shows
shows_good f n (Some l) h = h
shows_good f n None h = h

asks_good : (f : FrameWorld) (c : ℕ) (r : Request) → Good f → Good (frames.asks f c r)
asks_good f c r h = cond_both {A = FrameWorld} (is_none (f.clients c).current) _ _ Good (λ e. like f (frames.goes_on f c (f.waiting c ++ r ∷ [])) (goes f c (f.waiting c ++ r ∷ [])) h) (λ e. h)

injects_good : (f : FrameWorld) (to_leader : Bool) (bytes : List ℕ) → Good f → Good (frames.happens f (Inject to_leader bytes))
unfolding frames.happens
injects_good f true bytes h = (h.0, append_ok f.pool _ h.1 (elsewhere ToLeader bytes tt, tt))
injects_good f false bytes h = (h.0, append_ok f.pool _ h.1 (elsewhere ToHelper bytes tt, tt))

moves : Moves Good
moves = record {
  ask = asks_good;
  send = sends_good;
  tick = ticks_good;
  deliver = λ f l at h. delivers_good f l h;
  show = shows_good;
  inject = injects_good;
}

none_kept : (n c : ℕ) → Kept (slice_index_or (replicate n idle) c idle).stage
none_kept zero c = tt
none_kept (suc n) zero = tt
none_kept (suc n) (suc c) = none_kept n c

pub clients_get_answers : ClientsGetAnswers
unfolding run_of leader.opened_leader
clients_get_answers schedule i c l at is =
    let settings = schedule.header.settings in
    let start : Good (opened settings schedule.header.seed) = (none_kept settings.lanes, tt) in
    ok_at _ i l (run_keeps Good moves (opened settings schedule.header.seed) (events_in schedule.events) start).1 at c is
