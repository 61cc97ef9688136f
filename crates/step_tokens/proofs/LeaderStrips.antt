use Rattle.std.specs.Prelude.{◌≡◌, ◌<◌, ◌≤◌, ◌-◌, ◌^◌, ℕ, Bool, true, false, cond, nat_lt, nat_eq, nat_le, not, ◌&&◌, is_none, refl, List, length, Option, Some, None, slice_get, slice_set, slice_index_or}
use Rattle.std.proofs.Common.{sym, ap, ◌∙◌, arith}
use Rattle.std.proofs.lemmas.Bool.{eqb-true, eq-eqb, ltb-false, lt-leb, le-ltb, eqb-false, cases_order}
use Rattle.std.proofs.lemmas.List.{get_or-set_same}
use Rattle.express_words.specs.declared.audit.ProofShare.{ProofShare}
use Rattle.express_words.specs.declared.audit.Openings.{Openings}
use Rattle.express_words.specs.declared.audit.Closing.{Closing}
use Rattle.express_words.specs.declared.refusal.Refusal.{Refusal}
use Rattle.express_words.specs.declared.refusal.Refusal.TheVariants as refusal
use Rattle.frame_rules.specs.Frames as frame
use Rattle.frame_rules.specs.Frames.{PlainFrame, PlainBody}
use Rattle.dpf_rules.specs.Expansion as expansion
use Rattle.mailbox_rules.specs.Requests.{Command, Registers, Begins, Audits, Settles, Reads, Retires}
use Rattle.token_rules.specs.Tokens as token
use Rattle.token_rules.specs.Rows.{LeaderSays, LeaderNothing, LeaderLater, LeaderKept, LeaderIssues, LeaderStep, leader_step, repeat_says, submission_step, leader_proof_at, leader_proof_step, reply_step}
use Rattle.lane_table.specs.Gates.{opening_gate, closing_gate, same_want}
use Rattle.lane_table.specs.declared.row.Want.{Want}
use Rattle.lane_table.specs.declared.row.Want.TheVariants.{Nothing, Register, Write, Read}
use Rattle.lane_table.specs.declared.gate.Gate.{Gate}
use Rattle.lane_table.specs.declared.gate.Gate.TheVariants.{New, Same, Stale, Phase}
use Rattle.step_rules.specs.Boxes.{Box, place_of}
use Rattle.audit_rules.specs.Values.{accepts, Write as Begun}
use Rattle.step_rules.specs.Leader.{refuses, Leader, Row, Asked, Registering, Writing, Reading, Retiring, Stage, Idle, Waiting, Challenged, Auditing, Settling, Done, row, row_at, idle, door, phase_of, want_in, want_of, Turn, AckTurn}
use Rattle.step_rules.specs.LeaderClients.{oldest, Named, issued_for, if_token, if_named, if_room, new_at, again_at, submission_at, on_submission, proof_in, proof_at, on_proof, audits}
use Rattle.step_rules.specs.LeaderReplies.{registered, began, audited, accepted, rejected, read, by_command, registered_in, if_registered, if_begun, if_audited, if_settled, if_read, fits, want_for}
use Rattle.step_tokens.specs.Commands.{command_of}
use Rattle.step_tokens.specs.LeaderRows.{bare, bare_phase, bare_turn, bare_body, bare_refusal, bare_asked, bare_ack_turn, is_full, KeepsAnswer, IsOver, IsTaken, HasRoom, IsSubmission, TakesProof, EndsRequest, SubmissionsStrip, ProofsStrip, RepliesStrip, RefusalsStrip}

-- the row that was set, with what is said
set_at : (rows : List Row) (i : ℕ) (r : Row) (says : LeaderSays) → i < length rows → leader_step (bare (slice_index_or (slice_set rows i r) i idle)) says ≡ leader_step (bare r) says
set_at rows i r says h = ap (λ r. leader_step (bare r) says) (get_or-set_same rows i r idle h)

-- ---- replies

by_some : (b : Bool) (x turn : AckTurn) (lane : ℕ) (s : LeaderStep) → cond b (Some x) None ≡ Some turn → bare_ack_turn lane x ≡ s → bare_ack_turn lane turn ≡ s
by_some true x turn lane s e h = let same : x ≡ turn = cc in ap (bare_ack_turn lane) (sym same) ∙ h
by_some false x turn lane s e h = absurd (cc e)

by_none : (b : Bool) (x turn : AckTurn) (lane : ℕ) (s : LeaderStep) → cond b None (Some x) ≡ Some turn → bare_ack_turn lane x ≡ s → bare_ack_turn lane turn ≡ s
by_none true x turn lane s e h = absurd (cc e)
by_none false x turn lane s e h = let same : x ≡ turn = cc in ap (bare_ack_turn lane) (sym same) ∙ h

module _ (a : Leader) (c : PlainFrame) (turn : AckTurn) (inside : c.lane < length a.rows) where
  registers : (address : ℕ) (stage : Stage) (n : ℕ) → registered a c address stage n ≡ Some turn → bare_ack_turn c.lane turn ≡ reply_step c.serial Registers
  unfolding registered reply_step
  registers address (Waiting number (Registering own key)) n e =
      by_some ((nat_eq n (length a.boxes)) && (is_none (place_of address a.boxes) && not (nat_le a.settings.boxes (length a.boxes)))) _ turn c.lane _ e
      (set_at a.rows c.lane (row c.serial (Done Register (frame.Registered n))) LeaderKept inside)
  registers address stage n e = absurd (cc e)

  begins : (stage : Stage) (count : ℕ) (drawn : List ℕ) → began a c stage count drawn ≡ Some turn → bare_ack_turn c.lane turn ≡ reply_step c.serial Begins
  unfolding began reply_step
  begins (Waiting number (Writing root part own)) count drawn e = by_some (nat_eq count (length a.boxes)) _ turn c.lane _ e (set_at a.rows c.lane _ LeaderKept inside)
  begins stage count drawn e = absurd (cc e)

  accepts_it : (stage : Stage) → accepted a c stage ≡ Some turn → bare_ack_turn c.lane turn ≡ reply_step c.serial Settles
  unfolding accepted reply_step
  accepts_it (Settling number w own other) e = by_some (accepts own other) _ turn c.lane _ e (set_at a.rows c.lane _ LeaderKept inside)
  accepts_it stage e = absurd (cc e)

  rejects_it : (stage : Stage) → rejected a c stage ≡ Some turn → bare_ack_turn c.lane turn ≡ reply_step c.serial Settles
  unfolding rejected reply_step
  rejects_it (Settling number w own other) e = by_none (accepts own other) _ turn c.lane _ e (set_at a.rows c.lane _ LeaderKept inside)
  rejects_it stage e = absurd (cc e)

  audits_it : (stage : Stage) (opened : Openings) (closed : Closing) → audited a c stage opened closed ≡ Some turn → bare_ack_turn c.lane turn ≡ reply_step c.serial Audits
  unfolding audited reply_step
  audits_it (Auditing number w share sigma own) opened closed e = by_some true _ turn c.lane _ e (set_at a.rows c.lane _ (LeaderIssues Settles) inside)
  audits_it stage opened closed e = absurd (cc e)

  reads_it : (stays : Bool) (number : ℕ) (found : Option Box) (share : List ℕ) (command : Command) → reply_step c.serial command ≡ leader_step (token.row c.serial token.Done) LeaderKept →
      read a c stays number found share ≡ Some turn → bare_ack_turn c.lane turn ≡ reply_step c.serial command
  unfolding read
  reads_it stays number None share command same e = absurd (cc e)
  reads_it stays number (Some box) share command same e = by_some true _ turn c.lane _ e (set_at a.rows c.lane _ LeaderKept inside) ∙ sym same

  if_registers : (address : ℕ) (stage : Stage) (found : Option ℕ) → if_registered a c address stage found ≡ Some turn → bare_ack_turn c.lane turn ≡ reply_step c.serial Registers
  if_registers address stage (Some n) e = registers address stage n e
  if_registers address stage None e = absurd (cc e)

  if_begins : (stage : Stage) (body : PlainBody) → if_begun a c stage body ≡ Some turn → bare_ack_turn c.lane turn ≡ reply_step c.serial Begins
  if_begins stage (frame.LinkBegun count drawn) e = begins stage count drawn e
  if_begins stage body e = absurd (cc e)

  if_audits : (stage : Stage) (body : PlainBody) → if_audited a c stage body ≡ Some turn → bare_ack_turn c.lane turn ≡ reply_step c.serial Audits
  if_audits stage (frame.LinkReply (frame.ReplyAudited opened closed)) e = audits_it stage opened closed e
  if_audits stage body e = absurd (cc e)

  if_settles : (stage : Stage) (body : PlainBody) → if_settled a c stage body ≡ Some turn → bare_ack_turn c.lane turn ≡ reply_step c.serial Settles
  if_settles stage (frame.LinkReply frame.ReplyAccepted) e = accepts_it stage e
  if_settles stage (frame.LinkReply frame.ReplyRejected) e = rejects_it stage e
  if_settles stage body e = absurd (cc e)

  if_reads : (stays : Bool) (number : ℕ) (body : PlainBody) (command : Command) → reply_step c.serial command ≡ leader_step (token.row c.serial token.Done) LeaderKept →
      if_read a c stays number body ≡ Some turn → bare_ack_turn c.lane turn ≡ reply_step c.serial command
  if_reads stays number (frame.LinkReply (frame.ReplyMasked share)) command same e = reads_it stays number (slice_get a.boxes number) share command same e
  if_reads stays number body command same e = absurd (cc e)

pub replies : RepliesStrip
unfolding by_command reply_step
replies a c (frame.LinkRegister address) stage body turn i e = if_registers a c turn i address stage (registered_in body) e
replies a c (frame.LinkBegin drawn part) stage body turn i e = if_begins a c turn i stage body e
replies a c (frame.LinkAudit sigma opened) stage body turn i e = if_audits a c turn i stage body e
replies a c (frame.LinkSettle own) stage body turn i e = if_settles a c turn i stage body e
replies a c (frame.LinkRead number) stage body turn i e = if_reads a c turn i true number body Reads refl e
replies a c (frame.LinkRetire number) stage body turn i e = if_reads a c turn i false number body Retires refl e
replies a c command stage body turn i e = absurd (cc e)

-- a request that ends is done
done_for : (serial : ℕ) (command : PlainBody) → EndsRequest command → reply_step serial (command_of command) ≡ leader_step (token.row serial token.Done) LeaderKept
unfolding reply_step
done_for serial (frame.LinkBegin drawn part) h = absurd h
done_for serial (frame.LinkAudit sigma opened) h = absurd h
done_for serial (frame.LinkRegister address) h = refl
done_for serial (frame.LinkSettle own) h = refl
done_for serial (frame.LinkRetire number) h = refl
done_for serial command h = refl

pub refusals : RefusalsStrip
unfolding fits
refusals a c body r turn i ends kept e =
    by_some true _ turn c.lane _ e
    (set_at a.rows c.lane (row c.serial (Done (want_for c.body) (frame.Refused r))) (bare_refusal r) i ∙ ap (leader_step (token.row c.serial token.Done)) kept)
    ∙ sym (done_for c.serial c.body ends)

-- ---- frames of clients

-- the lane is there
lane_there : (lanes lane : ℕ) → lane < lanes → nat_le lanes lane ≡ false
lane_there lanes lane h = lt-leb lanes lane h

-- the row that is there, with what is said
stays_at : (a : Leader) (lane : ℕ) (says : LeaderSays) (stage : Stage) → (row_at a lane).stage ≡ stage → leader_step (bare (row_at a lane)) says ≡ leader_step (token.row (row_at a lane).serial (bare_phase stage)) says
stays_at a lane says stage e = ap (λ s. leader_step (token.row (row_at a lane).serial (bare_phase s)) says) e

-- room on the link: the command is issued, or the client comes again
room : (a : Leader) (f : PlainFrame) (issued : Turn) (step : LeaderStep) → a.next ≤ 2 ^ 64 - 65 → bare_turn f.lane issued ≡ step →
    bare_turn f.lane (if_room a f issued) ≡ cond (is_full a) (leader_step (bare (row_at a f.lane)) LeaderLater) step
room a f issued step h e = rw (le-ltb (2 ^ 64 - 65) a.next h) (either (is_full a))
  where
    either : (full : Bool) → bare_turn f.lane (cond full (refuses a f (refusal.Again (oldest a))) issued) ≡ cond full (leader_step (bare (row_at a f.lane)) LeaderLater) step
    either true = refl
    either false = e

issues_it : (a : Leader) (f : PlainFrame) (asked : Asked) → f.lane < length a.rows → bare_turn f.lane (issued_for a f asked) ≡ leader_step (token.row f.serial token.Waiting) (LeaderIssues (bare_asked asked))
unfolding issued_for
issues_it a f (Registering address key) i = set_at a.rows f.lane _ (LeaderIssues Registers) i
issues_it a f (Writing root part drawn) i = set_at a.rows f.lane _ (LeaderIssues Begins) i
issues_it a f (Reading number) i = set_at a.rows f.lane _ (LeaderIssues Reads) i
issues_it a f (Retiring number) i = set_at a.rows f.lane _ (LeaderIssues Retires) i

named_there : (a : Leader) (f : PlainFrame) (named : Option Named) (issued : Turn) → IsTaken a f named → if_named a f named issued ≡ issued
unfolding if_named if_token
named_there a f None issued h = refl
named_there a f (Some n) issued h = rw (h.1, eq-eqb n.held (expansion.token h.0.key f.lane f.serial) h.2) refl

new_there : (a : Leader) (f : PlainFrame) (asked : Asked) (named : Option Named) (stage : Stage) → IsOver stage → IsTaken a f named → a.next ≤ 2 ^ 64 - 65 → f.lane < length a.rows →
    bare_turn f.lane (new_at a f asked named stage) ≡ cond (is_full a) (leader_step (bare (row_at a f.lane)) LeaderLater) (leader_step (token.row f.serial token.Waiting) (LeaderIssues (bare_asked asked)))
unfolding new_at
new_there a f asked named (Waiting number other) over h n i = absurd over
new_there a f asked named (Auditing number w share sigma opened) over h n i = absurd over
new_there a f asked named (Settling number w own other) over h n i = absurd over
new_there a f asked named stage over h n i = ap (bare_turn f.lane) (named_there a f named _ h) ∙ room a f (issued_for a f asked) _ n (issues_it a f asked i)

asks_something : (asked : Asked) → same_want (want_in asked) Nothing ≡ true → ⊥
asks_something (Registering address key) e = cc e
asks_something (Writing root part drawn) e = cc e
asks_something (Reading number) e = cc e
asks_something (Retiring number) e = cc e

again_there : (a : Leader) (f : PlainFrame) (asked : Asked) (r : Row) (stage : Stage) → KeepsAnswer stage → same_want (want_in asked) (want_of stage) ≡ true →
    bare_turn f.lane (again_at a f stage) ≡ leader_step (bare (row_at a f.lane)) (repeat_says (bare_phase stage))
unfolding again_at
again_there a f asked r Idle keeps same = absurd (asks_something asked same)
again_there a f asked r (Waiting number other) keeps same = refl
again_there a f asked r (Auditing number w share sigma opened) keeps same = refl
again_there a f asked r (Settling number w own other) keeps same = refl
again_there a f asked r (Challenged w kept) keeps same = ap (leader_step (bare (row_at a f.lane))) keeps
again_there a f asked r (Done want kept) keeps same = ap (leader_step (bare (row_at a f.lane))) keeps

-- what a submission comes to, by its gate
submission_cases : (a : Leader) (f : PlainFrame) (asked : Asked) (named : Option Named) (less same wants : Bool) (again new : LeaderStep) → (same ≡ true → wants ≡ true) →
    (wants ≡ true → bare_turn f.lane (again_at a f (row_at a f.lane).stage) ≡ again) →
    (less ≡ false → same ≡ false → bare_turn f.lane (new_at a f asked named (row_at a f.lane).stage) ≡ new) →
    bare_turn f.lane (submission_at a f asked named (cond less (Stale (row_at a f.lane).serial) (cond same (cond wants Same (Phase (phase_of (row_at a f.lane).stage))) New)))
    ≡ cond less (leader_step (bare (row_at a f.lane)) LeaderLater) (cond same again new)
unfolding submission_at
submission_cases a f asked named true same wants again new h p q = refl
submission_cases a f asked named false true true again new h p q = p refl
submission_cases a f asked named false true false again new h p q = absurd (cc (h refl))
submission_cases a f asked named false false wants again new h p q = q refl refl

newer : (serial before : ℕ) → nat_lt serial before ≡ false → nat_eq serial before ≡ false → before < serial
newer serial before p q =
    let le : before ≤ serial = ltb-false serial before p in
    let ne : serial ≡ before → ⊥ = eqb-false serial before q in
    omega arith

pub submissions : SubmissionsStrip
unfolding on_submission opening_gate submission_step
submissions a f asked named s =
    let r = row_at a f.lane in
    rw (lane_there a.settings.lanes f.lane s.room.lane)
    (submission_cases a f asked named (nat_lt f.serial r.serial) (nat_eq f.serial r.serial) (same_want (want_in asked) (want_of r.stage)) _ _
    (λ e. s.one (eqb-true f.serial r.serial e))
    (λ e. again_there a f asked r r.stage s.room.keeps e)
    (λ p q. new_there a f asked named r.stage (s.over (newer f.serial r.serial p q)) s.taken s.room.numbers s.room.row))

-- ---- proofs

takes_write : (stage : Stage) → TakesProof stage → same_want Write (want_of stage) ≡ true
takes_write (Challenged w kept) h = refl
takes_write (Auditing number w share sigma opened) h = refl
takes_write (Settling number w own other) h = refl
takes_write (Done want kept) h = h
takes_write Idle h = absurd h
takes_write (Waiting number asked) h = absurd h

audits_there : (a : Leader) (f : PlainFrame) (w : Begun) (share : ProofShare) → HasRoom a f → f.serial ≡ (row_at a f.lane).serial →
    bare_turn f.lane (if_room a f (audits a f w share)) ≡ leader_proof_at (is_full a) token.Challenged (bare (row_at a f.lane))
unfolding leader_proof_at
audits_there a f w share has e =
    room a f (audits a f w share) (leader_step (token.row (row_at a f.lane).serial token.Auditing) (LeaderIssues Audits)) has.numbers
    (set_at a.rows f.lane _ (LeaderIssues Audits) has.row ∙ ap (λ n. leader_step (token.row n token.Auditing) (LeaderIssues Audits)) e)

proof_there : (a : Leader) (f : PlainFrame) (share : ProofShare) (stage : Stage) → HasRoom a f → KeepsAnswer stage → f.serial ≡ (row_at a f.lane).serial → TakesProof stage →
    bare_turn f.lane (proof_in a f share stage) ≡ leader_proof_at (is_full a) (bare_phase stage) (bare (row_at a f.lane))
unfolding proof_in leader_proof_at
proof_there a f share Idle has keeps e h = absurd h
proof_there a f share (Waiting number asked) has keeps e h = absurd h
proof_there a f share (Auditing number w before sigma opened) has keeps e h = refl
proof_there a f share (Settling number w own other) has keeps e h = refl
proof_there a f share (Done want kept) has keeps e h = ap (leader_step (bare (row_at a f.lane))) keeps
proof_there a f share (Challenged w kept) has keeps e h = audits_there a f w share has e

proof_cases : (a : Leader) (f : PlainFrame) (share : ProofShare) (same wants : Bool) (there : LeaderStep) → (same ≡ true → wants ≡ true) →
    (same ≡ true → bare_turn f.lane (proof_in a f share (row_at a f.lane).stage) ≡ there) →
    bare_turn f.lane (proof_at a f share (cond same (cond wants Same (Phase (phase_of (row_at a f.lane).stage))) (Stale (row_at a f.lane).serial)))
    ≡ cond same there (leader_step (bare (row_at a f.lane)) LeaderLater)
unfolding proof_at
proof_cases a f share true true there h p = p refl
proof_cases a f share true false there h p = absurd (cc (h refl))
proof_cases a f share false wants there h p = refl

pub proofs : ProofsStrip
unfolding on_proof closing_gate leader_proof_step
proofs a f share has h =
    let r = row_at a f.lane in
    rw (lane_there a.settings.lanes f.lane has.lane)
    (proof_cases a f share (nat_eq f.serial r.serial) (same_want Write (want_of r.stage)) _
    (λ e. takes_write r.stage (h (eqb-true f.serial r.serial e)))
    (λ e. proof_there a f share r.stage has has.keeps (eqb-true f.serial r.serial e) (h (eqb-true f.serial r.serial e))))
