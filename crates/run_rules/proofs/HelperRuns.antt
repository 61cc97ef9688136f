-- Deposits and proofs come to the helper.
use Rattle.std.proofs.Common.{◌≡◌, ℕ, zero, suc, ◌<◌, ◌≤◌, ◌*◌, ◌^◌, ◌+◌, cond, nat_eq, nat_lt, nat_le, true, false, List, Ok, Some, refl, sym, ap, ◌∙◌, subst, arith, Bool}
use Rattle.std.proofs.lemmas.Bool.{eqb-true, false_from_ne_true, leb-true}
use Rattle.express_words.specs.declared.refusal.Refusal.TheVariants as refusal
use Rattle.express_words.specs.declared.audit.ProofShare.{ProofShare}
use Rattle.frame_rules.specs.declared.frame.DepositBody.{DepositBody}
use Rattle.frame_rules.specs.Frames as frame
use Rattle.frame_rules.specs.Frames.{PlainFrame, PlainBody}
use Rattle.frame_rules.specs.Spelling.{spelling, IsFrame}
use Rattle.token_rules.specs.Tokens as token
use Rattle.token_rules.specs.Tokens.{World, Lane, Phase, Oracle}
use Rattle.token_rules.specs.Rows.{HelperStep, HelperLater, HelperHeldDeposit, HelperHeldProof, deposit_step, helper_proof_step}
use Rattle.token_rules.specs.Run.{at_helper, comes}
use Rattle.token_rules.specs.Laws.{HelperTakesProof}
use Rattle.token_rules.specs.Stages.{Stage, Asked, Noted, Heard, Opening, Opened, Invited, Proving, Shown, Trusted, Checking, Checked, Settling, Settled, Served, Rested, Fits, far, rest}
use Rattle.token_rules.specs.Invariant.{Coherent, Claims, state}
use Rattle.lane_table.specs.Gates.{opening_gate, closing_gate, same_want}
use Rattle.lane_table.specs.declared.row.Want.{Want}
use Rattle.lane_table.specs.declared.row.Want.TheVariants.{Nothing, Register, Write, Read}
use Rattle.lane_table.specs.declared.gate.Gate.TheVariants.{New, Same, Stale, Phase as OutOfPhase}
use Rattle.frame_rules.specs.Whole.{whole}
use Rattle.step_rules.specs.Helper.{Helper, Server, Row, Idle, Deposited, Begun, Proved, Audited, Done, row, row_at, want_in, want_of, phase_of}
use Rattle.step_rules.specs.Helper as helper
use Rattle.step_rules.specs.HelperClients as steps
use Rattle.step_rules.specs.HelperClients.{RowTurn, deposit_row, proof_row, on_client, on_whole, by_kind, if_lane}
use Rattle.step_tokens.specs.HelperRows.{bare, bare_turn, bare_says, TakesProof}
use Rattle.step_tokens.proofs.HelperStrips.{deposits, proofs}
use Rattle.run_rules.specs.Letters.{Letter, ToHelper, FrameWorld}
use Rattle.run_rules.specs.Run as frames
use Rattle.run_rules.specs.Book.{Book, request_of, wants}
use Rattle.run_rules.specs.Values.{share_at}
use Rattle.run_rules.specs.Frames.{frame_with, frame_of, deposit_at, proof_at}
use Rattle.run_rules.specs.Follows.{Spelled, Carries, HelperHolds, HelperRow, HelperRowAt, Follows}
use Rattle.run_rules.proofs.Basics.{whole_spelled}
use Rattle.run_rules.proofs.Contents.{from_client_is, deposit_is, proof_is}
use Rattle.run_rules.proofs.HelperClients.{Said, helper_said, turn_follows}

-- ---- a frame with a lane is answered by its lane's row

pub lane_is_there : (h : Server) (f : PlainFrame) (t : RowTurn) → f.lane < h.settings.lanes
    → if_lane h f t ≡ steps.at_row h f t
unfolding if_lane
lane_is_there h f t low =
    let past : nat_le h.settings.lanes f.lane ≡ false = false_from_ne_true _ (λ e. let l = leb-true _ _ e in omega (arith, l)) in
    rw past refl

pub deposit_turn : (f : FrameWorld) (c s : ℕ) (held : DepositBody) (bytes : List ℕ)
    → c < f.helper.server.settings.lanes
    → whole bytes ≡ Ok (frame_with c s 0 (frame.Deposit held))
    → frames.comes f ToHelper bytes ≡ helper_said f c s (deposit_row (row_at f.helper.server c) s held)
unfolding frames.comes on_whole by_kind
deposit_turn f c s held bytes low e =
    let h = f.helper.server in
    let g = frame_with c s 0 (frame.Deposit held) in
    let turn = lane_is_there h g (deposit_row (row_at h c) s held) low in
    rw (e, turn) refl

proof_turn : (f : FrameWorld) (c s : ℕ) (share : ProofShare) (bytes : List ℕ)
    → c < f.helper.server.settings.lanes
    → whole bytes ≡ Ok (frame_with c s 0 (frame.Proof share))
    → frames.comes f ToHelper bytes ≡ helper_said f c s (proof_row (row_at f.helper.server c) s share)
unfolding frames.comes on_whole by_kind
proof_turn f c s share bytes low e =
    let h = f.helper.server in
    let g = frame_with c s 0 (frame.Proof share) in
    let turn = lane_is_there h g (proof_row (row_at h c) s share) low in
    rw (e, turn) refl

-- ---- answers

-- what is known of a frame that came
pub record Came (b : Book) (c s : ℕ) : Type 0 where
  pub there : c < b.settings.lanes
  pub lane : c < 2 ^ 16
  pub serial : s < 2 ^ 32
  pub first : 1 ≤ s

later_frame : (b : Book) (c s : ℕ) (n : ℕ) → Came b c s → n < 2 ^ 32
    → IsFrame (frame_with c s 0 (frame.Refused (refusal.Stale n)))
later_frame b c s n k low =
    record { lane = k.lane; serial = k.serial; addressed = k.first; link = omega arith; linked = refl; body = low }

said_stale : (b : Book) (c s n : ℕ) → Came b c s → n < 2 ^ 32
    → Said b c s (frame.Refused (refusal.Stale n)) HelperLater
said_stale b c s n k low =
    (record { refusal = refusal.Stale n; later = tt; spelled = record { at = refl; bytes = refl; is_frame = later_frame b c s n k low } }, tt)

held_frame : (b : Book) (c s : ℕ) (proof : Bool) → Came b c s → IsFrame (frame_with c s 0 (frame.Held proof))
held_frame b c s proof k =
    record { lane = k.lane; serial = k.serial; addressed = k.first; link = omega arith; linked = refl; body = tt }

said_deposit : (b : Book) (c s : ℕ) → Came b c s → Said b c s (frame.Held false) HelperHeldDeposit
unfolding frame_of
said_deposit b c s k =
    (record { lane = k.there; frame = frame_with c s 0 (frame.Held false); is = refl; spelled = record { at = refl; bytes = refl; is_frame = held_frame b c s false k } }, tt)

said_proof : (b : Book) (c s : ℕ) → Came b c s → Said b c s (frame.Held true) HelperHeldProof
unfolding frame_of
said_proof b c s k =
    (record { lane = k.there; frame = frame_with c s 0 (frame.Held true); is = refl; spelled = record { at = refl; bytes = refl; is_frame = held_frame b c s true k } }, tt)

-- a row's turn that keeps the relation
pub record Turns (b : Book) (c s : ℕ) (t : RowTurn) : Type 0 where
  pub row : HelperRow b c t.row (bare t.row)
  pub said : Said b c s t.body (bare_says t.body)

same_row : (b : Book) (c : ℕ) (r : Row) (x : token.Row) → HelperRow b c r x → HelperRow b c r (bare r)
same_row b c r x h = record { bare = refl; small = h.small; want = h.want; holds = h.holds }

pub same_wants : (x y : Want) → x ≡ y → same_want x y ≡ true
same_wants x y e = subst (λ y. same_want x y ≡ true) e (same x)
  where
    same : (x : Want) → same_want x x ≡ true
    same Nothing = refl
    same Register = refl
    same Write = refl
    same Read = refl

-- ---- deposits

deposit_cases : (b : Book) (c s : ℕ) (r : Row) (x : token.Row) (held : DepositBody) (less same wanted : Bool)
    → HelperRow b c r x → Came b c s
    → deposit_at b c s ≡ Some (frame.Deposit held) → want_in held ≡ wants (request_of b c s)
    → (same ≡ true → wanted ≡ true)
    → Turns b c s (steps.deposit_at r s held (cond less (Stale r.serial) (cond same (cond wanted Same (OutOfPhase (phase_of r.stage))) New)))
unfolding steps.deposit_at
deposit_cases b c s r x held true same wanted h k e q one =
    record { row = same_row b c r x h; said = said_stale b c s r.serial k h.small }
deposit_cases b c s r x held false true true h k e q one =
    record { row = same_row b c r x h; said = said_deposit b c s k }
deposit_cases b c s r x held false true false h k e q one = absurd (cc (one refl))
deposit_cases b c s r x held false false wanted h k e q one =
    record { row = record { bare = refl; small = k.serial; want = λ pos. q; holds = e }; said = said_deposit b c s k }

row_wants : (b : Book) (c s : ℕ) (r : Row) (x : token.Row) (held : DepositBody) → HelperRow b c r x
    → Came b c s → want_in held ≡ wants (request_of b c s)
    → s ≡ r.serial → same_want (want_in held) (want_of r.stage) ≡ true
row_wants b c s r x held h k q same =
    let first = k.first in
    same_wants (want_in held) (want_of r.stage) (q ∙ ap (λ n. wants (request_of b c n)) same ∙ sym (h.want (omega (arith, first, same))))

pub deposit_turns : (b : Book) (c s : ℕ) (r : Row) (x : token.Row) (held : DepositBody) → HelperRow b c r x
    → Came b c s
    → deposit_at b c s ≡ Some (frame.Deposit held) → want_in held ≡ wants (request_of b c s)
    → Turns b c s (deposit_row r s held)
unfolding deposit_row opening_gate
deposit_turns b c s r x held h k e q =
    deposit_cases b c s r x held (nat_lt s r.serial) (nat_eq s r.serial) (same_want (want_in held) (want_of r.stage)) h k e q
    (λ t. row_wants b c s r x held h k q (eqb-true s r.serial t))

came_deposit : (b : Book) (c s : ℕ) (held : DepositBody) → c < b.settings.lanes
    → IsFrame (frame_with c s 0 (frame.Deposit held)) → Came b c s
came_deposit b c s held low h = record { there = low; lane = h.lane; serial = h.serial; first = h.addressed }

came_proof : (b : Book) (c s : ℕ) (share : ProofShare) → c < b.settings.lanes
    → IsFrame (frame_with c s 0 (frame.Proof share)) → Came b c s
came_proof b c s share low h = record { there = low; lane = h.lane; serial = h.serial; first = h.addressed }

pub row_of : (b : Book) (f : FrameWorld) (w : World) (c : ℕ) → Follows b f w → b.foreign c ≡ false
    → c < b.settings.lanes
    → HelperRow b c (row_at f.helper.server c) (w.lanes c).helper
row_of b f w c h hon low =
    subst (λ x. HelperRowAt b c x (row_at f.helper.server c) (w.lanes c).helper) hon (h.helper.rows c low)

-- a turn of the row is the token run's step
turned : (b : Book) (f : FrameWorld) (w : World) (c s : ℕ) (t : RowTurn) (step : HelperStep)
    → Follows b f w → b.foreign c ≡ false → c < b.settings.lanes → Turns b c s t → bare_turn t ≡ step
    → Follows b (helper_said f c s t) (at_helper w c s step)
turned b f w c s t step h hon low k e =
    subst (λ x. Follows b (helper_said f c s t) (at_helper w c s x)) e (turn_follows b f w c s t (bare_turn t) h hon low k.row k.said)

-- the frame of a letter comes
arrives : (f : FrameWorld) (l : Letter) (g : PlainFrame) (v : FrameWorld) → Spelled l ToHelper g
    → frames.comes f ToHelper (spelling g) ≡ v
    → v ≡ frames.comes f l.to l.bytes
arrives f l g v h e =
    sym e ∙ ap (λ bytes. frames.comes f ToHelper bytes) (sym h.bytes) ∙ ap (λ to. frames.comes f to l.bytes) (sym h.at)

deposit_runs : (b : Book) (f : FrameWorld) (w : World) (c s : ℕ) (held : DepositBody) (l : Letter)
    → Follows b f w → b.foreign c ≡ false → c < b.settings.lanes
    → Spelled l ToHelper (frame_with c s 0 (frame.Deposit held))
    → deposit_at b c s ≡ Some (frame.Deposit held) → want_in held ≡ wants (request_of b c s)
    → Follows b (frames.comes f l.to l.bytes) (at_helper w c s (deposit_step s (w.lanes c).helper))
deposit_runs b f w c s held l h hon low k e q =
    let r = row_at f.helper.server c in
    let hr = row_of b f w c h hon low in
    let t = deposit_row r s held in
    let came = came_deposit b c s held low k.is_frame in
    let step : bare_turn t ≡ deposit_step s (w.lanes c).helper =
    deposits r s held (row_wants b c s r (w.lanes c).helper held hr came q) ∙ ap (deposit_step s) hr.bare in
    let there : c < f.helper.server.settings.lanes = let is = h.helper.settings in rw is low in
    let moved = deposit_turn f c s held _ there (whole_spelled _ k.is_frame) in
    subst (λ v. Follows b v (at_helper w c s (deposit_step s (w.lanes c).helper))) (arrives f l _ _ k moved)
    (turned b f w c s t _ h hon low (deposit_turns b c s r (w.lanes c).helper held hr came e q) step)

pub deposit_comes : (b : Book) (o : Oracle) (f : FrameWorld) (w : World) (c s : ℕ) (l : Letter)
    → Follows b f w → b.foreign c ≡ false → Carries b (token.Deposit c s) l
    → Follows b (frames.comes f l.to l.bytes) (comes o w (token.Deposit c s))
unfolding comes frame_of
deposit_comes b o f w c s l h hon k =
    let m = from_client_is c s (deposit_at b c s) k.frame k.is in
    let d = deposit_is b c s m.body m.is in
    let g : k.frame ≡ frame_with c s 0 (frame.Deposit d.held) = sym m.frame ∙ ap (frame_with c s 0) (sym d.is) in
    deposit_runs b f w c s d.held l h hon k.lane (subst (Spelled l ToHelper) g k.spelled) (m.is ∙ ap Some (sym d.is)) d.want

-- ---- proofs

-- A proof of the row's serial finds its write begun.

rests : (n : ℕ) → 0 < n → HelperTakesProof (rest n)
rests zero h = absurd (omega arith)
rests (suc n) h = tt

takes_at : (lane : Lane) (x : Stage) (s : ℕ) → Fits lane x → 32 * s + 7 ≤ far lane x → s ≡ lane.helper.serial
    → 0 < s → HelperTakesProof lane.helper.phase
takes_at lane Asked s f l e first =
    let d = f.helper_serial in rw f.helper_phase (rests _ (omega (arith, d, e, first)))
takes_at lane Rested s f l e first =
    let d = f.helper_serial in rw f.helper_phase (rests _ (omega (arith, d, e, first)))
takes_at lane Noted s f l e first = let d = f.helper_serial in absurd (omega (arith, d, e, l))
takes_at lane Heard s f l e first = let d = f.helper_serial in absurd (omega (arith, d, e, l))
takes_at lane Opening s f l e first = let d = f.helper_serial in absurd (omega (arith, d, e, l))
takes_at lane Opened s f l e first = let d = f.helper_serial in absurd (omega (arith, d, e, l))
takes_at lane Invited s f l e first = rw f.helper_phase tt
takes_at lane Proving s f l e first = rw f.helper_phase tt
takes_at lane Shown s f l e first = rw f.helper_phase tt
takes_at lane Trusted s f l e first = rw f.helper_phase tt
takes_at lane Checking s f l e first = rw f.helper_phase tt
takes_at lane Checked s f l e first = rw f.helper_phase tt
takes_at lane Settling s f l e first = rw f.helper_phase tt
takes_at lane Settled s f l e first = rw f.helper_phase tt
takes_at lane Served s f l e first = rw f.helper_phase tt

-- so its row with what it holds takes the proof
stage_takes : (r : Row) (want : Want) → want ≡ Write → (want_of r.stage ≡ want)
    → HelperTakesProof (bare r).phase → TakesProof r.stage
stage_takes r want e q h = at_stage r.stage (q ∙ e) h
  where
    at_stage : (x : helper.Stage) → want_of x ≡ Write → HelperTakesProof (bare (row r.serial x)).phase
        → TakesProof x
    at_stage (Begun write) q h = tt
    at_stage (Proved write share) q h = tt
    at_stage (Audited write own) q h = tt
    at_stage (Done want) q h = same_wants Write want (sym q)
    at_stage Idle q h = absurd h
    at_stage (Deposited held) q h = absurd h

proof_in : (b : Book) (c s : ℕ) (r : Row) (x : token.Row) (share : ProofShare) (stage : helper.Stage)
    → r.stage ≡ stage → HelperRow b c r x → Came b c s
    → share ≡ share_at b 1 c s → s ≡ r.serial → TakesProof stage → Turns b c s (steps.proof_in r share stage)
unfolding steps.proof_in
proof_in b c s r x share (Begun write) is h k q same l =
    let held : HelperHolds b c r.serial (Begun write) = subst (HelperHolds b c r.serial) is h.holds in
    record {
      row = record { bare = refl; small = h.small; want = λ pos. sym (ap want_of is) ∙ h.want pos; holds = (held, q ∙ ap (share_at b 1 c) same) };
      said = said_proof b c s k;
    }
proof_in b c s r x share (Proved write before) is h k q same l =
    record { row = same_row b c r x h; said = said_proof b c s k }
proof_in b c s r x share (Audited write own) is h k q same l =
    record { row = same_row b c r x h; said = said_proof b c s k }
proof_in b c s r x share (Done want) is h k q same l =
    record { row = same_row b c r x h; said = said_proof b c s k }
proof_in b c s r x share Idle is h k q same l = absurd l
proof_in b c s r x share (Deposited held) is h k q same l = absurd l

proof_cases : (b : Book) (c s : ℕ) (r : Row) (x : token.Row) (share : ProofShare) (same wanted : Bool)
    → HelperRow b c r x → Came b c s
    → share ≡ share_at b 1 c s → (same ≡ true → s ≡ r.serial) → (same ≡ true → TakesProof r.stage)
    → (same ≡ true → wanted ≡ true)
    → Turns b c s (steps.proof_at r share (cond same (cond wanted Same (OutOfPhase (phase_of r.stage))) (Stale r.serial)))
unfolding steps.proof_at
proof_cases b c s r x share false wanted h k q same l m =
    record { row = same_row b c r x h; said = said_stale b c s r.serial k h.small }
proof_cases b c s r x share true true h k q same l m =
    proof_in b c s r x share r.stage refl h k q (same refl) (l refl)
proof_cases b c s r x share true false h k q same l m = absurd (cc (m refl))

proof_turns : (b : Book) (c s : ℕ) (r : Row) (x : token.Row) (share : ProofShare) → HelperRow b c r x
    → Came b c s → share ≡ share_at b 1 c s
    → (s ≡ r.serial → TakesProof r.stage) → (s ≡ r.serial → want_of r.stage ≡ Write)
    → Turns b c s (proof_row r s share)
unfolding proof_row closing_gate
proof_turns b c s r x share h k q l m =
    proof_cases b c s r x share (nat_eq s r.serial) (same_want Write (want_of r.stage)) h k q (λ t. eqb-true s r.serial t)
    (λ t. l (eqb-true s r.serial t)) (λ t. same_wants Write (want_of r.stage) (sym (m (eqb-true s r.serial t))))

proof_runs : (b : Book) (f : FrameWorld) (w : World) (p : ℕ → Stage) (c s : ℕ) (share : ProofShare) (l : Letter) → Coherent w p → Claims (state w p) (token.ProofToHelper c s)
    → Follows b f w → b.foreign c ≡ false → c < b.settings.lanes
    → Spelled l ToHelper (frame_with c s 0 (frame.Proof share))
    → share ≡ share_at b 1 c s → wants (request_of b c s) ≡ Write
    → Follows b (frames.comes f l.to l.bytes) (at_helper w c s (helper_proof_step s (w.lanes c).helper))
proof_runs b f w p c s share l ok claim h hon low k e q =
    let r = row_at f.helper.server c in
    let hr = row_of b f w c h hon low in
    let t = proof_row r s share in
    let came = came_proof b c s share low k.is_frame in
    let first = came.first in
    let serial : r.serial ≡ (w.lanes c).helper.serial = ap (λ x. x.serial) hr.bare in
    let wants_write : s ≡ r.serial → want_of r.stage ≡ Write = λ same. hr.want (omega (arith, first, same)) ∙ ap (λ n. wants (request_of b c n)) (sym same) ∙ q in
    let takes : s ≡ r.serial → TakesProof r.stage = λ same.
    let there = takes_at (w.lanes c) (p c) s (ok.fits c claim.0) claim.1 (same ∙ serial) (omega (arith, first)) in
    stage_takes r (want_of r.stage) (wants_write same) refl (subst (λ x. HelperTakesProof x.phase) (sym hr.bare) there) in
    let step : bare_turn t ≡ helper_proof_step s (w.lanes c).helper = proofs r s share takes ∙ ap (helper_proof_step s) hr.bare in
    let there : c < f.helper.server.settings.lanes = let is = h.helper.settings in rw is low in
    let moved = proof_turn f c s share _ there (whole_spelled _ k.is_frame) in
    subst (λ v. Follows b v (at_helper w c s (helper_proof_step s (w.lanes c).helper))) (arrives f l _ _ k moved)
    (turned b f w c s t _ h hon low (proof_turns b c s r (w.lanes c).helper share hr came e takes wants_write) step)

pub proof_comes : (b : Book) (o : Oracle) (f : FrameWorld) (w : World) (p : ℕ → Stage) (c s : ℕ) (l : Letter)
    → Coherent w p → Claims (state w p) (token.ProofToHelper c s)
    → Follows b f w → b.foreign c ≡ false → Carries b (token.ProofToHelper c s) l
    → Follows b (frames.comes f l.to l.bytes) (comes o w (token.ProofToHelper c s))
unfolding comes frame_of
proof_comes b o f w p c s l ok claim h hon k =
    let m = from_client_is c s (proof_at b 1 c s) k.frame k.is in
    let d = proof_is b 1 c s m.body hon m.is in
    let g : k.frame ≡ frame_with c s 0 (frame.Proof d.share) = sym m.frame ∙ ap (frame_with c s 0) (sym d.is) in
    proof_runs b f w p c s d.share l ok claim h hon k.lane (subst (Spelled l ToHelper) g k.spelled) d.share_is d.want
