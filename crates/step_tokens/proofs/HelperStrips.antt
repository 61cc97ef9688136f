use Rattle.std.specs.Prelude.{◌≡◌, ◌<◌, ℕ, Bool, true, false, cond, nat_lt, nat_eq, nat_le, refl, List, length, Option, Some, None, slice_get, slice_set, slice_index_or}
use Rattle.std.proofs.Common.{sym, ap, ◌∙◌}
use Rattle.std.proofs.lemmas.Bool.{eqb-true}
use Rattle.std.proofs.lemmas.List.{get_or-set_same}
use Rattle.express_words.specs.declared.audit.ProofShare.{ProofShare}
use Rattle.express_words.specs.declared.audit.Closing.{Closing}
use Rattle.frame_rules.specs.declared.frame.DepositBody.{DepositBody}
use Rattle.frame_rules.specs.declared.frame.DepositBody.TheVariants as deposit
use Rattle.frame_rules.specs.Frames as frame
use Rattle.frame_rules.specs.Frames.{PlainFrame, PlainBody}
use Rattle.token_rules.specs.Tokens as token
use Rattle.token_rules.specs.Rows.{deposit_step, helper_proof_at, helper_proof_step, helper_step, HelperLater, HelperHeldDeposit, carried_phase}
use Rattle.lane_table.specs.Gates.{opening_gate, closing_gate, same_want}
use Rattle.lane_table.specs.declared.row.Want.{Want}
use Rattle.lane_table.specs.declared.row.Want.TheVariants.{Nothing, Register, Write, Read}
use Rattle.lane_table.specs.declared.gate.Gate.{Gate}
use Rattle.lane_table.specs.declared.gate.Gate.TheVariants.{New, Same, Stale, Phase}
use Rattle.step_rules.specs.Boxes.{Box, place_of}
use Rattle.audit_rules.specs.Values.{accepts}
use Rattle.step_rules.specs.Helper.{Server, Row, Stage, Idle, Deposited, Begun, Proved, Audited, Done, want_in, want_of, phase_of, row, row_at, idle}
use Rattle.step_rules.specs.HelperClients.{deposit_at, deposit_row, proof_in, proof_at, proof_row}
use Rattle.step_rules.specs.HelperCommands.{Effect, register_at, register, begin, audit, settle, read_live, read_at, read, command}
use Rattle.dpf_rules.specs.Expansion as expansion
use Rattle.step_tokens.specs.HelperRows.{DepositsStrip, ProofsStrip, CommandsStrip, IsReady, TakesProof, bare, bare_phase, bare_turn, row_after}

-- ---- deposits

deposit_cases : (r : Row) (serial : ℕ) (held : DepositBody) (less same wants : Bool) → (same ≡ true → wants ≡ true) →
    bare_turn (deposit_at r serial held (cond less (Stale r.serial) (cond same (cond wants Same (Phase (phase_of r.stage))) New)))
    ≡ cond less (helper_step (bare r) HelperLater) (cond same (helper_step (bare r) HelperHeldDeposit) (helper_step (token.row serial token.Deposited) HelperHeldDeposit))
unfolding deposit_at
deposit_cases r serial held true same wants h = refl
deposit_cases r serial held false true true h = refl
deposit_cases r serial held false true false h = absurd (cc (h refl))
deposit_cases r serial held false false wants h = refl

pub deposits : DepositsStrip
unfolding deposit_row opening_gate deposit_step
deposits r serial held one =
    deposit_cases r serial held (nat_lt serial r.serial) (nat_eq serial r.serial) (same_want (want_in held) (want_of r.stage)) (λ e. one (eqb-true serial r.serial e))

-- ---- proofs

proof_done : (n : ℕ) (share : ProofShare) (want : Want) → same_want Write want ≡ true →
    bare_turn (proof_at (row n (Done want)) share (cond (same_want Write want) Same (Phase 5))) ≡ helper_proof_at token.Done (bare (row n (Done want)))
unfolding proof_at proof_in helper_proof_at
proof_done n share want h = rw h refl

proof_cases : (n : ℕ) (share : ProofShare) (stage : Stage) (same : Bool) → (same ≡ true → TakesProof stage) →
    bare_turn (proof_at (row n stage) share (cond same (cond (same_want Write (want_of stage)) Same (Phase (phase_of stage))) (Stale n)))
    ≡ cond same (helper_proof_at (bare_phase stage) (bare (row n stage))) (helper_step (bare (row n stage)) HelperLater)
unfolding proof_at proof_in helper_proof_at
proof_cases n share stage false h = refl
proof_cases n share (Begun w) true h = refl
proof_cases n share (Proved w before) true h = refl
proof_cases n share (Audited w own) true h = refl
proof_cases n share (Done want) true h = proof_done n share want (h refl)
proof_cases n share Idle true h = absurd (h refl)
proof_cases n share (Deposited held) true h = absurd (h refl)

pub proofs : ProofsStrip
unfolding proof_row closing_gate helper_proof_step
proofs r serial share h = proof_cases r.serial share r.stage (nat_eq serial r.serial) (λ e. h (eqb-true serial r.serial e))

-- ---- commands

at_lane : (rows : List Row) (i : ℕ) (r : Row) → i < length rows → bare (slice_index_or (slice_set rows i r) i idle) ≡ bare r
at_lane rows i r h = ap bare (get_or-set_same rows i r idle h)

either : (b : Bool) (x y : Effect) (lane : ℕ) (r : token.Row) → row_after x lane ≡ r → row_after y lane ≡ r → row_after (cond b x y) lane ≡ r
either true x y lane r p q = p
either false x y lane r p q = q

registers : (h : Server) (f : PlainFrame) (address : ℕ) (key : List ℕ) (found : Option ℕ) → f.lane < length h.rows → row_after (register_at h f address key found) f.lane ≡ token.row f.serial token.Done
unfolding register_at
registers h f address key (Some n) i = at_lane h.rows f.lane (row f.serial (Done Register)) i
registers h f address key None i =
    either (nat_le h.settings.boxes (length h.boxes)) _ _ f.lane (token.row f.serial token.Done)
    (at_lane h.rows f.lane (row f.serial (Done Register)) i) (at_lane h.rows f.lane (row f.serial (Done Register)) i)

reads : (h : Server) (f : PlainFrame) (stays : Bool) (number held : ℕ) (found : Option Box) → f.lane < length h.rows → row_after (read_at h f stays number held found) f.lane ≡ token.row f.serial token.Done
unfolding read_at read_live
reads h f stays number held None i = at_lane h.rows f.lane (row f.serial (Done Read)) i
reads h f stays number held (Some box) i =
    let done = at_lane h.rows f.lane (row f.serial (Done Read)) i in
    either box.live _ _ f.lane (token.row f.serial token.Done) (either (nat_eq held (expansion.token box.key f.lane f.serial)) _ _ f.lane (token.row f.serial token.Done) done done) done

pub commands : CommandsStrip
unfolding command register begin audit settle read
commands h f (frame.LinkRegister address) (Deposited (deposit.Register key)) i ready = registers h f address key (place_of address h.boxes) i
commands h f (frame.LinkBegin drawn part) (Deposited (deposit.Write root)) i ready = at_lane h.rows f.lane _ i
commands h f (frame.LinkAudit sigma other) (Proved w share) i ready = at_lane h.rows f.lane _ i
commands h f (frame.LinkSettle leaders) (Audited w own) i ready =
    let done = at_lane h.rows f.lane (row f.serial (Done Write)) i in
    either (accepts leaders own) _ _ f.lane (token.row f.serial token.Done) done done
commands h f (frame.LinkRead number) (Deposited (deposit.Read held)) i ready = reads h f true number held (slice_get h.boxes number) i
commands h f (frame.LinkRetire number) (Deposited (deposit.Read held)) i ready = reads h f false number held (slice_get h.boxes number) i
commands h f body stage i ready = absurd ready
