-- What a server answers to a frame that its lane's row isn't ahead of, and that is in phase.
use Rattle.std.proofs.Common.{◌≡◌, ℕ, ◌<◌, ◌≤◌, ◌-◌, ◌^◌, cond, nat_eq, nat_lt, true, false, Bool, List, Ok, Option, Some, None, slice_get, refl, arith}
use Rattle.std.proofs.lemmas.Bool.{cond_both, eq-eqb, eqb-true, eqb-false, le-ltb, lt-leb}
use Rattle.express_words.specs.declared.audit.ProofShare.{ProofShare}
use Rattle.express_words.specs.declared.refusal.Refusal.TheVariants as refusal
use Rattle.frame_rules.specs.declared.frame.DepositBody.{DepositBody}
use Rattle.frame_rules.specs.Frames as frame
use Rattle.frame_rules.specs.Frames.{PlainFrame, PlainBody}
use Rattle.frame_rules.specs.Whole.{whole}
use Rattle.dpf_rules.specs.Expansion.{token}
use Rattle.lane_table.specs.Gates.{opening_gate, closing_gate, same_want}
use Rattle.lane_table.specs.declared.row.Want.TheVariants.{Nothing, Write}
use Rattle.lane_table.specs.declared.gate.Gate.TheVariants.{New, Same, Stale, Phase}
use Rattle.step_rules.specs.Boxes.{Box}
use Rattle.step_rules.specs.Helper as helper
use Rattle.step_rules.specs.Helper.{Helper}
use Rattle.step_rules.specs.HelperClients as holds
use Rattle.step_rules.specs.Leader as leader
use Rattle.step_rules.specs.Leader.{Leader, Turn, refuses, row_at}
use Rattle.step_rules.specs.LeaderClients as submits
use Rattle.step_rules.specs.LeaderClients.{Named, if_room, issued_for, oldest}
use Rattle.step_tokens.specs.HelperRows as helper_rows
use Rattle.step_tokens.specs.LeaderRows as leader_rows
use Rattle.step_tokens.specs.LeaderRows.{IsOver, is_full}
use Rattle.run_rules.specs.Frames.{frame_with}
use Rattle.run_rules.specs.Heeded.{Heeds, HeedsWith}
use Rattle.run_rules.proofs.HelperRuns.{lane_is_there}

-- ---- the helper

deposit_cases : (r : helper.Row) (s : ℕ) (held : DepositBody) (less same wanted : Bool) → less ≡ false
    → (same ≡ true → wanted ≡ true)
    → (holds.deposit_at r s held (cond less (Stale r.serial) (cond same (cond wanted Same (Phase (helper.phase_of r.stage))) New))).body
    ≡ frame.Held false
unfolding holds.deposit_at
deposit_cases r s held true same wanted e one = absurd (cc e)
deposit_cases r s held false true true e one = refl
deposit_cases r s held false true false e one = absurd (cc (one refl))
deposit_cases r s held false false wanted e one = refl

deposit_held : (r : helper.Row) (s : ℕ) (held : DepositBody) → r.serial ≤ s
    → (s ≡ r.serial → same_want (helper.want_in held) (helper.want_of r.stage) ≡ true)
    → (holds.deposit_row r s held).body ≡ frame.Held false
unfolding holds.deposit_row opening_gate
deposit_held r s held low one =
    deposit_cases r s held (nat_lt s r.serial) (nat_eq s r.serial) (same_want (helper.want_in held) (helper.want_of r.stage))
    (le-ltb s r.serial low) (λ t. one (eqb-true s r.serial t))

pub deposit_answer : (h : Helper) (c s : ℕ) (held : DepositBody) (bytes : List ℕ) → c < h.server.settings.lanes
    → whole bytes ≡ Ok (frame_with c s 0 (frame.Deposit held)) → (helper.row_at h.server c).serial ≤ s
    → (s ≡ (helper.row_at h.server c).serial
    → same_want (helper.want_in held) (helper.want_of (helper.row_at h.server c).stage) ≡ true)
    → (holds.on_client h bytes).reply.body ≡ frame.Held false
unfolding holds.on_whole holds.by_kind
deposit_answer h c s held bytes there e low one =
    let t = holds.deposit_row (helper.row_at h.server c) s held in
    let turn = lane_is_there h.server (frame_with c s 0 (frame.Deposit held)) t there in
    rw (e, turn) (deposit_held (helper.row_at h.server c) s held low one)

takes_write : (stage : helper.Stage) → helper_rows.TakesProof stage → same_want Write (helper.want_of stage) ≡ true
takes_write (helper.Begun write) h = refl
takes_write (helper.Proved write share) h = refl
takes_write (helper.Audited write own) h = refl
takes_write (helper.Done want) h = h
takes_write helper.Idle h = absurd h
takes_write (helper.Deposited held) h = absurd h

proof_in_held : (r : helper.Row) (share : ProofShare) (stage : helper.Stage) → helper_rows.TakesProof stage
    → (holds.proof_in r share stage).body ≡ frame.Held true
unfolding holds.proof_in
proof_in_held r share (helper.Begun write) h = refl
proof_in_held r share (helper.Proved write before) h = refl
proof_in_held r share (helper.Audited write own) h = refl
proof_in_held r share (helper.Done want) h = refl
proof_in_held r share helper.Idle h = absurd h
proof_in_held r share (helper.Deposited held) h = absurd h

proof_held : (r : helper.Row) (s : ℕ) (share : ProofShare) → s ≡ r.serial → helper_rows.TakesProof r.stage
    → (holds.proof_row r s share).body ≡ frame.Held true
unfolding holds.proof_row holds.proof_at closing_gate
proof_held r s share e h =
    let same : nat_eq s r.serial ≡ true = eq-eqb s r.serial e in
    rw (same, takes_write r.stage h) (proof_in_held r share r.stage h)

pub proof_answer : (h : Helper) (c s : ℕ) (share : ProofShare) (bytes : List ℕ) → c < h.server.settings.lanes
    → whole bytes ≡ Ok (frame_with c s 0 (frame.Proof share)) → s ≡ (helper.row_at h.server c).serial
    → helper_rows.TakesProof (helper.row_at h.server c).stage
    → (holds.on_client h bytes).reply.body ≡ frame.Held true
unfolding holds.on_whole holds.by_kind
proof_answer h c s share bytes there e same takes =
    let t = holds.proof_row (helper.row_at h.server c) s share in
    let turn = lane_is_there h.server (frame_with c s 0 (frame.Proof share)) t there in
    rw (e, turn) (proof_held (helper.row_at h.server c) s share same takes)

-- ---- the leader

-- what a row keeps heeds the frame too
abbrev pub KeptHeeds : Bool → leader.Stage → Type 0
KeptHeeds full (leader.Challenged write kept) = HeedsWith full kept
KeptHeeds full (leader.Done want kept) = HeedsWith full kept
KeptHeeds full stage = Unit {0}

issued_heeds : (full : Bool) (a : Leader) (g : PlainFrame) (asked : leader.Asked) → Heeds full (issued_for a g asked).answer
unfolding issued_for
issued_heeds full a g (leader.Registering address key) = tt
issued_heeds full a g (leader.Writing root part drawn) = tt
issued_heeds full a g (leader.Reading number) = tt
issued_heeds full a g (leader.Retiring number) = tt

room_heeds : (a : Leader) (g : PlainFrame) (issued : Turn) → nat_lt (2 ^ 64 - 65) a.next ≡ false
    → Heeds (is_full a) issued.answer → Heeds (is_full a) (if_room a g issued).answer
room_heeds a g issued numbers h = rw numbers (either (is_full a) h)
  where
    either : (full : Bool) → Heeds full issued.answer
        → Heeds full (cond full (refuses a g (refusal.Again (oldest a))) issued).answer
    either true k = refl
    either false k = k

named_heeds : (full : Bool) (a : Leader) (g : PlainFrame) (named : Option Named) (issued : Turn)
    → Heeds full issued.answer → Heeds full (submits.if_named a g named issued).answer
unfolding submits.if_named submits.if_token
named_heeds full a g None issued h = h
named_heeds full a g (Some n) issued h = at_box (slice_get a.boxes n.number)
  where
    at_box : (found : Option Box) → Heeds full (submits.if_token a g n.number n.held found issued).answer
    at_box None = tt
    at_box (Some box) =
        cond_both {A = Turn} (nat_eq n.held (token box.key g.lane g.serial)) _ _ (λ t. Heeds full t.answer) (λ e. h) (λ e. tt)

new_heeds : (a : Leader) (g : PlainFrame) (asked : leader.Asked) (named : Option Named) (stage : leader.Stage)
    → IsOver stage → nat_lt (2 ^ 64 - 65) a.next ≡ false
    → Heeds (is_full a) (submits.new_at a g asked named stage).answer
unfolding submits.new_at
new_heeds a g asked named (leader.Waiting number other) over n = absurd over
new_heeds a g asked named (leader.Auditing number write share sigma opened) over n = absurd over
new_heeds a g asked named (leader.Settling number write own other) over n = absurd over
new_heeds a g asked named stage over n =
    named_heeds (is_full a) a g named _ (room_heeds a g (issued_for a g asked) n (issued_heeds (is_full a) a g asked))

asks_something : (asked : leader.Asked) → same_want (leader.want_in asked) Nothing ≡ true → ⊥
asks_something (leader.Registering address key) e = cc e
asks_something (leader.Writing root part drawn) e = cc e
asks_something (leader.Reading number) e = cc e
asks_something (leader.Retiring number) e = cc e

again_heeds : (full : Bool) (a : Leader) (g : PlainFrame) (asked : leader.Asked) (stage : leader.Stage)
    → same_want (leader.want_in asked) (leader.want_of stage) ≡ true → KeptHeeds full stage
    → Heeds full (submits.again_at a g stage).answer
unfolding submits.again_at
again_heeds full a g asked leader.Idle e k = absurd (asks_something asked e)
again_heeds full a g asked (leader.Waiting number other) e k = tt
again_heeds full a g asked (leader.Auditing number write share sigma opened) e k = tt
again_heeds full a g asked (leader.Settling number write own other) e k = tt
again_heeds full a g asked (leader.Challenged write kept) e k = k
again_heeds full a g asked (leader.Done want kept) e k = k

module _ (a : Leader) (g : PlainFrame) (there : g.lane < a.settings.lanes)
    (numbers : nat_lt (2 ^ 64 - 65) a.next ≡ false)
    (kept : KeptHeeds (is_full a) (row_at a g.lane).stage) where
  submission_cases : (asked : leader.Asked) (named : Option Named) (less same wanted : Bool) → less ≡ false
      → (same ≡ false → IsOver (row_at a g.lane).stage) → (same ≡ true → wanted ≡ true)
      → (wanted ≡ true → same_want (leader.want_in asked) (leader.want_of (row_at a g.lane).stage) ≡ true)
      → Heeds (is_full a) (submits.submission_at a g asked named (cond less (Stale (row_at a g.lane).serial)
      (cond same (cond wanted Same (Phase (leader.phase_of (row_at a g.lane).stage))) New))).answer
  unfolding submits.submission_at
  submission_cases asked named true same wanted e over one is = absurd (cc e)
  submission_cases asked named false true true e over one is =
      again_heeds (is_full a) a g asked (row_at a g.lane).stage (is refl) kept
  submission_cases asked named false true false e over one is = absurd (cc (one refl))
  submission_cases asked named false false wanted e over one is =
      new_heeds a g asked named (row_at a g.lane).stage (over refl) numbers

  pub submission_heeds : (asked : leader.Asked) (named : Option Named) → (row_at a g.lane).serial ≤ g.serial
      → ((row_at a g.lane).serial < g.serial → IsOver (row_at a g.lane).stage)
      → (g.serial ≡ (row_at a g.lane).serial
      → same_want (leader.want_in asked) (leader.want_of (row_at a g.lane).stage) ≡ true)
      → Heeds (is_full a) (submits.on_submission a g asked named).answer
  unfolding submits.on_submission opening_gate
  submission_heeds asked named low over one =
      let r = row_at a g.lane in
      rw (lt-leb a.settings.lanes g.lane there)
      (submission_cases asked named (nat_lt g.serial r.serial) (nat_eq g.serial r.serial)
      (same_want (leader.want_in asked) (leader.want_of r.stage)) (le-ltb g.serial r.serial low)
      (λ t. let n = eqb-false g.serial r.serial t in over (omega (arith, low, n))) (λ t. one (eqb-true g.serial r.serial t)) (λ t. t))

  takes_write_too : (stage : leader.Stage) → leader_rows.TakesProof stage → same_want Write (leader.want_of stage) ≡ true
  takes_write_too (leader.Challenged write kept) h = refl
  takes_write_too (leader.Auditing number write share sigma opened) h = refl
  takes_write_too (leader.Settling number write own other) h = refl
  takes_write_too (leader.Done want kept) h = h
  takes_write_too leader.Idle h = absurd h
  takes_write_too (leader.Waiting number asked) h = absurd h

  proof_in_heeds : (share : ProofShare) (stage : leader.Stage) → leader_rows.TakesProof stage
      → KeptHeeds (is_full a) stage → Heeds (is_full a) (submits.proof_in a g share stage).answer
  unfolding submits.proof_in
  proof_in_heeds share (leader.Challenged write kept) h k = room_heeds a g (submits.audits a g write share) numbers tt
  proof_in_heeds share (leader.Auditing number write before sigma opened) h k = tt
  proof_in_heeds share (leader.Settling number write own other) h k = tt
  proof_in_heeds share (leader.Done want kept) h k = k
  proof_in_heeds share leader.Idle h k = absurd h
  proof_in_heeds share (leader.Waiting number asked) h k = absurd h

  pub proof_heeds : (share : ProofShare) → g.serial ≡ (row_at a g.lane).serial
      → leader_rows.TakesProof (row_at a g.lane).stage → Heeds (is_full a) (submits.on_proof a g share).answer
  unfolding submits.on_proof submits.proof_at closing_gate
  proof_heeds share e h =
      let same : nat_eq g.serial (row_at a g.lane).serial ≡ true = eq-eqb g.serial (row_at a g.lane).serial e in
      rw (lt-leb a.settings.lanes g.lane there, same, takes_write_too (row_at a g.lane).stage h)
      (proof_in_heeds share (row_at a g.lane).stage h kept)
