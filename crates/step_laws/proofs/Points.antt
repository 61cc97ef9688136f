-- What clients are told is the same for any two points.
use Rattle.std.specs.Prelude.{◌≡◌, ◌⊎◌, ℕ, zero, suc, ◌<◌, ◌≤◌, ◌-◌, ◌^◌, Bool, true, false, cond, nat_le, nat_lt, nat_eq, refl, List, [], ◌∷◌, length, Option, Some, None, Result, Ok, Err, slice_get, slice_index_or, slice_set}
use Rattle.std.proofs.Common.{sym, subst, ap, ap₂, inl, inr, ◌∙◌, arith}
use Rattle.std.proofs.lemmas.Bool.{cases_eq, cases_lt}
use Rattle.std.proofs.lemmas.List.{get_or-set_same, get_or-set_other}
use Rattle.express_words.specs.declared.audit.ProofShare.{ProofShare}
use Rattle.express_words.specs.declared.audit.Openings.{Openings}
use Rattle.express_words.specs.declared.audit.Closing.{Closing}
use Rattle.express_words.specs.declared.refusal.Refusal.{Refusal}
use Rattle.express_words.specs.declared.refusal.Refusal.TheVariants as refusal
use Rattle.frame_rules.specs.declared.frame.DepositBody.{DepositBody}
use Rattle.frame_rules.specs.Frames as frame
use Rattle.frame_rules.specs.Frames.{PlainFrame, PlainBody}
use Rattle.frame_rules.specs.Whole.{has_width, whole}
use Rattle.lane_table.specs.Gates.{closing_gate, opening_gate}
use Rattle.lane_table.specs.declared.gate.Gate.{Gate}
use Rattle.lane_table.specs.declared.gate.Gate.TheVariants.{New, Same, Stale, Phase}
use Rattle.dpf_rules.specs.Expansion.{token}
use Rattle.audit_rules.specs.Values.{Write}
use Rattle.step_rules.specs.Boxes.{Box}
use Rattle.step_rules.specs.Helper as helper
use Rattle.step_rules.specs.HelperClients as helps
use Rattle.step_rules.specs.HelperClients.{RowTurn, deposit_at, deposit_row, if_lane, proof_row}
use Rattle.step_rules.specs.Leader.{Leader, Asked, Registering, Writing, Reading, Retiring, Row, Stage, Idle, Waiting, Challenged, Auditing, Settling, Done, Turn, door, idle, phase_of, refuses, row, row_at, want_in, want_of}
use Rattle.step_rules.specs.LeaderClients.{Named, again_at, audits, by_kind, draw, if_named, if_room, if_token, issued_for, new_at, on_proof, on_submission, on_whole, proof_at, proof_in, submission_at}
use Rattle.step_laws.specs.Points.{AlikeButClosing, AlikeButPoint, HelperTellsNoPoint, LeaderTellsNoPoint, said}

-- ---- a row of a table that is set

past_set : {X : Type 0} (xs : List X) (c : ℕ) (r : X) → length xs ≤ c → slice_set xs c r ≡ xs
past_set [] c r h = refl
past_set (x ∷ xs) zero r h = absurd (omega (arith, h))
past_set (x ∷ xs) (suc c) r h = ap (λ l. x ∷ l) (past_set xs c r (omega (arith, h)))

-- two tables in which this row is set are alike where the rows are
set_alike : {X : Type 0} (P : X → X → Type 0) → ((x : X) → P x x) → (xs : List X) (c : ℕ) (r q d : X) → P r q → (lane : ℕ)
    → P (slice_index_or (slice_set xs c r) lane d) (slice_index_or (slice_set xs c q) lane d)
set_alike {X} P same xs c r q d alike lane = elim (cases_eq lane c) [
  | inl here ↦ elim (cases_lt c (length xs)) [
    | inl low ↦
        let one : slice_index_or (slice_set xs c r) lane d ≡ r = ap (λ n. slice_index_or (slice_set xs c r) n d) here ∙ get_or-set_same xs c r d low in
        let two : slice_index_or (slice_set xs c q) lane d ≡ q = ap (λ n. slice_index_or (slice_set xs c q) n d) here ∙ get_or-set_same xs c q d low in
        subst (λ x. P x (slice_index_or (slice_set xs c q) lane d)) (sym one) (subst (λ y. P r y) (sym two) alike)
    | inr high ↦ unset (past_set xs c r high) (past_set xs c q high)
  ]
  | inr other ↦ both (get_or-set_other xs c lane r d other) (get_or-set_other xs c lane q d other)
]
  where
    both : {x y z : X} → x ≡ z → y ≡ z → P x y
    both {x} {y} {z} e u = subst (λ v. P v y) (sym e) (subst (λ v. P z v) (sym u) (same z))

    unset : {ys zs : List X} → ys ≡ xs → zs ≡ xs → P (slice_index_or ys lane d) (slice_index_or zs lane d)
    unset e u = both (ap (λ l. slice_index_or l lane d) e) (ap (λ l. slice_index_or l lane d) u)

-- ---- the leader

-- what holds of one stage twice, and of any two points, holds of stages that are alike
alike_all : (P : Stage → Stage → Type 0) → ((s : Stage) → P s s)
    → ((n : ℕ) (w : Write) (share : ProofShare) (p q : ℕ) (o u : Openings) → P (Auditing n w share p o) (Auditing n w share q u))
    → ((n : ℕ) (w : Write) (c d e g : Closing) → P (Settling n w c d) (Settling n w e g))
    → (s t : Stage) → AlikeButPoint s t → P s t
alike_all P same audit settle (Auditing n w share p o) (Auditing m v other q u) h =
    subst (λ k. P (Auditing n w share p o) (Auditing k v other q u)) h.0
    (subst (λ k. P (Auditing n w share p o) (Auditing n k other q u)) h.1
    (subst (λ k. P (Auditing n w share p o) (Auditing n w k q u)) h.2 (audit n w share p q o u)))
alike_all P same audit settle (Settling n w c d) (Settling m v e g) h =
    subst (λ k. P (Settling n w c d) (Settling k v e g)) h.0
    (subst (λ k. P (Settling n w c d) (Settling n k e g)) h.1 (settle n w c d e g))
alike_all P same audit settle s t h = subst (λ k. P s k) h (same s)

LikeRow : Row → Row → Type 0
LikeRow r q = (r.serial ≡ q.serial) × AlikeButPoint r.stage q.stage

like_same : (r : Row) → LikeRow r r
unfolding LikeRow
like_same r = (refl, alike_same r.stage)
  where
    alike_same : (s : Stage) → AlikeButPoint s s
    alike_same (Auditing n w share p o) = (refl, refl, refl)
    alike_same (Settling n w c d) = (refl, refl)
    alike_same s = refl

like_set : (serial : ℕ) (one other : Stage) → AlikeButPoint one other → LikeRow (row serial one) (row serial other)
unfolding LikeRow
like_set serial one other alike = (refl, alike)

stages : (r q : Row) → LikeRow r q → AlikeButPoint r.stage q.stage
unfolding LikeRow
stages r q like = like.1

doors : (r q : Row) → LikeRow r q → door r ≡ door q
unfolding LikeRow
doors r q like =
    let one = like.0 in
    let two : phase_of r.stage ≡ phase_of q.stage =
    alike_all (λ s t. phase_of s ≡ phase_of t) (λ s. refl) (λ n w share p q o u. refl) (λ n w c d e g. refl) r.stage q.stage like.1 in
    let three : want_of r.stage ≡ want_of q.stage =
    alike_all (λ s t. want_of s ≡ want_of t) (λ s. refl) (λ n w share p q o u. refl) (λ n w c d e g. refl) r.stage q.stage like.1 in
    rw (one, two, three) refl

module _ (a : Leader) (xs ys : List Row) (commands others : List PlainFrame) (lengths : length commands ≡ length others)
    (rows : (lane : ℕ) → LikeRow (slice_index_or xs lane idle) (slice_index_or ys lane idle)) where
  abbrev A : Leader
  A = record a { rows = xs; outstanding = commands }

  abbrev B : Leader
  B = record a { rows = ys; outstanding = others }

  abbrev Both : Turn → Turn → Type 0
  Both t u = said t.answer ≡ said u.answer

  either : (b : Bool) (t v u w : Turn) → Both t u → Both v w → Both (cond b t v) (cond b u w)
  either true t v u w p q = p
  either false t v u w p q = q

  module _ (f : PlainFrame) where
    roomed : (t u : Turn) → Both t u → Both (if_room A f t) (if_room B f u)
    roomed t u both = either (nat_lt (2 ^ 64 - 65) a.next) _ _ _ _ refl (at_length (length commands) (length others) lengths)
      where
        at_length : (n m : ℕ) → n ≡ m
            → Both (cond (nat_le a.settings.window n) (refuses A f (refusal.Again (a.next - n))) t) (cond (nat_le a.settings.window m) (refuses B f (refusal.Again (a.next - m))) u)
        at_length n m e =
            subst (λ k. Both (cond (nat_le a.settings.window n) (refuses A f (refusal.Again (a.next - n))) t) (cond (nat_le a.settings.window k) (refuses B f (refusal.Again (a.next - k))) u))
            e (either (nat_le a.settings.window n) _ _ _ _ refl both)

    issued : (asked : Asked) → Both (issued_for A f asked) (issued_for B f asked)
    unfolding issued_for
    issued (Registering address key) = refl
    issued (Writing root part drawn) = refl
    issued (Reading number) = refl
    issued (Retiring number) = refl

    tokened : (number held : ℕ) (found : Option Box) (t u : Turn) → Both t u → Both (if_token A f number held found t) (if_token B f number held found u)
    unfolding if_token
    tokened number held None t u both = refl
    tokened number held (Some box) t u both = either (nat_eq held (token box.key f.lane f.serial)) _ _ _ _ both refl

    named_both : (named : Option Named) (t u : Turn) → Both t u → Both (if_named A f named t) (if_named B f named u)
    unfolding if_named
    named_both None t u both = both
    named_both (Some n) t u both = tokened n.number n.held (slice_get a.boxes n.number) t u both

    new_same : (asked : Asked) (named : Option Named) (s : Stage) → Both (new_at A f asked named s) (new_at B f asked named s)
    unfolding new_at
    new_same asked named (Waiting number other) = refl
    new_same asked named (Auditing number w share sigma opened) = refl
    new_same asked named (Settling number w own other) = refl
    new_same asked named Idle = named_both named _ _ (roomed _ _ (issued asked))
    new_same asked named (Challenged w kept) = named_both named _ _ (roomed _ _ (issued asked))
    new_same asked named (Done want kept) = named_both named _ _ (roomed _ _ (issued asked))

    new_both : (asked : Asked) (named : Option Named) (s t : Stage) → AlikeButPoint s t → Both (new_at A f asked named s) (new_at B f asked named t)
    unfolding new_at
    new_both asked named =
        alike_all (λ s t. Both (new_at A f asked named s) (new_at B f asked named t)) (new_same asked named) (λ n w share p q o u. refl) (λ n w c d e g. refl)

    again_same : (s : Stage) → Both (again_at A f s) (again_at B f s)
    unfolding again_at
    again_same Idle = refl
    again_same (Waiting number asked) = refl
    again_same (Auditing number w share sigma opened) = refl
    again_same (Settling number w own other) = refl
    again_same (Challenged w kept) = refl
    again_same (Done want kept) = refl

    again_both : (s t : Stage) → AlikeButPoint s t → Both (again_at A f s) (again_at B f t)
    unfolding again_at
    again_both = alike_all (λ s t. Both (again_at A f s) (again_at B f t)) again_same (λ n w share p q o u. refl) (λ n w c d e g. refl)

    row_stages : AlikeButPoint (row_at A f.lane).stage (row_at B f.lane).stage
    row_stages = stages (row_at A f.lane) (row_at B f.lane) (rows f.lane)

    gated : (asked : Asked) (named : Option Named) (g : Gate) → Both (submission_at A f asked named g) (submission_at B f asked named g)
    unfolding submission_at
    gated asked named (Stale n) = refl
    gated asked named (Phase p) = refl
    gated asked named Same = again_both _ _ row_stages
    gated asked named New = new_both asked named _ _ row_stages

    same_door : door (row_at A f.lane) ≡ door (row_at B f.lane)
    same_door = doors (row_at A f.lane) (row_at B f.lane) (rows f.lane)

    submitted : (asked : Asked) (named : Option Named) → Both (on_submission A f asked named) (on_submission B f asked named)
    unfolding on_submission
    submitted asked named =
        let gate = opening_gate (door (row_at A f.lane)) f.serial (want_in asked) in
        either (nat_le a.settings.lanes f.lane) _ _ _ _ refl
        (subst (λ d. Both (submission_at A f asked named gate) (submission_at B f asked named (opening_gate d f.serial (want_in asked)))) same_door (gated asked named gate))

    proof_same : (share : ProofShare) (s : Stage) → Both (proof_in A f share s) (proof_in B f share s)
    unfolding proof_in
    proof_same share Idle = refl
    proof_same share (Waiting number asked) = refl
    proof_same share (Auditing number w before sigma opened) = refl
    proof_same share (Settling number w own other) = refl
    proof_same share (Done want kept) = refl
    proof_same share (Challenged w kept) = roomed (audits A f w share) (audits B f w share) refl

    proof_both : (share : ProofShare) (s t : Stage) → AlikeButPoint s t → Both (proof_in A f share s) (proof_in B f share t)
    unfolding proof_in
    proof_both share =
        alike_all (λ s t. Both (proof_in A f share s) (proof_in B f share t)) (proof_same share) (λ n w h p q o u. refl) (λ n w c d e g. refl)

    proof_gated : (share : ProofShare) (g : Gate) → Both (proof_at A f share g) (proof_at B f share g)
    unfolding proof_at
    proof_gated share (Stale n) = refl
    proof_gated share (Phase p) = refl
    proof_gated share Same = proof_both share _ _ row_stages
    proof_gated share New = proof_both share _ _ row_stages

    proved : (share : ProofShare) → Both (on_proof A f share) (on_proof B f share)
    unfolding on_proof
    proved share =
        let gate = closing_gate (door (row_at A f.lane)) f.serial in
        either (nat_le a.settings.lanes f.lane) _ _ _ _ refl
        (subst (λ d. Both (proof_at A f share gate) (proof_at B f share (closing_gate d f.serial))) same_door (proof_gated share gate))

    kinds : (body : PlainBody) → Both (by_kind A f body) (by_kind B f body)
    unfolding by_kind
    kinds (frame.Register address key) = submitted (Registering address key) None
    kinds (frame.Write root part) =
        either (has_width a.settings.width (frame.Write root part)) _ _ _ _ (submitted (Writing root part (draw a)) None) refl
    kinds (frame.Read number held) = submitted (Reading number) (Some (record { number = number; held = held }))
    kinds (frame.Retire number held) = submitted (Retiring number) (Some (record { number = number; held = held }))
    kinds (frame.Proof share) = proved share
    kinds body = refl

  wholes : (found : Result PlainFrame Refusal) → Both (on_whole A found) (on_whole B found)
  unfolding on_whole
  wholes (Err why) = refl
  wholes (Ok f) = kinds f f.body

pub leader_tells_no_point : LeaderTellsNoPoint
leader_tells_no_point a c serial one other commands others bytes alike lengths =
    wholes a (slice_set a.rows c (row serial one)) (slice_set a.rows c (row serial other)) commands others lengths
    (set_alike LikeRow like_same a.rows c (row serial one) (row serial other) idle (like_set serial one other alike)) (whole bytes)

-- ---- the helper

closing_all : (P : helper.Stage → helper.Stage → Type 0) → ((s : helper.Stage) → P s s)
    → ((w : Write) (c d : Closing) → P (helper.Audited w c) (helper.Audited w d)) → (s t : helper.Stage) → AlikeButClosing s t → P s t
closing_all P same audit (helper.Audited w c) (helper.Audited v d) h =
    subst (λ k. P (helper.Audited w c) (helper.Audited k d)) h (audit w c d)
closing_all P same audit s t h = subst (λ k. P s k) h (same s)

LikeHelperRow : helper.Row → helper.Row → Type 0
LikeHelperRow r q = (r.serial ≡ q.serial) × AlikeButClosing r.stage q.stage

like_helper_same : (r : helper.Row) → LikeHelperRow r r
unfolding LikeHelperRow
like_helper_same r = (refl, alike_same r.stage)
  where
    alike_same : (s : helper.Stage) → AlikeButClosing s s
    alike_same (helper.Audited w c) = refl
    alike_same s = refl

like_helper_set : (serial : ℕ) (one other : helper.Stage) → AlikeButClosing one other → LikeHelperRow (helper.row serial one) (helper.row serial other)
unfolding LikeHelperRow
like_helper_set serial one other alike = (refl, alike)

helper_doors : (r q : helper.Row) → LikeHelperRow r q → helper.door r ≡ helper.door q
unfolding LikeHelperRow
helper_doors r q like =
    let one = like.0 in
    let two : helper.phase_of r.stage ≡ helper.phase_of q.stage =
    closing_all (λ s t. helper.phase_of s ≡ helper.phase_of t) (λ s. refl) (λ w c d. refl) r.stage q.stage like.1 in
    let three : helper.want_of r.stage ≡ helper.want_of q.stage =
    closing_all (λ s t. helper.want_of s ≡ helper.want_of t) (λ s. refl) (λ w c d. refl) r.stage q.stage like.1 in
    rw (one, two, three) refl

SaysSame : RowTurn → RowTurn → Type 0
SaysSame t u = t.body ≡ u.body

deposits_same : (r q : helper.Row) (serial : ℕ) (held : DepositBody) (g : Gate) → SaysSame (deposit_at r serial held g) (deposit_at q serial held g)
unfolding SaysSame deposit_at
deposits_same r q serial held (Stale n) = refl
deposits_same r q serial held (Phase p) = refl
deposits_same r q serial held Same = refl
deposits_same r q serial held New = refl

deposit_says : (r q : helper.Row) → LikeHelperRow r q → (serial : ℕ) (held : DepositBody) → SaysSame (deposit_row r serial held) (deposit_row q serial held)
unfolding deposit_row
deposit_says r q like serial held =
    let gate = opening_gate (helper.door r) serial (helper.want_in held) in
    subst (λ d. SaysSame (deposit_at r serial held gate) (deposit_at q serial held (opening_gate d serial (helper.want_in held)))) (helper_doors r q like)
    (deposits_same r q serial held gate)

proof_stage : (r q : helper.Row) (share : ProofShare) (s : helper.Stage) → SaysSame (helps.proof_in r share s) (helps.proof_in q share s)
unfolding SaysSame helps.proof_in
proof_stage r q share helper.Idle = refl
proof_stage r q share (helper.Deposited held) = refl
proof_stage r q share (helper.Begun write) = refl
proof_stage r q share (helper.Proved write before) = refl
proof_stage r q share (helper.Audited write own) = refl
proof_stage r q share (helper.Done want) = refl

proof_stages : (r q : helper.Row) (share : ProofShare) (s t : helper.Stage) → AlikeButClosing s t → SaysSame (helps.proof_in r share s) (helps.proof_in q share t)
unfolding SaysSame helps.proof_in
proof_stages r q share = closing_all (λ s t. SaysSame (helps.proof_in r share s) (helps.proof_in q share t)) (proof_stage r q share) (λ w c d. refl)

proofs_same : (r q : helper.Row) → LikeHelperRow r q → (share : ProofShare) (g : Gate) → SaysSame (helps.proof_at r share g) (helps.proof_at q share g)
unfolding SaysSame LikeHelperRow helps.proof_at
proofs_same r q like share (Stale n) = refl
proofs_same r q like share (Phase p) = refl
proofs_same r q like share Same = proof_stages r q share r.stage q.stage like.1
proofs_same r q like share New = proof_stages r q share r.stage q.stage like.1

proof_says : (r q : helper.Row) → LikeHelperRow r q → (serial : ℕ) (share : ProofShare) → SaysSame (proof_row r serial share) (proof_row q serial share)
unfolding proof_row
proof_says r q like serial share =
    let gate = closing_gate (helper.door r) serial in
    subst (λ d. SaysSame (helps.proof_at r share gate) (helps.proof_at q share (closing_gate d serial))) (helper_doors r q like) (proofs_same r q like share gate)

module _ (h : helper.Server) (xs ys : List helper.Row) (rows : (lane : ℕ) → LikeHelperRow (slice_index_or xs lane helper.idle) (slice_index_or ys lane helper.idle)) where
  abbrev H : helper.Server
  H = record h { rows = xs }

  abbrev K : helper.Server
  K = record h { rows = ys }

  in_lane : (f : PlainFrame) (t u : RowTurn) → SaysSame t u → (if_lane H f t).reply ≡ (if_lane K f u).reply
  unfolding SaysSame if_lane
  in_lane f t u same = either (nat_le h.settings.lanes f.lane)
    where
      either : (b : Bool)
          → (cond b (helper.refuses H f (refusal.Lane h.settings.lanes)) (helps.at_row H f t)).reply ≡ (cond b (helper.refuses K f (refusal.Lane h.settings.lanes)) (helps.at_row K f u)).reply
      either true = refl
      either false = rw same refl

  helper_kinds : (f : PlainFrame) (body : PlainBody) → (helps.by_kind H f body).reply ≡ (helps.by_kind K f body).reply
  unfolding helps.by_kind
  helper_kinds f (frame.Deposit held) = in_lane f _ _ (deposit_says _ _ (rows f.lane) f.serial held)
  helper_kinds f (frame.Proof share) = in_lane f _ _ (proof_says _ _ (rows f.lane) f.serial share)
  helper_kinds f body = refl

  helper_wholes : (found : Result PlainFrame Refusal) → (helps.on_whole H found).reply ≡ (helps.on_whole K found).reply
  unfolding helps.on_whole
  helper_wholes (Err why) = refl
  helper_wholes (Ok f) = helper_kinds f f.body

pub helper_tells_no_point : HelperTellsNoPoint
helper_tells_no_point h c serial one other bytes alike =
    helper_wholes h (slice_set h.rows c (helper.row serial one)) (slice_set h.rows c (helper.row serial other))
    (set_alike LikeHelperRow like_helper_same h.rows c (helper.row serial one) (helper.row serial other) helper.idle (like_helper_set serial one other alike))
    (whole bytes)
