-- Whatever bytes come to the helper, its rows' serials never fall, nor their stages within one serial.
use Rattle.std.proofs.Common.{◌≡◌, ◌∙◌, ◌<◌, ◌≤◌, ◌+◌, ◌*◌, ℕ, zero, suc, cond, nat_eq, nat_le, nat_lt, true, false, Bool, List, [], ◌∷◌, length, Option, Some, None, Result, Ok, Err, slice_get, slice_set, slice_index_or, refl, sym, ap, subst, inl, inr, arith}
use Rattle.std.proofs.lemmas.Bool.{cases_eq, cases_lt, eqb-true, eqb-false, ltb-false}
use Rattle.std.proofs.lemmas.List.{get_or-set_same, get_or-set_other, length-set}
use Rattle.express_words.specs.declared.refusal.Refusal.{Refusal}
use Rattle.express_words.specs.declared.refusal.Refusal.TheVariants as refusal
use Rattle.express_words.specs.declared.audit.ProofShare.{ProofShare}
use Rattle.audit_rules.specs.Values.{Write as Written}
use Rattle.audit_rules.specs.Audit.{accepts}
use Rattle.frame_rules.specs.declared.frame.DepositBody.{DepositBody}
use Rattle.frame_rules.specs.declared.frame.DepositBody.TheVariants as deposit
use Rattle.frame_rules.specs.Frames as frame
use Rattle.frame_rules.specs.Frames.{PlainFrame, PlainBody}
use Rattle.frame_rules.specs.Whole.{whole, linked, is_command}
use Rattle.lane_table.specs.Gates.{opening_gate, closing_gate, same_want}
use Rattle.lane_table.specs.declared.row.Want.{Want}
use Rattle.lane_table.specs.declared.row.Want.TheVariants.{Register, Write, Read}
use Rattle.lane_table.specs.declared.gate.Gate.TheVariants.{New, Same, Stale, Phase}
use Rattle.dpf_rules.specs.Expansion as expansion
use Rattle.express_words.specs.declared.audit.Closing.{Closing}
use Rattle.step_rules.specs.Boxes.{Box, place_of, with_new, with_read}
use Rattle.step_rules.specs.Helper.{Answer, Carried, Ignored, LinkTurn, Repeated, Helper, Server, Row, Stage, Idle, Deposited, Begun, Proved, Audited, Done, idle, row, row_at, want_in, want_of, phase_of, refuses}
use Rattle.step_rules.specs.HelperClients as steps
use Rattle.step_rules.specs.HelperClients.{RowTurn, deposit_row, proof_row}
use Rattle.mailbox_rules.specs.Requests.{Request}
use Rattle.token_rules.specs.Run.{own_of}
use Rattle.step_rules.specs.Client as client
use Rattle.step_rules.specs.Client.{Client, Fault, Finished, Progress}
use Rattle.step_rules.specs.ClientAsks.{asked}
use Rattle.run_rules.specs.Letters.{Addressee, ToClient, ToHelper, ToHelperLink, ToLeader, ToLeaderLink, NoOwnBox, FrameWorld}
use Rattle.run_rules.specs.Run as frames
use Rattle.step_rules.specs.HelperCommands as commands
use Rattle.step_rules.specs.HelperCommands.{Effect}

abbrev pub rank : Stage → ℕ
rank Idle = 0
rank (Deposited held) = 1
rank (Begun write) = 2
rank (Proved write share) = 3
rank (Audited write closing) = 4
rank (Done want) = 5

-- how far a row has come
abbrev pub far : Row → ℕ
far r = 8 * r.serial + rank r.stage

pub rank_few : (x : Stage) → rank x ≤ 5
rank_few Idle = omega arith
rank_few (Deposited held) = omega arith
rank_few (Begun write) = omega arith
rank_few (Proved write share) = omega arith
rank_few (Audited write closing) = omega arith
rank_few (Done want) = omega arith

-- no row falls back
pub Grow : List Row → List Row → Type 0
Grow xs ys = (length ys ≡ length xs) × ((d : ℕ) → far (slice_index_or xs d idle) ≤ far (slice_index_or ys d idle))

pub far_grows : (xs ys : List Row) → Grow xs ys → (d : ℕ) → far (slice_index_or xs d idle) ≤ far (slice_index_or ys d idle)
unfolding Grow
far_grows xs ys h = h.1

same : (xs : List Row) → Grow xs xs
unfolding Grow
same xs = (refl, λ d. omega arith)

past_set : (xs : List Row) (c : ℕ) (r : Row) → length xs ≤ c → slice_set xs c r ≡ xs
past_set xs c r h = past xs c r h
  where
    past : (xs : List Row) (c : ℕ) (r : Row) → length xs ≤ c → slice_set xs c r ≡ xs
    past [] c r h = refl
    past (x ∷ xs) zero r h = absurd (omega (arith, h))
    past (x ∷ xs) (suc c) r h = ap (λ l. x ∷ l) (past xs c r (omega (arith, h)))

one : (xs : List Row) (c : ℕ) (r : Row) → far (slice_index_or xs c idle) ≤ far r → Grow xs (slice_set xs c r)
unfolding Grow
one xs c r l = (
  length-set xs c r,
  λ d. elim (cases_eq d c) [
    | inl e ↦ elim (cases_lt c (length xs)) [
      | inl low ↦
          let got : slice_index_or (slice_set xs c r) d idle ≡ r = ap (λ i. slice_index_or (slice_set xs c r) i idle) e ∙ get_or-set_same xs c r idle low in
          let before : far (slice_index_or xs d idle) ≡ far (slice_index_or xs c idle) = ap (λ i. far (slice_index_or xs i idle)) e in
          let after : far (slice_index_or (slice_set xs c r) d idle) ≡ far r = ap (λ x. far x) got in
          omega (arith, l, before, after)
      | inr high ↦ let got : far (slice_index_or (slice_set xs c r) d idle) ≡ far (slice_index_or xs d idle) = ap (λ l. far (slice_index_or l d idle)) (past_set xs c r high) in omega (arith, got)
    ]
    | inr n ↦ let got : far (slice_index_or (slice_set xs c r) d idle) ≡ far (slice_index_or xs d idle) = ap (λ x. far x) (get_or-set_other xs c d r idle n) in omega (arith, got)
  ],
)

-- ---- frames of clients

deposit_far : (r : Row) (s : ℕ) (held : DepositBody) → far r ≤ far (deposit_row r s held).row
unfolding deposit_row steps.deposit_at opening_gate
deposit_far r s held = cases (nat_lt s r.serial) (nat_eq s r.serial) (same_want (want_in held) (want_of r.stage)) (λ t u. let l = ltb-false _ _ t in let n = eqb-false _ _ u in omega (arith, l, n))
  where
    cases : (less same wanted : Bool) → (less ≡ false → same ≡ false → r.serial < s)
        → far r ≤ far (steps.deposit_at r s held (cond less (Stale r.serial) (cond same (cond wanted Same (Phase (phase_of r.stage))) New))).row
    cases true same wanted new = omega arith
    cases false true true new = omega arith
    cases false true false new = omega arith
    cases false false wanted new = let l = new refl refl in let few = rank_few r.stage in omega (arith, l, few)

proof_stage : (r : Row) (share : ProofShare) (x : Stage) → r.stage ≡ x → far r ≤ far (steps.proof_in r share x).row
unfolding steps.proof_in
proof_stage r share Idle e = omega arith
proof_stage r share (Deposited held) e = omega arith
proof_stage r share (Begun write) e = let same : rank r.stage ≡ 2 = ap (λ x. rank x) e in omega (arith, same)
proof_stage r share (Proved write before) e = omega arith
proof_stage r share (Audited write own) e = omega arith
proof_stage r share (Done want) e = omega arith

proof_far : (r : Row) (s : ℕ) (share : ProofShare) → far r ≤ far (proof_row r s share).row
unfolding proof_row steps.proof_at closing_gate
proof_far r s share = cases (nat_eq s r.serial) (same_want Write (want_of r.stage))
  where
    cases : (same wanted : Bool) → far r ≤ far (steps.proof_at r share (cond same (cond wanted Same (Phase (phase_of r.stage))) (Stale r.serial))).row
    cases true true = proof_stage r share r.stage refl
    cases true false = omega arith
    cases false wanted = omega arith

lane_grows : (h : Server) (f : PlainFrame) (t : RowTurn) → far (row_at h f.lane) ≤ far t.row → Grow h.rows (steps.if_lane h f t).server.rows
unfolding steps.if_lane
lane_grows h f t l = at_lane (nat_le h.settings.lanes f.lane)
  where
    at_lane : (past : Bool) → Grow h.rows (cond past (refuses h f (refusal.Lane h.settings.lanes)) (steps.at_row h f t)).server.rows
    at_lane true = same h.rows
    at_lane false = one h.rows f.lane t.row l

kind_grows : (h : Server) (f : PlainFrame) (body : PlainBody) → Grow h.rows (steps.by_kind h f body).server.rows
unfolding steps.by_kind
kind_grows h f (frame.Deposit held) = lane_grows h f (deposit_row (row_at h f.lane) f.serial held) (deposit_far (row_at h f.lane) f.serial held)
kind_grows h f (frame.Proof share) = lane_grows h f (proof_row (row_at h f.lane) f.serial share) (proof_far (row_at h f.lane) f.serial share)
kind_grows h f body = same h.rows

pub client_grows : (h : Server) (bytes : List ℕ) → Grow h.rows (steps.client_turn h bytes).server.rows
unfolding steps.on_whole
client_grows h bytes = at_read (whole bytes)
  where
    at_read : (found : Result PlainFrame Refusal) → Grow h.rows (steps.on_whole h found).server.rows
    at_read (Err r) = same h.rows
    at_read (Ok f) = kind_grows h f f.body

-- ---- commands

-- the stage that a command finds is that of a row of its serial
stage_is : (r : Row) (s : ℕ) (P : Stage → Type 0) → ((x : Stage) → x ≡ Idle → P x) → (r.serial ≡ s → P r.stage) → P (commands.stage_for r s)
stage_is r s P none here = at_test (nat_eq r.serial s) (λ t. eqb-true _ _ t)
  where
    at_test : (t : Bool) → (t ≡ true → r.serial ≡ s) → P (cond t r.stage Idle)
    at_test true e = here (e refl)
    at_test false e = none Idle refl

abbrev After : Server → PlainFrame → Effect → Type 0
After h f e = Grow h.rows e.server.rows

-- a row of the command's serial at a stage that is as far
sets : (h : Server) (f : PlainFrame) (x : Stage) → (row_at h f.lane).serial ≡ f.serial → rank (row_at h f.lane).stage ≤ rank x
    → Grow h.rows (slice_set h.rows f.lane (row f.serial x))
sets h f x e l = one h.rows f.lane (row f.serial x) (omega (arith, e, l))

ends : (h : Server) (f : PlainFrame) (want : Want) → (row_at h f.lane).serial ≡ f.serial → Grow h.rows (slice_set h.rows f.lane (row f.serial (Done want)))
ends h f want e = let l = rank_few (row_at h f.lane).stage in sets h f (Done want) e l

register_grows : (h : Server) (f : PlainFrame) (address : ℕ) (key : List ℕ) (found : Option ℕ) → (row_at h f.lane).serial ≡ f.serial
    → After h f (commands.register_at h f address key found)
unfolding commands.register_at
register_grows h f address key (Some n) e = ends h f Register e
register_grows h f address key None e = at_room (nat_le h.settings.boxes (length h.boxes))
  where
    at_room : (t : Bool) → After h f (cond t (commands.refuses (commands.done h f Register) (refusal.Full h.settings.boxes))
        (commands.replies_with (record (commands.done h f Register) { boxes = with_new h.settings.width address key h.boxes }) (frame.ReplyRegistered (length h.boxes))))
    at_room true = ends h f Register e
    at_room false = ends h f Register e

settle_grows : (h : Server) (f : PlainFrame) (leaders : Closing) (w : Written) (own : Closing) → (row_at h f.lane).serial ≡ f.serial
    → After h f (commands.settle h f leaders (Some (w, own)))
unfolding commands.settle
settle_grows h f leaders w own e = at_test (accepts leaders own)
  where
    at_test : (t : Bool) → After h f (cond t (commands.replies_with (commands.settled (commands.done h f Write) w) frame.ReplyAccepted) (commands.replies_with (commands.done h f Write) frame.ReplyRejected))
    at_test true = ends h f Write e
    at_test false = ends h f Write e

live_grows : (h : Server) (f : PlainFrame) (stays : Bool) (n held : ℕ) (box : Box) → (row_at h f.lane).serial ≡ f.serial → After h f (commands.read_live h f stays n held box)
unfolding commands.read_live
live_grows h f stays n held box e = at_test (nat_eq held (expansion.token box.key f.lane f.serial))
  where
    at_test : (t : Bool) → After h f (cond t (commands.replies_with (record (commands.done h f Read) { boxes = with_read h.settings.width stays n box h.boxes }) (frame.ReplyMasked (commands.masked h f box))) (commands.refuses (commands.done h f Read) (refusal.BadToken n)))
    at_test true = ends h f Read e
    at_test false = ends h f Read e

read_grows : (h : Server) (f : PlainFrame) (stays : Bool) (n held : ℕ) (found : Option Box) → (row_at h f.lane).serial ≡ f.serial → After h f (commands.read_at h f stays n held found)
unfolding commands.read_at
read_grows h f stays n held None e = ends h f Read e
read_grows h f stays n held (Some box) e = at_life box.live
  where
    at_life : (t : Bool) → After h f (cond t (commands.read_live h f stays n held box) (commands.refuses (commands.done h f Read) (refusal.NoBox n)))
    at_life true = live_grows h f stays n held box e
    at_life false = ends h f Read e

-- at a stage of the row whose serial is the command's
here_grows : (h : Server) (f : PlainFrame) (body : PlainBody) (x : Stage) → (row_at h f.lane).serial ≡ f.serial → (row_at h f.lane).stage ≡ x → After h f (commands.command h f body x)
unfolding commands.command commands.register commands.begin commands.audit commands.read commands.settle
here_grows h f (frame.LinkRegister address) (Deposited (deposit.Register key)) e at = register_grows h f address key (place_of address h.boxes) e
here_grows h f (frame.LinkBegin leaders part) (Deposited (deposit.Write root)) e at = let r : rank (row_at h f.lane).stage ≡ 1 = ap (λ x. rank x) at in sets h f (Begun _) e (omega (arith, r))
here_grows h f (frame.LinkAudit sigma opened) (Begun w) e at = ends h f Write e
here_grows h f (frame.LinkAudit sigma opened) (Proved w share) e at = let r : rank (row_at h f.lane).stage ≡ 3 = ap (λ x. rank x) at in sets h f (Audited _ _) e (omega (arith, r))
here_grows h f (frame.LinkSettle leaders) (Audited w own) e at = settle_grows h f leaders w own e
here_grows h f (frame.LinkRead n) (Deposited (deposit.Read held)) e at = read_grows h f true n held (slice_get h.boxes n) e
here_grows h f (frame.LinkRetire n) (Deposited (deposit.Read held)) e at = read_grows h f false n held (slice_get h.boxes n) e
here_grows h f body x e at = same h.rows

idle_grows : (h : Server) (f : PlainFrame) (body : PlainBody) → After h f (commands.command h f body Idle)
unfolding commands.command commands.register commands.begin commands.audit commands.read commands.settle
idle_grows h f (frame.LinkRegister address) = same h.rows
idle_grows h f (frame.LinkBegin leaders part) = same h.rows
idle_grows h f (frame.LinkAudit sigma opened) = same h.rows
idle_grows h f (frame.LinkSettle leaders) = same h.rows
idle_grows h f (frame.LinkRead n) = same h.rows
idle_grows h f (frame.LinkRetire n) = same h.rows
idle_grows h f body = same h.rows

none_grows : (h : Server) (f : PlainFrame) (body : PlainBody) (x : Stage) → x ≡ Idle → After h f (commands.command h f body x)
none_grows h f body x e = subst (λ x. After h f (commands.command h f body x)) (sym e) (idle_grows h f body)

carries_grow : (h : Server) (f : PlainFrame) → After h f (commands.carries_out h f)
unfolding commands.carries_out
carries_grow h f = at_lane (nat_le h.settings.lanes f.lane)
  where
    at_lane : (past : Bool) → After h f (cond past (commands.refuses h (refusal.Lane h.settings.lanes)) (commands.command h f f.body (commands.stage_for (row_at h f.lane) f.serial)))
    at_lane true = same h.rows
    at_lane false = stage_is (row_at h f.lane) f.serial (λ x. After h f (commands.command h f f.body x)) (none_grows h f f.body) (λ e. here_grows h f f.body (row_at h f.lane).stage e refl)

pub link_grows : (h : Helper) (bytes : List ℕ) → Grow h.server.rows (commands.on_link_bytes h bytes).helper.server.rows
unfolding commands.if_command commands.arrives
link_grows h bytes = at_read (linked is_command h.server.settings.width bytes)
  where
    at_read : (found : Option PlainFrame) → Grow h.server.rows (commands.if_command h found).helper.server.rows
    at_read None = same h.server.rows
    at_read (Some f) = at_next (nat_eq f.link (h.carried + 1))
      where
        old : Bool → Bool → LinkTurn
        old low kept = cond low (cond kept (record { helper = h; answer = Repeated (commands.kept_for h f.link) }) (record { helper = h; answer = Ignored })) (record { helper = h; answer = Ignored })

        at_old : (low kept : Bool) → Grow h.server.rows (old low kept).helper.server.rows
        at_old true true = same h.server.rows
        at_old true false = same h.server.rows
        at_old false kept = same h.server.rows

        at_next : (t : Bool) → Grow h.server.rows (cond t (commands.carried_with h f (commands.carries_out h.server f)) (old (nat_le f.link h.carried) (nat_le (h.carried + 1) (f.link + length h.replies)))).helper.server.rows
        at_next true = carries_grow h.server f
        at_next false = at_old (nat_le f.link h.carried) (nat_le (h.carried + 1) (f.link + length h.replies))

-- ---- the run over bytes

went_same : (f : FrameWorld) (c : ℕ) (rs : List Request) → (frames.goes_on f c rs).helper ≡ f.helper
unfolding frames.goes_on frames.was_asked
went_same f c [] = refl
went_same f c (r ∷ rest) = at_asked (asked (f.clients c) r) (frames.goes_on (frames.notes f c (NoOwnBox (own_of r))) c rest) (went_same (frames.notes f c (NoOwnBox (own_of r))) c rest)
  where
    at_asked : (a : Result Client Fault) (next : FrameWorld) → next.helper ≡ f.helper → (frames.was_asked f c rest next a).helper ≡ f.helper
    at_asked (Ok k) next e = refl
    at_asked (Err (client.NoBox own)) next e = e
    at_asked (Err client.Busy) next e = refl
    at_asked (Err client.Spent) next e = refl
    at_asked (Err (client.Width width)) next e = refl
    at_asked (Err (client.OwnFull n)) next e = refl

pub progress_same : (f : FrameWorld) (c : ℕ) (p : Progress) → (frames.goes_on_after f c p).helper ≡ f.helper
unfolding frames.goes_on_after
progress_same f c (Finished outcome) = went_same (frames.notes f c _) c (f.waiting c)
progress_same f c client.Ignored = refl
progress_same f c (client.Later r) = refl
progress_same f c client.Next = refl

pub answers_same : (f : FrameWorld) (order : Option PlainFrame) (a : Answer) → (frames.helper_answers f order a).helper ≡ f.helper
unfolding frames.helper_answers
answers_same f order (Carried reply) = refl
answers_same f order (Repeated bytes) = refl
answers_same f order Ignored = refl

pub comes_grow : (f : FrameWorld) (to : Addressee) (bytes : List ℕ) → Grow f.helper.server.rows (frames.comes f to bytes).helper.server.rows
unfolding frames.comes
comes_grow f (ToClient c) bytes = subst (λ h. Grow f.helper.server.rows h.server.rows) (sym (progress_same (frames.with_client f c _) c _)) (same f.helper.server.rows)
comes_grow f ToLeader bytes = same f.helper.server.rows
comes_grow f ToLeaderLink bytes = same f.helper.server.rows
comes_grow f ToHelper bytes = client_grows f.helper.server bytes
comes_grow f ToHelperLink bytes = subst (λ h. Grow f.helper.server.rows h.server.rows) (sym (answers_same _ _ _)) (link_grows f.helper bytes)
