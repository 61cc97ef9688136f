-- What the helper carries out and doesn't refuse found what it needs.
use Rattle.std.specs.Prelude.{◌≡◌, ℕ, ◌+◌, ◌<◌, Bool, true, false, cond, nat_le, nat_eq, refl, List, length, Option, Some, None, slice_get}
use Rattle.std.proofs.Common.{ap, arith}
use Rattle.std.proofs.lemmas.Bool.{eqb-true, leb-false}
use Rattle.express_words.specs.declared.audit.ProofShare.{ProofShare}
use Rattle.express_words.specs.declared.audit.Openings.{Openings}
use Rattle.express_words.specs.declared.audit.Closing.{Closing}
use Rattle.express_words.specs.declared.refusal.Refusal.TheVariants as refusal
use Rattle.frame_rules.specs.declared.frame.DepositBody.TheVariants as deposit
use Rattle.frame_rules.specs.Frames as frame
use Rattle.frame_rules.specs.Frames.{PlainFrame, PlainBody}
use Rattle.frame_rules.specs.Whole.{linked, is_command}
use Rattle.dpf_rules.specs.Expansion.{token}
use Rattle.audit_rules.specs.Values.{Write}
use Rattle.lane_table.specs.declared.row.Want.TheVariants.{Read}
use Rattle.step_rules.specs.Boxes.{Box, with_read}
use Rattle.step_rules.specs.Helper.{Server, Helper, Row, Stage, Idle, Deposited, Proved, Audited, row_at, Repeated, Ignored, LinkTurn}
use Rattle.step_rules.specs.HelperCommands as steps
use Rattle.step_rules.specs.HelperCommands.{Effect, stage_for, held_key, held_root, held_proof, held_closing, held_token, register, begin, audit, settle, read_live, read_at, read, command, carries_out, carried_with, arrives, if_command, kept_for}
use Rattle.step_rules.specs.Needs.{HasBox, HoldsFor, IsRefused, HadFor, HelperNeeds}

abbrev Good : Effect → Type 0
Good e = IsRefused e.body → ⊥

registers : (h : Server) (f : PlainFrame) (address : ℕ) (stage : Stage) → Good (register h f address (held_key stage))
    → (key : List ℕ) × (stage ≡ Deposited (deposit.Register key))
unfolding register
registers h f address (Deposited (deposit.Register key)) good = (key, refl)
registers h f address stage good = absurd (good tt)

begins : (h : Server) (f : PlainFrame) (leaders part : List ℕ) (stage : Stage) → Good (begin h f leaders part (held_root stage))
    → (root : ℕ) × (stage ≡ Deposited (deposit.Write root))
unfolding begin
begins h f leaders part (Deposited (deposit.Write root)) good = (root, refl)
begins h f leaders part stage good = absurd (good tt)

audits : (h : Server) (f : PlainFrame) (sigma : ℕ) (other : Openings) (stage : Stage) → Good (audit h f sigma other (held_proof stage))
    → (write : Write) × (share : ProofShare) × (stage ≡ Proved write share)
unfolding audit
audits h f sigma other (Proved write share) good = (write, share, refl)
audits h f sigma other stage good = absurd (good tt)

settles : (h : Server) (f : PlainFrame) (leaders : Closing) (stage : Stage) → Good (settle h f leaders (held_closing stage))
    → (write : Write) × (own : Closing) × (stage ≡ Audited write own)
unfolding settle
settles h f leaders (Audited write own) good = (write, own, refl)
settles h f leaders stage good = absurd (good tt)

reads_live : (h : Server) (f : PlainFrame) (stays : Bool) (number held : ℕ) (box : Box) → slice_get h.boxes number ≡ Some box → box.live ≡ true
    → Good (read_live h f stays number held box) → HasBox h f number (Deposited (deposit.Read held))
unfolding read_live
reads_live h f stays number held box is live = at_test (nat_eq held (token box.key f.lane f.serial)) refl
  where
    at_test : (t : Bool) → nat_eq held (token box.key f.lane f.serial) ≡ t
        → Good (cond t (steps.replies_with (record (steps.done h f Read) { boxes = with_read h.settings.width stays number box h.boxes }) (frame.ReplyMasked (steps.masked h f box))) (steps.refuses (steps.done h f Read) (refusal.BadToken number)))
        → HasBox h f number (Deposited (deposit.Read held))
    at_test true e good =
        record { box = box; is = is; live = live; deposited = ap (λ n. Deposited (deposit.Read n)) (eqb-true _ _ e) }
    at_test false e good = absurd (good tt)

reads_at : (h : Server) (f : PlainFrame) (stays : Bool) (number held : ℕ) (found : Option Box) → slice_get h.boxes number ≡ found
    → Good (read_at h f stays number held found) → HasBox h f number (Deposited (deposit.Read held))
unfolding read_at
reads_at h f stays number held None is good = absurd (good tt)
reads_at h f stays number held (Some box) is good = at_life box.live refl good
  where
    at_life : (t : Bool) → box.live ≡ t → Good (cond t (read_live h f stays number held box) (steps.refuses (steps.done h f Read) (refusal.NoBox number)))
        → HasBox h f number (Deposited (deposit.Read held))
    at_life true e good = reads_live h f stays number held box is e good
    at_life false e good = absurd (good tt)

reads : (h : Server) (f : PlainFrame) (stays : Bool) (number : ℕ) (stage : Stage) → Good (read h f stays number (held_token stage)) → HasBox h f number stage
unfolding read
reads h f stays number (Deposited (deposit.Read held)) good = reads_at h f stays number held (slice_get h.boxes number) refl good
reads h f stays number stage good = absurd (good tt)

commanded : (h : Server) (f : PlainFrame) (body : PlainBody) (stage : Stage) → Good (command h f body stage) → HoldsFor h f body stage
unfolding command
commanded h f (frame.LinkRegister address) stage good = registers h f address stage good
commanded h f (frame.LinkBegin leaders part) stage good = begins h f leaders part stage good
commanded h f (frame.LinkAudit sigma opened) stage good = audits h f sigma opened stage good
commanded h f (frame.LinkSettle leaders) stage good = settles h f leaders stage good
commanded h f (frame.LinkRead number) stage good = reads h f true number stage good
commanded h f (frame.LinkRetire number) stage good = reads h f false number stage good
commanded h f body stage good = absurd (good tt)

-- an idle row holds nothing
idle_never : (h : Server) (f : PlainFrame) (body : PlainBody) → HoldsFor h f body Idle → ⊥
idle_never h f (frame.LinkRegister address) holds = absurd (cc holds.1)
idle_never h f (frame.LinkBegin leaders part) holds = absurd (cc holds.1)
idle_never h f (frame.LinkAudit sigma opened) holds = absurd (cc holds.2)
idle_never h f (frame.LinkSettle leaders) holds = absurd (cc holds.2)
idle_never h f (frame.LinkRead number) holds = absurd (cc holds.deposited)
idle_never h f (frame.LinkRetire number) holds = absurd (cc holds.deposited)
idle_never h f body holds = holds

at_serial : (h : Server) (f : PlainFrame) (body : PlainBody) (r : Row) (serial : ℕ) → HoldsFor h f body (stage_for r serial)
    → (r.serial ≡ serial) × HoldsFor h f body r.stage
at_serial h f body r serial = at_test (nat_eq r.serial serial) refl
  where
    at_test : (t : Bool) → nat_eq r.serial serial ≡ t → HoldsFor h f body (cond t r.stage Idle) → (r.serial ≡ serial) × HoldsFor h f body r.stage
    at_test true e holds = (eqb-true _ _ e, holds)
    at_test false e holds = absurd (idle_never h f body holds)

-- a lane that is there, whose row holds what the command needs
abbrev pub Had : Server → PlainFrame → Type 0
Had h f = (f.lane < h.settings.lanes) × ((row_at h f.lane).serial ≡ f.serial) × HoldsFor h f f.body (row_at h f.lane).stage

pub carried_had : (h : Server) (f : PlainFrame) → Good (carries_out h f) → Had h f
unfolding carries_out
carried_had h f = at_lane (nat_le h.settings.lanes f.lane) refl
  where
    at_lane : (t : Bool) → nat_le h.settings.lanes f.lane ≡ t
        → Good (cond t (steps.refuses h (refusal.Lane h.settings.lanes)) (command h f f.body (stage_for (row_at h f.lane) f.serial))) → Had h f
    at_lane true e good = absurd (good tt)
    at_lane false e good =
        let low = leb-false _ _ e in
        let at = at_serial h f f.body (row_at h f.lane) f.serial (commanded h f f.body (stage_for (row_at h f.lane) f.serial) good) in
        (omega (arith, low), at.0, at.1)

arrived : Helper → PlainFrame → Bool → Bool → Bool → LinkTurn
arrived h f next before kept =
    cond next (carried_with h f (carries_out h.server f)) (cond before (cond kept (record { helper = h; answer = Repeated (kept_for h f.link) }) (record { helper = h; answer = Ignored })) (record { helper = h; answer = Ignored }))

arrived_had : (h : Helper) (bytes : List ℕ) (f : PlainFrame) → linked is_command h.server.settings.width bytes ≡ Some f
    → (next before kept : Bool) → nat_eq f.link (h.carried + 1) ≡ next → HadFor (arrived h f next before kept).answer h bytes
unfolding arrived
arrived_had h bytes f read true before kept e = λ good.
    let had = carried_had h.server f good in
    record { command = f; read = read; next = eqb-true _ _ e; lane = had.0; serial = had.1; holds = had.2 }
arrived_had h bytes f read false true true e = tt
arrived_had h bytes f read false true false e = tt
arrived_had h bytes f read false false kept e = tt

found_had : (h : Helper) (bytes : List ℕ) (found : Option PlainFrame) → linked is_command h.server.settings.width bytes ≡ found
    → HadFor (if_command h found).answer h bytes
unfolding if_command arrives arrived
found_had h bytes (Some f) read =
    arrived_had h bytes f read (nat_eq f.link (h.carried + 1)) (nat_le f.link h.carried) (nat_le (h.carried + 1) (f.link + length h.replies)) refl
found_had h bytes None read = tt

pub helper_needs : HelperNeeds
helper_needs h bytes = found_had h bytes (linked is_command h.server.settings.width bytes) refl
