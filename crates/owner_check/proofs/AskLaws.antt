-- A server that is asked stays as it was.
use Rattle.std.proofs.Common.{◌≡◌, ℕ, ◌+◌, ◌^◌, ◌<◌, ◌≤◌, ◌==◌, nat_lt, nat_le, nat_eq, Bool, true, false, cond, List, [], length, ◌-◌, Option, Some, None, replicate, Ok, slice_get, refl, sym, ap, subst, ◌∙◌, append-nil, arith}
use Rattle.std.proofs.lemmas.Bool.{eq-eqb}
use Rattle.std.proofs.lemmas.Bool.Decides.{nat_tests}
use Rattle.std.proofs.lemmas.List.{set-get_or, length-replicate}
use Rattle.std.proofs.lemmas.Option.{slice_get_past}
use Rattle.express_words.specs.Limits.{IsWidth, levels_len}
use Rattle.express_words.specs.declared.refusal.Refusal.TheVariants as refusal
use Rattle.frame_rules.specs.Frames.{PlainFrame, Write}
use Rattle.frame_rules.specs.Reading.{decoded}
use Rattle.frame_rules.specs.Spelling.{spelling, IsFrame}
use Rattle.frame_rules.specs.Whole.{whole, whole_of, has_width}
use Rattle.frame_rules.proofs.GrammarLaws.{decoded_again}
use Rattle.frame_rules.specs.declared.frame.DepositBody.TheVariants as deposits
use Rattle.lane_table.specs.Gates.{opening_gate, fits_want, same_want}
use Rattle.lane_table.specs.declared.gate.Gate.{Gate}
use Rattle.lane_table.specs.declared.gate.Gate.TheVariants.{New, Same, Stale, Phase}
use Rattle.lane_table.specs.declared.row.Row.{Row as Door}
use Rattle.lane_table.specs.declared.row.Want.{Want}
use Rattle.step_rules.specs.Boxes.{Box}
use Rattle.step_rules.specs.Helper as helper
use Rattle.step_rules.specs.Helper.{Helper, Server}
use Rattle.step_rules.specs.HelperClients as at_helper
use Rattle.step_rules.specs.HelperClients.{RowTurn}
use Rattle.step_rules.specs.Leader as leader
use Rattle.step_rules.specs.Leader.{Leader, Asked, Stage, Reading, Writing, Idle, Waiting, Challenged, Auditing, Settling, Done, Turn}
use Rattle.step_rules.specs.LeaderClients as at_leader
use Rattle.step_rules.specs.LeaderClients.{Named}
use Rattle.owner_check.specs.Laws.{KeepsLeader, KeepsOtherServer, KeepsWhenAskedItsWidth, KeepsHelper}
use Rattle.owner_check.specs.Questions.{no_box, leader_question, write_question, width_question, helper_question}

-- ---- a question is one frame

whole_spelled : (f : PlainFrame) → IsFrame f → whole (spelling f) ≡ Ok f
unfolding whole_of
whole_spelled f h =
    let e : decoded (spelling f) ≡ Ok (f, length (spelling f)) = ap decoded (sym (append-nil (spelling f))) ∙ decoded_again f [] h in
    rw (e, eq-eqb (length (spelling f)) (length (spelling f)) refl) refl

leader_asked : (lane : ℕ) → lane < 2 ^ 16 → whole (spelling (leader_question lane)) ≡ Ok (leader_question lane)
leader_asked lane small = whole_spelled (leader_question lane) (record {
  lane = small;
  serial = omega arith;
  addressed = omega arith;
  link = omega arith;
  linked = refl;
  body = (omega arith, omega arith);
})

helper_asked : (lane : ℕ) → lane < 2 ^ 16 → whole (spelling (helper_question lane)) ≡ Ok (helper_question lane)
helper_asked lane small = whole_spelled (helper_question lane) (record {
  lane = small;
  serial = omega arith;
  addressed = omega arith;
  link = omega arith;
  linked = refl;
  body = omega arith;
})

abbrev zeros : ℕ → List ℕ
zeros n = replicate n 0

width_asked : (lane width : ℕ) → lane < 2 ^ 16 → IsWidth width
    → whole (spelling (width_question lane width)) ≡ Ok (width_question lane width)
width_asked lane width small is =
    let long : length (zeros (levels_len + width)) ≡ levels_len + width = length-replicate (levels_len + width) 0 in
    whole_spelled (width_question lane width) (record {
      lane = small;
      serial = omega arith;
      addressed = omega arith;
      link = omega arith;
      linked = refl;
      body = (omega arith, (part (zeros (levels_len + width)) long));
    })
  where
    part : (bytes : List ℕ) → length bytes ≡ levels_len + width → (levels_len ≤ length bytes) × IsWidth (length bytes - levels_len)
    part bytes long =
        let rest : length bytes - levels_len ≡ width = omega (arith, long) in
        (omega (arith, long), subst IsWidth (sym rest) is)

-- ---- a leader

-- a request's own answer again
again_stays : (a : Leader) (f : PlainFrame) (stage : Stage) → (at_leader.again_at a f stage).leader ≡ a
unfolding at_leader.again_at
again_stays a f Idle = refl
again_stays a f (Waiting number asked) = refl
again_stays a f (Challenged write kept) = refl
again_stays a f (Auditing number write share sigma opened) = refl
again_stays a f (Settling number write own other) = refl
again_stays a f (Done want kept) = refl

-- a box that isn't there
no_box_stays : (a : Leader) (f : PlainFrame) (named : Named) (issued : Turn) → slice_get a.boxes named.number ≡ None
    → (at_leader.if_named a f (Some named) issued).leader ≡ a
unfolding at_leader.if_named at_leader.if_token
no_box_stays a f named issued none = rw none refl

new_stays : (a : Leader) (f : PlainFrame) (asked : Asked) (named : Named) (stage : Stage)
    → slice_get a.boxes named.number ≡ None → (at_leader.new_at a f asked (Some named) stage).leader ≡ a
unfolding at_leader.new_at
new_stays a f asked named Idle none = no_box_stays a f named _ none
new_stays a f asked named (Waiting number other) none = refl
new_stays a f asked named (Challenged write kept) none = no_box_stays a f named _ none
new_stays a f asked named (Auditing number write share sigma opened) none = refl
new_stays a f asked named (Settling number write own other) none = refl
new_stays a f asked named (Done want kept) none = no_box_stays a f named _ none

gated_stays : (a : Leader) (f : PlainFrame) (asked : Asked) (named : Named) (gate : Gate)
    → slice_get a.boxes named.number ≡ None → (at_leader.submission_at a f asked (Some named) gate).leader ≡ a
unfolding at_leader.submission_at
gated_stays a f asked named (Stale n) none = refl
gated_stays a f asked named (Phase p) none = refl
gated_stays a f asked named Same none = again_stays a f _
gated_stays a f asked named New none = new_stays a f asked named _ none

read_stays : (a : Leader) (f : PlainFrame) (asked : Asked) (named : Named) → slice_get a.boxes named.number ≡ None
    → (at_leader.on_submission a f asked (Some named)).leader ≡ a
unfolding at_leader.on_submission
read_stays a f asked named none = at_lane (nat_le a.settings.lanes f.lane)
  where
    at_lane : (t : Bool)
        → (cond t (leader.refuses a f (refusal.Lane a.settings.lanes)) (at_leader.submission_at a f asked (Some named) (opening_gate (leader.door (leader.row_at a f.lane)) f.serial (leader.want_in asked)))).leader ≡ a
    at_lane true = refl
    at_lane false = gated_stays a f asked named (opening_gate (leader.door (leader.row_at a f.lane)) f.serial (leader.want_in asked)) none

pub keeps_leader : KeepsLeader
unfolding at_leader.on_whole at_leader.by_kind
keeps_leader a lane small few =
    rw (leader_asked lane small)
    (read_stays a (leader_question lane) (Reading no_box) (record { number = no_box; held = 0 }) (slice_get_past a.boxes no_box few))

-- serial 1 at a row that had a request is no new one
not_new : (row : Door) (want : Want) → 1 ≤ row.serial → opening_gate row 1 want ≡ New → ⊥
unfolding opening_gate
not_new row want some e = at_less (nat_lt 1 row.serial) refl (nat_eq 1 row.serial) refl e
  where
    fits : (t : Bool) → cond t Same (Phase row.phase) ≡ New → ⊥
    fits true h = cc
    fits false h = cc

    at_less : (t : Bool) → nat_lt 1 row.serial ≡ t → (u : Bool) → nat_eq 1 row.serial ≡ u
        → cond t (Stale row.serial) (cond u (fits_want row want) New) ≡ New → ⊥
    at_less true l u m h = cc
    at_less false l true m h = fits (same_want want row.want) h
    at_less false l false m h = grind (arith, nat_tests)

opened_stays : (a : Leader) (f : PlainFrame) (asked : Asked) (named : Option Named) (gate : Gate) → (gate ≡ New → ⊥)
    → (at_leader.submission_at a f asked named gate).leader ≡ a
unfolding at_leader.submission_at
opened_stays a f asked named (Stale n) old = refl
opened_stays a f asked named (Phase p) old = refl
opened_stays a f asked named Same old = again_stays a f _
opened_stays a f asked named New old = absurd (old refl)

write_stays : (a : Leader) (f : PlainFrame) (asked : Asked) → f.serial ≡ 1 → 1 ≤ (leader.row_at a f.lane).serial
    → (at_leader.on_submission a f asked None).leader ≡ a
unfolding at_leader.on_submission
write_stays a f asked first some = at_lane (nat_le a.settings.lanes f.lane)
  where
    old : opening_gate (leader.door (leader.row_at a f.lane)) f.serial (leader.want_in asked) ≡ New → ⊥
    old e =
        not_new (leader.door (leader.row_at a f.lane)) (leader.want_in asked) some
        (ap (λ n. opening_gate (leader.door (leader.row_at a f.lane)) n (leader.want_in asked)) (sym first) ∙ e)

    at_lane : (t : Bool)
        → (cond t (leader.refuses a f (refusal.Lane a.settings.lanes)) (at_leader.submission_at a f asked None (opening_gate (leader.door (leader.row_at a f.lane)) f.serial (leader.want_in asked)))).leader ≡ a
    at_lane true = refl
    at_lane false = opened_stays a f asked None (opening_gate (leader.door (leader.row_at a f.lane)) f.serial (leader.want_in asked)) old

pub keeps_when_asked : KeepsWhenAskedItsWidth
unfolding at_leader.on_whole at_leader.by_kind
keeps_when_asked a lane width small is some =
    rw (width_asked lane width small is) (at_width (has_width a.settings.width (Write 0 (replicate (levels_len + width) 0))))
  where
    at_width : (t : Bool)
        → (cond t (at_leader.on_submission a (width_question lane width) (Writing 0 (replicate (levels_len + width) 0) (at_leader.draw a)) None) (leader.refuses_bytes a (refusal.Malformed 0))).leader ≡ a
    at_width true = write_stays a (width_question lane width) (Writing 0 (replicate (levels_len + width) 0) (at_leader.draw a)) refl some
    at_width false = refl

-- ---- a helper

pub keeps_other : KeepsOtherServer
unfolding at_helper.on_whole at_helper.by_kind
keeps_other h lane small = rw (leader_asked lane small) refl

same_row : (h : Server) (lane : ℕ) (r : helper.Row) → r ≡ helper.row_at h lane → helper.with_row h lane r ≡ h
same_row h lane r e =
    ap (helper.with_row h lane) e ∙ ap (λ rows. record h { rows = rows }) (set-get_or h.rows lane helper.idle)

deposit_stays : (r : helper.Row) (gate : Gate) → (gate ≡ New → ⊥)
    → (at_helper.deposit_at r 1 (deposits.Write 0) gate).row ≡ r
unfolding at_helper.deposit_at
deposit_stays r (Stale n) old = refl
deposit_stays r (Phase p) old = refl
deposit_stays r Same old = refl
deposit_stays r New old = absurd (old refl)

row_stays : (r : helper.Row) → 1 ≤ r.serial → (at_helper.deposit_row r 1 (deposits.Write 0)).row ≡ r
unfolding at_helper.deposit_row
row_stays r some = deposit_stays r _ (not_new (helper.door r) (helper.want_in (deposits.Write 0)) some)

lane_stays : (h : Server) (f : PlainFrame) (t : RowTurn) → t.row ≡ helper.row_at h f.lane
    → (at_helper.if_lane h f t).server ≡ h
unfolding at_helper.if_lane
lane_stays h f t is = at_lane (nat_le h.settings.lanes f.lane)
  where
    at_lane : (b : Bool)
        → (cond b (helper.refuses h f (refusal.Lane h.settings.lanes)) (at_helper.at_row h f t)).server ≡ h
    at_lane true = refl
    at_lane false = same_row h f.lane t.row is

pub keeps_helper : KeepsHelper
unfolding at_helper.on_whole at_helper.by_kind
keeps_helper h lane small some =
    rw (helper_asked lane small)
    (ap (λ s. record h { server = s }) (lane_stays h.server (helper_question lane) _ (row_stays (helper.row_at h.server lane) some)))
