-- The same bytes from outside come to a server in both runs: it takes the same act, and leaves its lane's row alike.
use Rattle.std.proofs.Common.{◌≡◌, ◌∙◌, ℕ, Bool, true, false, cond, nat_le, List, [], Some, Ok, Result, refl, sym, ap, subst, arith, inl, inr}
use Rattle.std.proofs.lemmas.Bool.{cases_Bool, cases_eq, leb-false}
use Rattle.express_words.specs.declared.refusal.Refusal.{Refusal}
use Rattle.frame_rules.specs.Frames.{PlainFrame}
use Rattle.frame_rules.specs.Whole.{whole}
use Rattle.mailbox_rules.specs.Requests.{Entry, Line, Request}
use Rattle.token_rules.specs.Tokens.{Act, World, no_act}
use Rattle.step_rules.specs.Helper as helper
use Rattle.step_rules.specs.Helper.{Server}
use Rattle.step_rules.specs.HelperClients as helpers
use Rattle.step_rules.specs.HelperClients.{client_turn}
use Rattle.step_rules.specs.Leader as leader
use Rattle.step_rules.specs.Leader.{Leader}
use Rattle.step_rules.specs.LeaderClients as leaders
use Rattle.step_rules.specs.LeaderClients.{on_client}
use Rattle.step_tokens.specs.HelperRows as helper_rows
use Rattle.step_tokens.specs.LeaderRows as leader_rows
use Rattle.run_rules.specs.Letters.{FrameWorld}
use Rattle.run_rules.specs.Book.{Book, Brought}
use Rattle.run_rules.specs.Acts.{Both, Taken, helper_act, helper_takes, issues_of, leader_act, leader_takes, says_of, taken_in}
use Rattle.run_rules.specs.Plain.{IsHistory}
use Rattle.run_hiding.proofs.LikeFrames as like_frames
use Rattle.run_hiding.proofs.LikeFrames.{Turned, turned}
use Rattle.run_hiding.proofs.LikeLeader as like_leader
use Rattle.run_hiding.proofs.LikeLeader.{Told, told, hidden_answer, hidden_row, hidden_stage}
use Rattle.run_hiding.proofs.OtherRows.{helper_client_rows, leader_client_rows}
use Rattle.run_hiding.proofs.Twins.{Alike, Paired, helper_is, leader_boxes, leader_is, outstanding_count}

abbrev pick : Bool → List Taken → List Taken
pick past ts = cond past [] ts

ok_same : {x y : PlainFrame} → (let r : Result PlainFrame Refusal = Ok x in r) ≡ Ok y → x ≡ y
ok_same e = cc

-- a row's phase is told without what it keeps
bare_stage : (s : ℕ) (x : leader.Stage) → leader_rows.bare (leader.row s (hidden_stage x)) ≡ leader_rows.bare (leader.row s x)
bare_stage s leader.Idle = refl
bare_stage s (leader.Waiting n asked) = refl
bare_stage s (leader.Challenged write kept) = refl
bare_stage s (leader.Auditing n write share sigma opened) = refl
bare_stage s (leader.Settling n write own other) = refl
bare_stage s (leader.Done want kept) = refl

pub bare_hidden : (r : leader.Row) → leader_rows.bare (hidden_row r) ≡ leader_rows.bare r
bare_hidden r = bare_stage r.serial r.stage

says_hidden : (a : leader.Answer) → says_of (hidden_answer a) ≡ says_of a
says_hidden (leader.Reply reply) = refl
says_hidden (leader.Link n command) = refl
says_hidden (leader.StillWaiting n) = refl

issues_hidden : (a : leader.Answer) → issues_of (hidden_answer a) ≡ issues_of a
issues_hidden (leader.Reply reply) = refl
issues_hidden (leader.Link n command) = refl
issues_hidden (leader.StillWaiting n) = refl

takes_hidden : (g : PlainFrame) (a : leader.Answer) → leader_takes g (hidden_answer a) ≡ leader_takes g a
takes_hidden g (leader.Reply reply) = refl
takes_hidden g (leader.Link n command) = refl
takes_hidden g (leader.StillWaiting n) = refl

module _ (b : Book) (sent : ℕ → List Request) (commands : List Line) (entries : List Entry) (brought : Brought) (v z : World) (history : IsHistory b)
    (s t : Both) (pair : Paired b sent commands entries brought v z history s t) (alike : Alike b sent commands entries brought v z history s t)
    (c : ℕ) (foreign : b.foreign c ≡ true) (bytes : List ℕ) (x : PlainFrame) (read : whole bytes ≡ Ok x) (lane : x.lane ≡ c) where
  abbrev f : FrameWorld
  f = s.frames

  abbrev g : FrameWorld
  g = t.frames

  abbrev h : Server
  h = f.helper.server

  abbrev k : Server
  k = g.helper.server

  here : b.foreign x.lane ≡ true
  here = ap b.foreign lane ∙ foreign

  mine : (other : ℕ) → (x.lane ≡ other → ⊥) → (y : PlainFrame) → whole bytes ≡ Ok y → y.lane ≡ other → ⊥
  mine other never y is at = never (ap (λ (y : PlainFrame). y.lane) (ok_same (sym read ∙ is)) ∙ at)

  -- ---- at the helper

  helper_row : helper.row_at k x.lane ≡ helper.row_at h x.lane
  helper_row = alike.helper x.lane here

  abbrev at_helper : helper.Turn → Turned
  at_helper u = turned (helper.row_at u.server x.lane) u.reply.lane

  helper_kinds : at_helper (helpers.by_kind (record h { boxes = k.boxes; rows = k.rows }) x x.body) ≡ at_helper (helpers.by_kind h x x.body)
  helper_kinds = elim (cases_Bool (nat_le h.settings.lanes x.lane)) [
    | inl past ↦ like_frames.pasts_alike h k.boxes k.rows x helper_row past x.body
    | inr there ↦
        let low = leb-false _ _ there in
        let settings = ap (λ y. y.lanes) pair.follows.helper.settings in
        let one = pair.follows.helper.count in
        let two = pair.others.helper.count in
        like_frames.kinds_alike h k.boxes k.rows x helper_row (omega (arith, low, settings, one)) (omega (arith, low, settings, two)) x.body
  ]

  helper_turns : at_helper (client_turn k bytes) ≡ at_helper (client_turn h bytes)
  unfolding helpers.on_whole
  helper_turns =
      ap (λ r. at_helper (helpers.on_whole k r)) read
      ∙ ap (λ y. at_helper (helpers.by_kind y x x.body)) (sym (ap (λ y. y.server) (helper_is b sent commands entries brought v z history s t pair alike)))
      ∙ helper_kinds ∙ sym (ap (λ r. at_helper (helpers.on_whole h r)) read)

  pub helper_acts : helper_act g c bytes ≡ helper_act f c bytes
  helper_acts =
      subst (λ c. helper_act g c bytes ≡ helper_act f c bytes) lane
      (ap (λ (y : Turned). record no_act { row = helper_rows.bare y.row; says = Some y.lane }) helper_turns)

  pub helper_taken : taken_in false g bytes (whole bytes) ≡ taken_in false f bytes (whole bytes)
  helper_taken =
      ap (taken_in false g bytes) read
      ∙ ap (λ (y : Server). pick (nat_le y.settings.lanes x.lane) (helper_takes (helper.row_at k x.lane) x x.body)) (sym (ap (λ y. y.server) (helper_is b sent commands entries brought v z history s t pair alike)))
      ∙ ap (λ r. pick (nat_le h.settings.lanes x.lane) (helper_takes r x x.body)) helper_row
      ∙ sym (ap (taken_in false f bytes) read)

  pub helper_rows_after : (other : ℕ) → b.foreign other ≡ true → helper.row_at (client_turn k bytes).server other ≡ helper.row_at (client_turn h bytes).server other
  helper_rows_after other is = elim (cases_eq x.lane other) [
    | inl same ↦ subst (λ n. helper.row_at (client_turn k bytes).server n ≡ helper.row_at (client_turn h bytes).server n) same (ap (λ (y : Turned). y.row) helper_turns)
    | inr never ↦ helper_client_rows k bytes other (mine other never) ∙ alike.helper other is ∙ sym (helper_client_rows h bytes other (mine other never))
  ]

  -- ---- at the leader

  leader_row : hidden_row (leader.row_at g.leader x.lane) ≡ hidden_row (leader.row_at f.leader x.lane)
  leader_row = alike.leader x.lane here

  abbrev at_leader : leader.Turn → Told
  at_leader u = told (hidden_row (leader.row_at u.leader x.lane)) (hidden_answer u.answer)

  leader_kinds : at_leader (leaders.by_kind (record f.leader { boxes = g.leader.boxes; rows = g.leader.rows; outstanding = g.leader.outstanding }) x x.body) ≡ at_leader (leaders.by_kind f.leader x x.body)
  leader_kinds =
      let like = leader_boxes b sent commands entries brought v z history s t pair alike in
      elim (cases_Bool (nat_le f.leader.settings.lanes x.lane)) [
        | inl past ↦ like_leader.pasts_alike f.leader g.leader.boxes g.leader.rows g.leader.outstanding x like leader_row past x.body
        | inr there ↦
            let low = leb-false _ _ there in
            let settings = ap (λ y. y.lanes) pair.follows.leader.settings in
            let one = pair.follows.leader.count in
            let two = pair.others.leader.count in
            like_leader.kinds_alike f.leader g.leader.boxes g.leader.rows g.leader.outstanding x like leader_row (omega (arith, low, settings, one)) (omega (arith, low, settings, two))
            (outstanding_count b sent commands entries brought v z history s t pair alike) x.body
      ]

  leader_turns : at_leader (on_client g.leader bytes) ≡ at_leader (on_client f.leader bytes)
  unfolding leaders.on_whole
  leader_turns =
      ap (λ r. at_leader (leaders.on_whole g.leader r)) read
      ∙ ap (λ y. at_leader (leaders.by_kind y x x.body)) (sym (leader_is b sent commands entries brought v z history s t pair alike))
      ∙ leader_kinds ∙ sym (ap (λ r. at_leader (leaders.on_whole f.leader r)) read)

  act_from : Told → Act
  act_from y = record no_act { row = leader_rows.bare y.row; says = says_of y.answer; issues = issues_of y.answer }

  act_is : (a : FrameWorld) → leader_act a x.lane bytes ≡ act_from (at_leader (on_client a.leader bytes))
  unfolding act_from
  act_is a =
      let u = on_client a.leader bytes in
      ap (λ r. record no_act { row = r; says = says_of u.answer; issues = issues_of u.answer }) (sym (bare_hidden (leader.row_at u.leader x.lane)))
      ∙ ap (λ y. record no_act { row = leader_rows.bare (hidden_row (leader.row_at u.leader x.lane)); says = y; issues = issues_of u.answer }) (sym (says_hidden u.answer))
      ∙ ap (λ y. record no_act { row = leader_rows.bare (hidden_row (leader.row_at u.leader x.lane)); says = says_of (hidden_answer u.answer); issues = y }) (sym (issues_hidden u.answer))

  pub leader_acts : leader_act g c bytes ≡ leader_act f c bytes
  leader_acts = subst (λ c. leader_act g c bytes ≡ leader_act f c bytes) lane (act_is g ∙ ap act_from leader_turns ∙ sym (act_is f))

  pub leader_taken : taken_in true g bytes (whole bytes) ≡ taken_in true f bytes (whole bytes)
  leader_taken =
      ap (taken_in true g bytes) read
      ∙ sym (takes_hidden x (on_client g.leader bytes).answer) ∙ ap (λ (y : Told). leader_takes x y.answer) leader_turns ∙ takes_hidden x (on_client f.leader bytes).answer
      ∙ sym (ap (taken_in true f bytes) read)

  pub leader_rows_after : (other : ℕ) → b.foreign other ≡ true
      → hidden_row (leader.row_at (on_client g.leader bytes).leader other) ≡ hidden_row (leader.row_at (on_client f.leader bytes).leader other)
  leader_rows_after other is = elim (cases_eq x.lane other) [
    | inl same ↦ subst (λ n. hidden_row (leader.row_at (on_client g.leader bytes).leader n) ≡ hidden_row (leader.row_at (on_client f.leader bytes).leader n)) same (ap (λ (y : Told). y.row) leader_turns)
    | inr never ↦
        ap (λ r. hidden_row r) (leader_client_rows g.leader bytes other (mine other never)) ∙ alike.leader other is
        ∙ sym (ap (λ r. hidden_row r) (leader_client_rows f.leader bytes other (mine other never)))
  ]
