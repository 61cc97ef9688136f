-- A leader and its twin step alike.
use Rattle.std.specs.Prelude.{◌≡◌, ℕ, ◌+◌, ◌-◌, ◌^◌, ◌&&◌, Bool, true, false, cond, not, is_none, nat_le, nat_lt, nat_eq, refl, List, [], ◌∷◌, ◌++◌, length, drop, position, replicate, Option, Some, None, Result, Ok, Err, slice_get}
use Rattle.std.specs.List.{AllZip}
use Rattle.std.proofs.Common.{ap, sym, subst, ◌∙◌, inl, inr, zero, suc}
use Rattle.std.proofs.lemmas.Nat.{xor_comm}
use Rattle.std.proofs.lemmas.Bool.{eq-eqb}
use Rattle.express_words.specs.declared.settings.Settings.{Settings}
use Rattle.express_words.specs.declared.audit.ProofShare.{ProofShare}
use Rattle.express_words.specs.declared.audit.Openings.{Openings}
use Rattle.express_words.specs.declared.audit.Closing.{Closing}
use Rattle.express_words.specs.declared.refusal.Refusal.{Refusal}
use Rattle.express_words.specs.declared.refusal.Refusal.TheVariants as refusal
use Rattle.frame_rules.specs.Frames as frame
use Rattle.frame_rules.specs.Frames.{PlainFrame, PlainBody}
use Rattle.frame_rules.specs.Whole.{whole, linked, is_reply, has_width, on_link, answer}
use Rattle.lane_table.specs.Gates.{opening_gate, closing_gate}
use Rattle.lane_table.specs.declared.gate.Gate.{Gate}
use Rattle.lane_table.specs.declared.gate.Gate.TheVariants.{New, Same, Stale, Phase}
use Rattle.lane_table.specs.declared.row.Want.{Want}
use Rattle.lane_table.specs.declared.row.Want.TheVariants.{Register, Write as Writes, Read}
use Rattle.dpf_rules.specs.Expansion.{token}
use Rattle.audit_rules.specs.Audit.{accepts, closing_of, opened_of}
use Rattle.audit_rules.specs.Values.{Write, Values, ckey_of}
use Rattle.step_rules.specs.Boxes.{Box, place_of, with_new, with_read}
use Rattle.step_rules.specs.Leader as leader
use Rattle.step_rules.specs.Leader.{Leader, Row, Asked, Registering, Writing, Reading, Retiring, Stage, Idle, Waiting, Challenged, Auditing, Settling, Done, row, row_at, door, want_in, want_of, phase_of, Answer, Reply, Link, StillWaiting, Turn, turn, Ack, AckTurn, ToLane, Settles, Ignored, opened_leader}
use Rattle.step_rules.specs.LeaderClients as clients
use Rattle.step_rules.specs.LeaderClients.{Named, draw, sigma, counted, if_room, issued_for, if_token, if_named, new_at, again_at, submission_at, on_submission, audits, proof_in, proof_at, on_proof, by_kind, on_whole, on_client}
use Rattle.step_rules.specs.LeaderReplies as replies
use Rattle.step_rules.specs.LeaderReplies.{registered, began, audited, accepted, rejected, read, by_command, registered_in, if_registered, if_begun, if_audited, if_settled, if_read, fits, refusal_in, want_for, if_fits, answers, if_reply, on_reply_bytes, own_closing}
use Rattle.step_hiding.specs.Worlds.{World, opens_in, values_in, written_in, masked_in, Event, FromClient, FromLink, LinkUp}
use Rattle.step_hiding.specs.Twins.{Aims, Two, SameElsewhere, TwinBoxes}
use Rattle.step_hiding.specs.LeaderWorlds.{audits_in, proof_world, gate_in, kind_in, whole_in, on_client_in, accepted_in, settled_in, box_in, reads_in, command_in, fits_in, answers_in, if_reply_in, on_reply_in, leader_after, leader_says, leader_sight, told, again}
use Rattle.step_hiding.specs.LeaderTwins.{SameClosings, TwinStages, TwinRows, TwinLeaders}
use Rattle.step_hiding.specs.LeaderLaws.{TwinFrames, stage_for, Audits, MayRead, SameMasked, Views, SameViews, LeadersAnswerClients, LeadersAnswerHelpers, Comes, Plays, LeaderSightsStay}
use Rattle.step_hiding.proofs.Lists.{gate_serial, zip_set, zip_at, zip_append, zip_length, Both, zip_get, same_addresses, twin_is, same_box, written}

-- sums of openings either way
opened_either : (one other : Openings) → opened_of one other ≡ opened_of other one
opened_either one other = rw (xor_comm one.d other.d, xor_comm one.e other.e) refl

is_proof : PlainBody → Bool
is_proof (frame.Proof share) = true
is_proof body = false

stage_at : (r : Row) (serial : ℕ) → r.serial ≡ serial → stage_for r serial ≡ r.stage
stage_at r serial is = ap (λ same. cond same r.stage Idle) (eq-eqb r.serial serial is)

module _ (two : Two) (elsewhere : SameElsewhere two) where
  -- ---- rows

  idle_twins : TwinRows leader.idle leader.idle
  idle_twins = record { serial = refl; stage = tt }

  same_wants : (x y : Stage) → TwinStages x y → want_of x ≡ want_of y
  same_wants Idle Idle twins = refl
  same_wants (Waiting n asked) (Waiting m other) twins = ap want_in twins.1
  same_wants (Challenged w k) (Challenged v l) twins = refl
  same_wants (Auditing n w s p o) (Auditing m v t q u) twins = refl
  same_wants (Settling n w c d) (Settling m v e g) twins = refl
  same_wants (Done want k) (Done other l) twins = twins.0
  same_wants x y twins = absurd twins

  same_phases : (x y : Stage) → TwinStages x y → phase_of x ≡ phase_of y
  same_phases Idle Idle twins = refl
  same_phases (Waiting n asked) (Waiting m other) twins = refl
  same_phases (Challenged w k) (Challenged v l) twins = refl
  same_phases (Auditing n w s p o) (Auditing m v t q u) twins = refl
  same_phases (Settling n w c d) (Settling m v e g) twins = refl
  same_phases (Done want k) (Done other l) twins = refl
  same_phases x y twins = absurd twins

  same_doors : (r q : Row) → TwinRows r q → door r ≡ door q
  same_doors r q twins =
      let one = twins.serial in
      let two = same_phases r.stage q.stage twins.stage in
      let three = same_wants r.stage q.stage twins.stage in
      rw (one, two, three) refl

  -- ---- a twin of a: a with other boxes and rows
  module _ (a : Leader) (boxes : List Box) (rows : List Row) (box_twins : AllZip (TwinBoxes two.aims) a.boxes boxes)
      (row_twins : AllZip TwinRows a.rows rows) where
    abbrev K : Leader
    K = record a { boxes = boxes; rows = rows }

    twins_here : TwinLeaders two.aims a K
    twins_here = record { settings = refl; boxes = box_twins; rows = row_twins; outstanding = refl; next = refl; draws = refl; seed = refl }

    at_twins : (lane : ℕ) → TwinRows (row_at a lane) (row_at K lane)
    at_twins lane = zip_at TwinRows a.rows rows lane leader.idle row_twins idle_twins

    lengths : length a.boxes ≡ length boxes
    lengths = zip_length (TwinBoxes two.aims) a.boxes boxes box_twins

    places : (address : ℕ) → place_of address a.boxes ≡ place_of address boxes
    places address = ap (λ xs. position (λ other. nat_eq other address) xs) (same_addresses two.aims a.boxes boxes box_twins)

    record TwinTurns (t u : Turn) : Type 0 where
      leader : TwinLeaders two.aims t.leader u.leader
      answer : t.answer ≡ u.answer

    turns_either : (b : Bool) (t u v w : Turn) → TwinTurns t u → TwinTurns v w → TwinTurns (cond b t v) (cond b u w)
    turns_either true t u v w p q = p
    turns_either false t u v w p q = q

    module _ (f : PlainFrame) (now : PlainBody) where
      abbrev g : PlainFrame
      g = record f { body = now }

      says : (body other : PlainBody) → body ≡ other → TwinTurns (leader.says a f body) (leader.says K g other)
      says body other twins = record { leader = twins_here; answer = ap (λ b. Reply (answer f b)) twins }

      refuses : (why : Refusal) → TwinTurns (leader.refuses a f why) (leader.refuses K g why)
      refuses why = says (frame.Refused why) (frame.Refused why) refl

      waits : (number same : ℕ) → number ≡ same → TwinTurns (turn a (StillWaiting number)) (turn K (StillWaiting same))
      waits number same is = record { leader = twins_here; answer = ap (λ n. StillWaiting n) is }

      -- a command that is issued
      issues : (draws : ℕ) (body other : PlainBody) (x y : Stage) → body ≡ other → TwinStages x y
          → TwinTurns (clients.issues (record a { draws = draws }) f body x) (clients.issues (record K { draws = draws }) g other y)
      issues draws body other x y same twins = record {
        leader = record {
          settings = refl;
          boxes = box_twins;
          rows = zip_set TwinRows a.rows rows f.lane (row f.serial x) (row f.serial y) row_twins (record { serial = refl; stage = twins });
          outstanding = ap (λ b. a.outstanding ++ on_link f a.next b ∷ []) same;
          next = refl;
          draws = refl;
          seed = refl;
        };
        answer = ap (λ b. Link a.next (on_link f a.next b)) same;
      }

      roomed : (t u : Turn) → TwinTurns t u → TwinTurns (if_room a f t) (if_room K g u)
      roomed t u twins =
          turns_either (nat_lt (2 ^ 64 - 65) a.next) _ _ _ _ (refuses (refusal.Again 0))
          (turns_either (nat_le a.settings.window (length a.outstanding)) _ _ _ _ (refuses (refusal.Again (clients.oldest a))) twins)

      issued : (asked : Asked) → TwinTurns (issued_for a f asked) (issued_for K g asked)
      unfolding issued_for
      issued (Registering address key) = issues a.draws _ _ _ _ refl (refl, refl)
      issued (Writing root part drawn) = issues (a.draws + 1) _ _ _ _ refl (refl, refl)
      issued (Reading number) = issues a.draws _ _ _ _ refl (refl, refl)
      issued (Retiring number) = issues a.draws _ _ _ _ refl (refl, refl)

      tokened : (number held : ℕ) (found other : Option Box) → Both (TwinBoxes two.aims) found other → (t u : Turn) → TwinTurns t u
          → TwinTurns (if_token a f number held found t) (if_token K g number held other u)
      unfolding if_token
      tokened number held None None both t u twins = refuses (refusal.NoBox number)
      tokened number held (Some box) None both t u twins = absurd both
      tokened number held None (Some box) both t u twins = absurd both
      tokened number held (Some box) (Some twin) both t u twins =
          subst (λ key. TwinTurns (cond (nat_eq held (token box.key f.lane f.serial)) t (leader.refuses a f (refusal.BadToken number)))
          (cond (nat_eq held (token key f.lane f.serial)) u (leader.refuses K g (refusal.BadToken number)))) both.key
          (turns_either (nat_eq held (token box.key f.lane f.serial)) _ _ _ _ twins (refuses (refusal.BadToken number)))

      named_twins : (named : Option Named) (t u : Turn) → TwinTurns t u → TwinTurns (if_named a f named t) (if_named K g named u)
      unfolding if_named
      named_twins None t u twins = twins
      named_twins (Some n) t u twins =
          tokened n.number n.held (slice_get a.boxes n.number) (slice_get boxes n.number) (zip_get (TwinBoxes two.aims) a.boxes boxes n.number box_twins) t u twins

      new_twins : (asked : Asked) (named : Option Named) (x y : Stage) → TwinStages x y
          → TwinTurns (new_at a f asked named x) (new_at K g asked named y)
      unfolding new_at
      new_twins asked named (Waiting n ask) (Waiting m again) rows = refuses (refusal.Phase 6)
      new_twins asked named (Auditing n w s p o) (Auditing m v t q u) rows = refuses (refusal.Phase 8)
      new_twins asked named (Settling n w c d) (Settling m v e h) rows = refuses (refusal.Phase 8)
      new_twins asked named Idle Idle rows = named_twins named _ _ (roomed _ _ (issued asked))
      new_twins asked named (Challenged w k) (Challenged v l) rows = named_twins named _ _ (roomed _ _ (issued asked))
      new_twins asked named (Done want k) (Done again l) rows = named_twins named _ _ (roomed _ _ (issued asked))
      new_twins asked named x y rows = absurd rows

      again_twins : (x y : Stage) → TwinStages x y → TwinTurns (again_at a f x) (again_at K g y)
      unfolding again_at
      again_twins Idle Idle rows = refuses (refusal.Phase 0)
      again_twins (Waiting n ask) (Waiting m again) rows = waits n m rows.0
      again_twins (Auditing n w s p o) (Auditing m v t q u) rows = waits n m rows.0
      again_twins (Settling n w c d) (Settling m v e h) rows = waits n m rows.0
      again_twins (Challenged w k) (Challenged v l) rows = says k l rows.1
      again_twins (Done want k) (Done again l) rows = says k l rows.1
      again_twins x y rows = absurd rows

      gated : (asked : Asked) (named : Option Named) (gate : Gate)
          → TwinTurns (submission_at a f asked named gate) (submission_at K g asked named gate)
      unfolding submission_at
      gated asked named (Stale n) = refuses (refusal.Stale n)
      gated asked named (Phase p) = refuses (refusal.Phase p)
      gated asked named Same = again_twins _ _ (at_twins f.lane).stage
      gated asked named New = new_twins asked named _ _ (at_twins f.lane).stage

      submitted : (asked : Asked) (named : Option Named)
          → TwinTurns (on_submission a f asked named) (on_submission K g asked named)
      unfolding on_submission
      submitted asked named =
          let gate = opening_gate (door (row_at a f.lane)) f.serial (want_in asked) in
          turns_either (nat_le a.settings.lanes f.lane) _ _ _ _ (refuses (refusal.Lane a.settings.lanes))
          (subst (λ x. TwinTurns (submission_at a f asked named gate) (submission_at K g asked named x))
          (ap (λ d. opening_gate d f.serial (want_in asked)) (same_doors _ _ (at_twins f.lane)))
          (gated asked named gate))

      abbrev Opens : (share other : ProofShare) → Stage → Stage → Type 0
      Opens share other x y = Audits two a K f (frame.Proof share) (frame.Proof other) x y

      proof_twins : (share other : ProofShare) (x y : Stage) → TwinStages x y
          → Opens share other x y
          → TwinTurns (proof_world two.here a f share x) (proof_world two.there K g other y)
      unfolding proof_world proof_in values_in
      proof_twins share other Idle Idle rows same = refuses (refusal.Phase 0)
      proof_twins share other (Waiting n ask) (Waiting m again) rows same = refuses (refusal.Phase 6)
      proof_twins share other (Auditing n w s p o) (Auditing m v t q u) rows same = waits n m rows.0
      proof_twins share other (Settling n w c d) (Settling m v e h) rows same = waits n m rows.0
      proof_twins share other (Done want k) (Done again l) rows same = says k l rows.1
      proof_twins share other (Challenged w k) (Challenged v l) rows same =
          roomed (audits_in two.here a f w share) (audits_in two.there K g v other)
          (issues (a.draws + 1) (frame.LinkAudit (sigma a) one) (frame.LinkAudit (sigma a) next) _ _
          (ap (λ o. frame.LinkAudit (sigma a) o) opened) (refl, rows.0, refl, opened, closed))
        where
          one : Openings
          one = opens_in (two.here.leaf f.lane f.serial) w (counted a w) share (sigma a)

          next : Openings
          next = opens_in (two.there.leaf f.lane f.serial) v (counted K v) other (sigma a)

          opened : one ≡ next
          opened = ap (λ (x : Values). x.opened) (same one)

          -- by whatever the helper opens
          closed : SameClosings share other (sigma a) one
          closed helpers =
              ap (λ (o : Openings). closing_of 0 share (sigma a) o) (opened_either one helpers)
              ∙ ap (λ (x : Values). x.closing) (same helpers)
              ∙ ap (λ (o : Openings). closing_of 0 other (sigma a) (opened_of helpers o)) (sym opened)
              ∙ ap (λ (o : Openings). closing_of 0 other (sigma a) o) (opened_either helpers one)
      proof_twins share other x y rows same = absurd rows

      -- a frame of the row's serial finds its stage
      staged : (share other : ProofShare) → Opens share other (stage_for (row_at a f.lane) f.serial) (stage_for (row_at K f.lane) f.serial)
          → f.serial ≡ (row_at a f.lane).serial → Opens share other (row_at a f.lane).stage (row_at K f.lane).stage
      staged share other same is =
          subst (λ x. Opens share other x (row_at K f.lane).stage) (stage_at (row_at a f.lane) f.serial (sym is))
          (subst (λ y. Opens share other (stage_for (row_at a f.lane) f.serial) y) (stage_at (row_at K f.lane) f.serial (sym (at_twins f.lane).serial ∙ sym is)) same)

      proof_gated : (share other : ProofShare) → Opens share other (stage_for (row_at a f.lane) f.serial) (stage_for (row_at K f.lane) f.serial)
          → (gate : Gate) → closing_gate (door (row_at a f.lane)) f.serial ≡ gate
          → TwinTurns (gate_in two.here a f share gate) (gate_in two.there K g other gate)
      unfolding gate_in proof_at
      proof_gated share other same (Stale n) is = refuses (refusal.Stale n)
      proof_gated share other same (Phase p) is = refuses (refusal.Phase p)
      proof_gated share other same Same is =
          proof_twins share other _ _ (at_twins f.lane).stage (staged share other same (gate_serial (door (row_at a f.lane)) f.serial (inl is)))
      proof_gated share other same New is =
          proof_twins share other _ _ (at_twins f.lane).stage (staged share other same (gate_serial (door (row_at a f.lane)) f.serial (inr is)))

      proved : (share other : ProofShare) → Opens share other (stage_for (row_at a f.lane) f.serial) (stage_for (row_at K f.lane) f.serial)
          → TwinTurns (kind_in two.here a f (frame.Proof share)) (kind_in two.there K g (frame.Proof other))
      unfolding kind_in
      proved share other same =
          turns_either (nat_le a.settings.lanes f.lane) _ _ _ _ (refuses (refusal.Lane a.settings.lanes))
          (subst (λ x. TwinTurns (gate_in two.here a f share (closing_gate (door (row_at a f.lane)) f.serial)) (gate_in two.there K g other x))
          (ap (λ d. closing_gate d f.serial) (same_doors _ _ (at_twins f.lane)))
          (proof_gated share other same (closing_gate (door (row_at a f.lane)) f.serial) refl))

      malformed : (place : ℕ) → TwinTurns (leader.refuses_bytes a (refusal.Malformed place)) (leader.refuses_bytes K (refusal.Malformed place))
      malformed place = record { leader = twins_here; answer = refl }

      writes : (root : ℕ) (part : List ℕ) → TwinTurns (kind_in two.here a f (frame.Write root part)) (kind_in two.there K g (frame.Write root part))
      unfolding kind_in by_kind
      writes root part =
          turns_either (has_width a.settings.width (frame.Write root part)) _ _ _ _ (submitted (Writing root part (draw a)) None) (malformed 0)

      same_kind : (body : PlainBody) → is_proof body ≡ false → TwinTurns (kind_in two.here a f body) (kind_in two.there K g body)
      unfolding kind_in by_kind is_proof
      same_kind (frame.Register address key) isnt = submitted (Registering address key) None
      same_kind (frame.Write root part) isnt = writes root part
      same_kind (frame.Read number held) isnt = submitted (Reading number) (Some (record { number = number; held = held }))
      same_kind (frame.Retire number held) isnt = submitted (Retiring number) (Some (record { number = number; held = held }))
      same_kind (frame.Proof share) isnt = absurd (cc isnt)
      same_kind body isnt = malformed 5

      kinds : (body other : PlainBody) → TwinFrames body other → Audits two a K f body other (stage_for (row_at a f.lane) f.serial) (stage_for (row_at K f.lane) f.serial)
          → TwinTurns (kind_in two.here a f body) (kind_in two.there K g other)
      unfolding is_proof
      kinds (frame.Proof share) (frame.Proof other) twins same = proved share other same
      kinds (frame.Proof share) other twins same = absurd (let apart : true ≡ false = ap is_proof twins in cc apart)
      kinds body other twins same =
          subst (λ b. TwinTurns (kind_in two.here a f body) (kind_in two.there K g b)) twins (same_kind body refl)

    client_turns : (found other : Result PlainFrame Refusal) → MayRead two a K found other
        → TwinTurns (whole_in two.here a found) (whole_in two.there K other)
    unfolding whole_in
    client_turns (Err why) (Err other) may =
        subst (λ r. TwinTurns (whole_in two.here a (Err why)) (whole_in two.there K (Err r))) may (record { leader = twins_here; answer = refl })
    client_turns (Ok f) (Ok g) may =
        subst (λ (x : PlainFrame). TwinTurns (whole_in two.here a (Ok f)) (whole_in two.there K (Ok x))) may.0
        (kinds f g.body f.body g.body may.1 may.2)
    client_turns (Err why) (Ok g) may = absurd may
    client_turns (Ok f) (Err why) may = absurd may

    -- ---- replies of the helper, to the oldest command c

    record TwinTold (t u : AckTurn) : Type 0 where
      leader : TwinLeaders two.aims t.leader u.leader
      ack : t.ack ≡ u.ack

    module _ (c : PlainFrame) where
      -- both fit, or neither does
      abbrev Fit : Option AckTurn → Option AckTurn → Type 0
      Fit (Some t) (Some u) = TwinTold t u
      Fit None None = Unit {0}
      Fit t u = ⊥

      fit_either : (b : Bool) (t u v w : Option AckTurn) → Fit t u → Fit v w → Fit (cond b t v) (cond b u w)
      fit_either true t u v w p q = p
      fit_either false t u v w p q = q

      keeps : (bs ds : List Box) → AllZip (TwinBoxes two.aims) bs ds → (x y : Stage) → TwinStages x y
          → (body other : PlainBody) → body ≡ other
          → TwinTold (replies.keeps (record a { boxes = bs }) c x body) (replies.keeps (record K { boxes = ds }) c y other)
      keeps bs ds zip x y stages body other bodies = record {
        leader = record {
          settings = refl;
          boxes = zip;
          rows = zip_set TwinRows a.rows rows c.lane (row c.serial x) (row c.serial y) row_twins (record { serial = refl; stage = stages });
          outstanding = refl;
          next = refl;
          draws = refl;
          seed = refl;
        };
        ack = ap (λ b. ToLane c.lane (answer c b)) bodies;
      }

      done_with : (bs ds : List Box) → AllZip (TwinBoxes two.aims) bs ds → (want : Want) (body other : PlainBody) → body ≡ other
          → TwinTold (replies.done (record a { boxes = bs }) c want body) (replies.done (record K { boxes = ds }) c want other)
      done_with bs ds zip want body other bodies = keeps bs ds zip (Done want body) (Done want other) (refl, bodies) body other bodies

      registered_twins : (address n : ℕ) (asked : Asked) (count : ℕ) → Fit (registered a c address (Waiting n asked) count) (registered K c address (Waiting n asked) count)
      unfolding registered
      registered_twins address n (Registering own key) count =
          subst (λ l. Fit (at a a.boxes (length a.boxes) (place_of address a.boxes)) (at K boxes l (place_of address boxes))) lengths
          (subst (λ p. Fit (at a a.boxes (length a.boxes) (place_of address a.boxes)) (at K boxes (length a.boxes) p)) (places address)
          (fit_either ((nat_eq count (length a.boxes)) && (is_none (place_of address a.boxes) && not (nat_le a.settings.boxes (length a.boxes)))) _ _ _ _
          (done_with (with_new a.settings.width address key a.boxes) (with_new a.settings.width address key boxes) new Register (frame.Registered count) (frame.Registered count) refl) tt))
        where
          at : Leader → List Box → ℕ → Option ℕ → Option AckTurn
          at b bs l p =
              cond ((nat_eq count l) && (is_none p && not (nat_le b.settings.boxes l)))
              (Some (replies.done (record b { boxes = with_new b.settings.width address key bs }) c Register (frame.Registered count))) None

          new : AllZip (TwinBoxes two.aims) (with_new a.settings.width address key a.boxes) (with_new a.settings.width address key boxes)
          new = zip_append (TwinBoxes two.aims) a.boxes boxes _ _ box_twins (same_box two.aims _)
      registered_twins address n asked count = tt

      registers : (address : ℕ) (x y : Stage) → TwinStages x y → (found : Option ℕ)
          → Fit (if_registered a c address x found) (if_registered K c address y found)
      unfolding registered
      registers address (Waiting n asked) (Waiting m other) twins (Some count) =
          subst (λ o. Fit (registered a c address (Waiting n asked) count) (registered K c address (Waiting m o) count)) twins.1
          (subst (λ k. Fit (registered a c address (Waiting n asked) count) (registered K c address (Waiting k asked) count)) twins.0 (registered_twins address n asked count))
      registers address (Waiting n asked) y twins (Some count) = absurd twins
      registers address x (Waiting n asked) twins (Some count) = absurd twins
      registers address x y twins (Some count) = tt
      registers address x y twins None = tt

      waited : (n : ℕ) (asked : Asked) (count : ℕ) (helpers : List ℕ) → Fit (began a c (Waiting n asked) count helpers) (began K c (Waiting n asked) count helpers)
      unfolding began
      waited n (Writing root part own) count helpers =
          subst (λ l. Fit (cond (nat_eq count (length a.boxes)) (Some (replies.challenges a c w)) None) (cond (nat_eq count l) (Some (replies.challenges K c w)) None)) lengths
          (fit_either (nat_eq count (length a.boxes)) _ _ _ _
          (keeps a.boxes boxes box_twins (Challenged w (frame.Challenge w.ckey)) (Challenged w (frame.Challenge w.ckey)) (refl, refl) (frame.Challenge w.ckey) (frame.Challenge w.ckey) refl) tt)
        where
          w : Write
          w = replies.begun root part (ckey_of own helpers) count
      waited n asked count helpers = tt

      begins : (x y : Stage) → TwinStages x y → (count : ℕ) (helpers : List ℕ)
          → Fit (began a c x count helpers) (began K c y count helpers)
      unfolding began
      begins (Waiting n asked) (Waiting m other) twins count helpers =
          subst (λ o. Fit (began a c (Waiting n asked) count helpers) (began K c (Waiting m o) count helpers)) twins.1
          (subst (λ k. Fit (began a c (Waiting n asked) count helpers) (began K c (Waiting k asked) count helpers)) twins.0 (waited n asked count helpers))
      begins (Waiting n asked) y twins count helpers = absurd twins
      begins x (Waiting n asked) twins count helpers = absurd twins
      begins x y twins count helpers = tt

      audits_it : (x y : Stage) → TwinStages x y → (opened : Openings) (closed : Closing) → Fit (audited a c x opened closed) (audited K c y opened closed)
      unfolding audited
      audits_it (Auditing n w s p o) (Auditing m v t q u) twins opened closed = record {
        leader = record {
          settings = refl;
          boxes = box_twins;
          rows = zip_set TwinRows a.rows rows c.lane _ _ row_twins (record { serial = refl; stage = (refl, twins.1, same, refl) });
          outstanding = ap (λ (x : Closing). drop 1 a.outstanding ++ on_link c a.next (frame.LinkSettle x) ∷ []) same;
          next = refl;
          draws = refl;
          seed = refl;
        };
        ack = ap (λ (x : Closing). Settles a.next (on_link c a.next (frame.LinkSettle x))) same;
      }
        where
          same : own_closing s p o opened ≡ own_closing t q u opened
          same =
              twins.4 opened ∙ ap (λ n. own_closing t n o opened) twins.2
              ∙ ap (λ (x : Openings). own_closing t q x opened) twins.3
      audits_it (Auditing n w s p o) y twins opened closed = absurd twins
      audits_it x (Auditing n w s p o) twins opened closed = absurd twins
      audits_it x y twins opened closed = tt

      accepts_it : (x y : Stage) → TwinStages x y → Fit (accepted_in two.here a c x) (accepted_in two.there K c y)
      unfolding accepted_in accepted
      accepts_it (Settling n w own other) (Settling m v mine its) twins =
          subst (λ x. Fit (at two.here a w own other) (at two.there K x mine its)) twins.1
          (subst (λ o. Fit (at two.here a w own other) (at two.there K w o its)) twins.2
          (subst (λ o. Fit (at two.here a w own other) (at two.there K w own o)) twins.3
          (fit_either (accepts own other) _ _ _ _ (done_with _ _ (written two elsewhere c.lane c.serial w a.boxes boxes box_twins) Writes frame.Accepted frame.Accepted refl) tt)))
        where
          at : World → Leader → Write → Closing → Closing → Option AckTurn
          at world b x o u = cond (accepts o u) (Some (replies.done (record b { boxes = written_in (world.leaf c.lane c.serial) x b.boxes }) c Writes frame.Accepted)) None
      accepts_it (Settling n w own other) y twins = absurd twins
      accepts_it x (Settling n w own other) twins = absurd twins
      accepts_it x y twins = tt

      rejects_it : (x y : Stage) → TwinStages x y → Fit (rejected a c x) (rejected K c y)
      unfolding rejected
      rejects_it (Settling n w own other) (Settling m v mine its) twins =
          subst (λ o. Fit (at a own other) (at K o its)) twins.2
          (subst (λ o. Fit (at a own other) (at K own o)) twins.3
          (fit_either (accepts own other) _ _ _ _ tt (done_with a.boxes boxes box_twins Writes _ _ refl)))
        where
          at : Leader → Closing → Closing → Option AckTurn
          at b o u = cond (accepts o u) None (Some (replies.done b c Writes (frame.Refused (refusal.Rejected o.o u.o o.tau u.tau))))
      rejects_it (Settling n w own other) y twins = absurd twins
      rejects_it x (Settling n w own other) twins = absurd twins
      rejects_it x y twins = tt

      -- a box and its twin, which is the box with another share
      abbrev Masked : Option Box → Option Box → Type 0
      Masked found other =
          (box twin : Box) → found ≡ Some box → other ≡ Some twin
          → masked_in two.here c.lane c.serial a.settings.width box ≡ masked_in two.there c.lane c.serial a.settings.width twin

      reads_box : (stays : Bool) (number : ℕ) (box : Box) (other share : List ℕ) → TwinBoxes two.aims box (record box { share = other })
          → Masked (Some box) (Some (record box { share = other }))
          → Fit (box_in two.here a c stays number (Some box) share) (box_in two.there K c stays number (Some (record box { share = other })) share)
      unfolding box_in
      reads_box stays number box other share twins masked =
          let twin : Box = record box { share = other } in
          done_with (with_read a.settings.width stays number box a.boxes) (with_read a.settings.width stays number twin boxes)
          (zip_set (TwinBoxes two.aims) a.boxes boxes number _ _ box_twins (same_box two.aims _))
          Read _ _ (ap (λ m. frame.Message m share) (masked box twin refl refl))

      reads_it : (stays : Bool) (number : ℕ) (found other : Option Box) → Both (TwinBoxes two.aims) found other → Masked found other → (share : List ℕ)
          → Fit (box_in two.here a c stays number found share) (box_in two.there K c stays number other share)
      unfolding box_in
      reads_it stays number None None both masked share = tt
      reads_it stays number (Some box) None both masked share = absurd both
      reads_it stays number None (Some box) both masked share = absurd both
      reads_it stays number (Some box) (Some twin) both masked share =
          let is = twin_is two.aims box twin both in
          subst (λ (t : Box). Fit (box_in two.here a c stays number (Some box) share) (box_in two.there K c stays number (Some t) share)) is
          (reads_box stays number box twin.share share (subst (TwinBoxes two.aims box) (sym is) both) (subst (λ (t : Box). Masked (Some box) (Some t)) (sym is) masked))

      begun_fits : (x y : Stage) → TwinStages x y → (body : PlainBody) → Fit (if_begun a c x body) (if_begun K c y body)
      begun_fits x y twins (frame.LinkBegun count drawn) = begins x y twins count drawn
      begun_fits x y twins body = tt

      audited_fits : (x y : Stage) → TwinStages x y → (body : PlainBody) → Fit (if_audited a c x body) (if_audited K c y body)
      audited_fits x y twins (frame.LinkReply (frame.ReplyAudited opened closed)) = audits_it x y twins opened closed
      audited_fits x y twins body = tt

      settled_fits : (x y : Stage) → TwinStages x y → (body : PlainBody) → Fit (settled_in two.here a c x body) (settled_in two.there K c y body)
      settled_fits x y twins (frame.LinkReply frame.ReplyAccepted) = accepts_it x y twins
      settled_fits x y twins (frame.LinkReply frame.ReplyRejected) = rejects_it x y twins
      settled_fits x y twins body = tt

      read_fits : (stays : Bool) (number : ℕ) (body : PlainBody) → SameMasked two a K c number
          → Fit (reads_in two.here a c stays number body) (reads_in two.there K c stays number body)
      read_fits stays number (frame.LinkReply (frame.ReplyMasked share)) masked =
          reads_it stays number (slice_get a.boxes number) (slice_get boxes number) (zip_get (TwinBoxes two.aims) a.boxes boxes number box_twins) masked share
      read_fits stays number body masked = tt

      commands : (command : PlainBody) (x y : Stage) → TwinStages x y → (body : PlainBody) → Views two a K c command
          → Fit (command_in two.here a c command x body) (command_in two.there K c command y body)
      unfolding command_in by_command
      commands (frame.LinkRegister address) x y twins body same = registers address x y twins (registered_in body)
      commands (frame.LinkBegin drawn part) x y twins body same = begun_fits x y twins body
      commands (frame.LinkAudit sigma opened) x y twins body same = audited_fits x y twins body
      commands (frame.LinkSettle own) x y twins body same = settled_fits x y twins body
      commands (frame.LinkRead number) x y twins body same = read_fits true number body same
      commands (frame.LinkRetire number) x y twins body same = read_fits false number body same
      commands command x y twins body same = tt

      all_fits : (body : PlainBody) (why : Option Refusal) → Views two a K c c.body
          → Fit (fits_in two.here a c body why) (fits_in two.there K c body why)
      unfolding fits_in fits
      all_fits body (Some why) same = done_with a.boxes boxes box_twins (want_for c.body) (frame.Refused why) (frame.Refused why) refl
      all_fits body None same = commands c.body _ _ (at_twins c.lane).stage body same

      fitted : (found other : Option AckTurn) → Fit found other → TwinTold (if_fits a found) (if_fits K other)
      fitted (Some t) (Some u) fit = fit
      fitted None None fit = record { leader = twins_here; ack = refl }
      fitted (Some t) None fit = absurd fit
      fitted None (Some u) fit = absurd fit

    told_either : (b : Bool) (t u v w : AckTurn) → TwinTold t u → TwinTold v w → TwinTold (cond b t v) (cond b u w)
    told_either true t u v w p q = p
    told_either false t u v w p q = q

    oldest_told : (f : PlainFrame) (oldest : Option PlainFrame)
        → ((c : PlainFrame) → oldest ≡ Some c → Views two a K c c.body)
        → TwinTold (answers_in two.here a f oldest) (answers_in two.there K f oldest)
    unfolding answers_in
    oldest_told f None same = record { leader = twins_here; ack = refl }
    oldest_told f (Some c) same =
        told_either ((nat_eq f.link c.link) && ((nat_eq f.lane c.lane) && (nat_eq f.serial c.serial))) _ _ _ _
        (fitted c _ _ (all_fits c f.body (refusal_in f.body) (same c refl))) (record { leader = twins_here; ack = refl })

    found_told : (found : Option PlainFrame)
        → ((f c : PlainFrame) → found ≡ Some f → slice_get a.outstanding 0 ≡ Some c → Views two a K c c.body)
        → TwinTold (if_reply_in two.here a found) (if_reply_in two.there K found)
    unfolding if_reply_in
    found_told (Some f) same = oldest_told f (slice_get a.outstanding 0) (λ c is. same f c refl is)
    found_told None same = record { leader = twins_here; ack = refl }

-- any twin of a is such a one
is_twin : (aims : Aims) (a b : Leader) → TwinLeaders aims a b → record a { boxes = b.boxes; rows = b.rows } ≡ b
is_twin aims a b twins =
    ap (λ s. with_these s a.outstanding a.next a.draws a.seed) twins.settings
    ∙ ap (λ o. with_these b.settings o a.next a.draws a.seed) twins.outstanding
    ∙ ap (λ n. with_these b.settings b.outstanding n a.draws a.seed) twins.next
    ∙ ap (λ n. with_these b.settings b.outstanding b.next n a.seed) twins.draws
    ∙ ap (λ s. with_these b.settings b.outstanding b.next b.draws s) twins.seed
  where
    with_these : Settings → List PlainFrame → ℕ → ℕ → List ℕ → Leader
    with_these settings outstanding next draws seed =
        record { settings = settings; boxes = b.boxes; rows = b.rows; outstanding = outstanding; next = next; draws = draws; seed = seed }

pub leaders_answer_clients : LeadersAnswerClients
leaders_answer_clients two a b bytes other elsewhere twins may =
    let at = is_twin two.aims a b twins in
    let turns = client_turns two elsewhere a b.boxes b.rows twins.boxes twins.rows (whole bytes) (whole other)
    (subst (λ x. MayRead two a x (whole bytes) (whole other)) (sym at) may) in (
      turns.answer ∙ ap (λ (x : Leader). (on_client_in two.there x other).answer) at,
      subst (λ (x : Leader). TwinLeaders two.aims (on_client_in two.here a bytes).leader (on_client_in two.there x other).leader) at turns.leader,
    )

pub leaders_answer_helpers : LeadersAnswerHelpers
leaders_answer_helpers two a b bytes elsewhere twins same =
    let at = is_twin two.aims a b twins in
    let told = found_told two elsewhere a b.boxes b.rows twins.boxes twins.rows (linked is_reply a.settings.width bytes)
    (subst (λ x. SameViews two a x bytes) (sym at) same) in (
      told.ack ∙ ap (λ (x : Leader). (on_reply_in two.there x bytes).ack) at,
      subst (λ (x : Leader). TwinLeaders two.aims (on_reply_in two.here a bytes).leader (on_reply_in two.there x bytes).leader) at told.leader,
    )

-- ---- a run

event_says : (two : Two) → SameElsewhere two → (a b : Leader) (event other : Event) → TwinLeaders two.aims a b → Comes two a b event other
    → (leader_says two.here a event ≡ leader_says two.there b other)
    × TwinLeaders two.aims (leader_after two.here a event) (leader_after two.there b other)
event_says two elsewhere a b (FromClient bytes) (FromClient other) twins comes =
    let step = leaders_answer_clients two a b bytes other elsewhere twins comes in (ap leader.written step.0, step.1)
event_says two elsewhere a b (FromLink bytes) (FromLink other) twins comes =
    let step = leaders_answer_helpers two a b bytes elsewhere twins comes.1 in
    subst (λ x. (told (on_reply_in two.here a bytes).ack ≡ told (on_reply_in two.there b x).ack)
    × TwinLeaders two.aims (on_reply_in two.here a bytes).leader (on_reply_in two.there b x).leader) comes.0
    (ap told step.0, step.1)
event_says two elsewhere a b LinkUp LinkUp twins comes = (ap (λ (xs : List PlainFrame). again (slice_get xs 0)) twins.outstanding, twins)
event_says two elsewhere a b event other twins comes = absurd comes

runs : (two : Two) → SameElsewhere two → (events others : List Event) (a b : Leader) → TwinLeaders two.aims a b → Plays two a b events others
    → leader_sight two.here a events ≡ leader_sight two.there b others
unfolding Plays leader_sight
runs two elsewhere [] [] a b twins plays = refl
runs two elsewhere (event ∷ events) (other ∷ others) a b twins plays =
    let step = event_says two elsewhere a b event other twins plays.0 in
    let rest = runs two elsewhere events others (leader_after two.here a event) (leader_after two.there b other) step.1 plays.1 in
    ap (λ x. x ∷ leader_sight two.here (leader_after two.here a event) events) step.0 ∙ ap (λ xs. leader_says two.there b other ∷ xs) rest
runs two elsewhere [] (other ∷ others) a b twins plays = absurd plays
runs two elsewhere (event ∷ events) [] a b twins plays = absurd plays

idle_rows : (n : ℕ) → AllZip TwinRows (replicate n leader.idle) (replicate n leader.idle)
idle_rows zero = tt
idle_rows (suc n) = (record { serial = refl; stage = tt }, idle_rows n)

pub opened_twins : (aims : Aims) (settings : Settings) (seed : List ℕ) → TwinLeaders aims (opened_leader settings seed) (opened_leader settings seed)
unfolding opened_leader
opened_twins aims settings seed = record {
  settings = refl;
  boxes = tt;
  rows = idle_rows settings.lanes;
  outstanding = refl;
  next = refl;
  draws = refl;
  seed = refl;
}

pub leader_sights_stay : LeaderSightsStay
leader_sights_stay two settings seed events others elsewhere plays =
    runs two elsewhere events others (opened_leader settings seed) (opened_leader settings seed) (opened_twins two.aims settings seed) plays
