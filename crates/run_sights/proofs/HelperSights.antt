-- What a helper sends beside honest writes, and beside the moved ones.
use Rattle.std.specs.Prelude.{◌≡◌, ℕ, ◌+◌, ◌<◌, Bool, true, false, cond, nat_eq, refl, List, [], ◌∷◌, take, Some, None, Result, Ok, Err, slice_get}
use Rattle.std.proofs.Common.{arith, ap, sym, subst, ◌∙◌}
use Rattle.std.proofs.lemmas.Bool.{eqb-true}
use Rattle.express_words.specs.Bytes.{xor_bytes}
use Rattle.express_words.specs.declared.settings.Settings.{Settings}
use Rattle.express_words.specs.declared.audit.ProofShare.{ProofShare}
use Rattle.audit_rules.specs.Values.{Write}
use Rattle.express_words.specs.declared.refusal.Refusal.{Refusal}
use Rattle.frame_rules.specs.Frames as frame
use Rattle.frame_rules.specs.Frames.{PlainFrame, PlainBody}
use Rattle.frame_rules.specs.Spelling.{spelling}
use Rattle.frame_rules.specs.Whole.{whole, linked, is_command}
use Rattle.write_hiding.specs.Views.{other_share}
use Rattle.write_hiding.specs.Moved.{moved}
use Rattle.write_hiding.specs.Laws.{ChoicesStay}
use Rattle.moved_worlds.specs.Moves.{MovedChoicesAreTwins}
use Rattle.step_rules.specs.Helper as helper
use Rattle.step_rules.specs.Helper.{Helper, Server, Row, Stage, Idle, Deposited, Begun, Proved, Audited, Done, row_at, opened_helper}
use Rattle.step_rules.specs.HelperCommands.{counted, stage_for}
use Rattle.step_hiding.specs.Worlds.{values_in}
use Rattle.step_hiding.specs.Twins as twins
use Rattle.step_hiding.specs.Twins.{SameProofs, TwinBoxes}
use Rattle.step_hiding.specs.HelperTwins.{TwinStages, TwinRows, TwinHelpers}
use Rattle.step_hiding.specs.HelperWorlds.{helper_says}
use Rattle.step_hiding.specs.HelperLaws.{TwinFrames, MayRead, SameMasked, Views, SameViews, HelpersAnswerClients, HelpersAnswerLeaders}
use Rattle.step_hiding.proofs.Lists.{Both, zip_get, same_addresses}
use Rattle.step_hiding.proofs.HelperSteps.{opened_twins}
use Rattle.run_sights.specs.Histories.{HonestWrite, Writes, Aims, leaves_of, Event, FromAnybody, Proves, FromLink, LinkUp, come, world_at, proof_frame, proof_bytes, write_moved, writes_moved, mask_by, mask_at, mask_moved, number_in}
use Rattle.run_sights.specs.Suppositions.{AllMove, AuditsOwn, IsProved, Covers}
use Rattle.run_sights.specs.HelperRuns.{after, sight, Audits, Commands, Supposed, Plays, event_moved, events_moved, MaskStays, MasksStay, HelperSightsStay, HelperRunsStay, HelperRunsReturn, HelperMasksStay}
use Rattle.run_sights.proofs.Moved.{proofs_of, alike, two_at, same_values, here_reads, there_reads, same_elsewhere, same_own, proved_there, no_proof_there, masks_take_up, at_size, at_stay, moved_back}

module _ (moves : MovedChoicesAreTwins) (stay : ChoicesStay) (clients : HelpersAnswerClients) (leaders : HelpersAnswerLeaders)
    (width : ℕ) (spared : ℕ → Bool) (writes : Writes) (to : Aims) (fine : AllMove width spared writes to) where
  is_server : 0 < 2
  is_server = omega arith

  abbrev others : Writes
  others = writes_moved 0 writes to

  abbrev aims : twins.Aims
  aims = alike moves stay 0 is_server width spared writes to fine

  abbrev two : (mask gone : List ℕ) → twins.Two
  two mask gone = two_at moves stay 0 is_server width spared writes to fine mask gone

  -- ---- clients

  same_frames : (lane serial : ℕ) (body : PlainBody) → ((share : ProofShare) → body ≡ frame.Proof share → writes lane serial ≡ None) → TwinFrames aims lane serial body body
  same_frames lane serial (frame.Proof share) none =
      subst (λ found. SameProofs (proofs_of 0 found (to lane serial)) share share) (sym (none share refl)) refl
  same_frames lane serial body none = refl

  anybody : (found : Result PlainFrame Refusal)
      → ((f : PlainFrame) (share : ProofShare) → found ≡ Ok f → f.body ≡ frame.Proof share → writes f.lane f.serial ≡ None) → MayRead aims found found
  anybody (Err why) none = refl
  anybody (Ok f) none = (refl, same_frames f.lane f.serial f.body (λ share is. none f share refl is))

  proof_read : (lane serial : ℕ) → IsProved writes lane serial
      → MayRead aims (whole (proof_bytes 0 lane serial (writes lane serial))) (whole (proof_bytes 0 lane serial (others lane serial)))
  proof_read lane serial proved =
      subst (λ found. MayRead aims (whole (proof_bytes 0 lane serial found)) (whole (proof_bytes 0 lane serial (write_moved 0 found (to lane serial))))) (sym proved.is) read
    where
      v : HonestWrite
      v = record proved.write { choice = moved 0 proved.write.choice proved.write.aim (to lane serial) proved.write.game; aim = to lane serial }

      own : ProofShare
      own = other_share 0 proved.write.choice proved.write.aim proved.write.game

      gone : ProofShare
      gone = other_share 0 v.choice (to lane serial) proved.write.game

      shares : SameProofs (proofs_of 0 (writes lane serial) (to lane serial)) own gone
      shares = subst (λ found. SameProofs (proofs_of 0 found (to lane serial)) own gone) (sym proved.is) (refl, refl)

      read : MayRead aims (whole (spelling (proof_frame 0 lane serial proved.write))) (whole (spelling (proof_frame 0 lane serial v)))
      read =
          subst (λ found. MayRead aims found (whole (spelling (proof_frame 0 lane serial v)))) (sym (here_reads moves stay 0 is_server width spared writes to fine lane serial proved proved.write proved.is))
          (subst (λ found. MayRead aims (Ok (proof_frame 0 lane serial proved.write)) found) (sym (there_reads moves stay 0 is_server width spared writes to fine lane serial proved proved.write proved.is))
          (refl, shares))

  -- ---- commands

  same_stages : (lane serial : ℕ) (r q : Row) → TwinRows aims lane r q → TwinStages aims lane serial (stage_for r serial) (stage_for q serial)
  same_stages lane serial r q rows =
      subst (λ n. TwinStages aims lane serial (stage_for r serial) (cond (nat_eq n serial) q.stage Idle)) rows.serial (by (nat_eq r.serial serial) refl)
    where
      by : (same : Bool) → nat_eq r.serial serial ≡ same → TwinStages aims lane serial (cond same r.stage Idle) (cond same q.stage Idle)
      by true is = subst (λ n. TwinStages aims lane n r.stage q.stage) (eqb-true _ _ is) rows.stage
      by false is = tt

  module _ (h k : Helper) (both : TwinHelpers aims h k) where
    -- a box that is read, and its twin
    covered : (c : PlainFrame) (number : ℕ) (mask : List ℕ) → Covers h.server.boxes (Some number) mask
        → SameMasked (two mask (mask_at h.server.boxes k.server.boxes (Some number) mask)) h.server k.server c number
    covered c number mask covers box twin is was =
        let at : TwinBoxes aims box twin =
        subst (λ found. Both (TwinBoxes aims) found (Some twin)) is
        (subst (λ found. Both (TwinBoxes aims) (slice_get h.server.boxes number) found) was (zip_get (TwinBoxes aims) h.server.boxes k.server.boxes number both.server.boxes)) in
        masks_take_up box.share twin.share mask at.size (covers box is)
        ∙ ap (λ found. xor_bytes twin.share (mask_by found (Some twin) mask)) (sym is)
        ∙ ap (λ found. xor_bytes twin.share (mask_by (slice_get h.server.boxes number) found mask)) (sym was)

    same_counted : (held : Write) → counted h.server held ≡ counted k.server held
    same_counted held = ap (take held.count) (same_addresses aims h.server.boxes k.server.boxes both.server.boxes)

    views : (c : PlainFrame) (mask : List ℕ) (body : PlainBody) (x y : Stage) → TwinStages aims c.lane c.serial x y
        → Audits writes h.server c body x → Covers h.server.boxes (number_in body) mask
        → Views (two mask (mask_at h.server.boxes k.server.boxes (number_in body) mask)) h.server k.server c body x y
    views c mask (frame.LinkAudit sigma opened) (Proved held share) (Proved twin other) at own covers =
        same_values moves stay 0 is_server width spared writes to fine c.lane c.serial (writes c.lane c.serial) refl held (counted h.server held) sigma share other own at.1 opened
        ∙ ap (λ l. values_in (leaves_of 0 (others c.lane c.serial)) 1 held l other sigma opened) (same_counted held)
        ∙ ap (λ (w : Write). values_in (leaves_of 0 (others c.lane c.serial)) 1 w (counted k.server w) other sigma opened) at.0
    views c mask (frame.LinkAudit sigma opened) (Proved held share) y at own covers = absurd at
    views c mask (frame.LinkAudit sigma opened) x y at own covers = tt
    views c mask (frame.LinkRead number) x y at own covers = covered c number mask covers
    views c mask (frame.LinkRetire number) x y at own covers = covered c number mask covers
    views c mask body x y at own covers = tt

    same_views : (bytes mask : List ℕ) → Commands writes h bytes mask
        → SameViews (two mask (mask_moved h.server.boxes k.server.boxes (linked is_command h.server.settings.width bytes) mask)) h k bytes
    same_views bytes mask commands c is next =
        let at = commands c is in
        subst (λ found. Views (two mask (mask_moved h.server.boxes k.server.boxes found mask)) h.server k.server c c.body
        (stage_for (row_at h.server c.lane) c.serial) (stage_for (row_at k.server c.lane) c.serial)) (sym is)
        (views c mask c.body _ _ (same_stages c.lane c.serial (row_at h.server c.lane) (row_at k.server c.lane) (both.server.rows c.lane)) (at.0 next) at.1)

    -- ---- an event

    abbrev Says : Event → Event → Type 0
    Says event gone =
        (helper_says (world_at 0 writes event) h (come 0 writes event) ≡ helper_says (world_at 0 others gone) k (come 0 others gone))
        × TwinHelpers aims (after writes h event) (after others k gone)

    event_says : (event : Event) → Supposed writes h event → Says event (event_moved h k event)
    event_says (FromAnybody bytes) none =
        let step = clients aims h k bytes bytes both (anybody (whole bytes) none) in (ap spelling step.0, step.1)
    event_says (Proves lane serial) proved =
        let step = clients aims h k (proof_bytes 0 lane serial (writes lane serial)) (proof_bytes 0 lane serial (others lane serial)) both (proof_read lane serial proved) in
        (ap spelling step.0, step.1)
    event_says (FromLink bytes mask) commands =
        let later = mask_moved h.server.boxes k.server.boxes (linked is_command h.server.settings.width bytes) mask in
        let step = leaders (two mask later) h k bytes (same_elsewhere moves stay 0 is_server width spared writes to fine mask later) both (same_views bytes mask commands) in
        (ap helper.written step.0, step.1)
    event_says LinkUp none = (refl, both)

  runs : (events : List Event) (h k : Helper) → TwinHelpers aims h k → Plays writes h events → sight others k (events_moved writes others h k events) ≡ sight writes h events
  unfolding sight events_moved Plays
  runs [] h k both plays = refl
  runs (event ∷ events) h k both plays =
      let gone = event_moved h k event in
      let step = event_says h k both event plays.0 in
      let rest = runs events (after writes h event) (after others k gone) step.1 plays.1 in
      ap (λ x. x ∷ sight others (after others k gone) (events_moved writes others (after writes h event) (after others k gone) events)) (sym step.0)
      ∙ ap (λ l. helper_says (world_at 0 writes event) h (come 0 writes event) ∷ l) rest

  -- ---- the moved run

  module _ (h k : Helper) (both : TwinHelpers aims h k) where
    later_at : (bytes mask : List ℕ) → List ℕ
    later_at bytes mask = mask_moved h.server.boxes k.server.boxes (linked is_command h.server.settings.width bytes) mask

    audits_there : (c : PlainFrame) (body : PlainBody) (x y : Stage) → TwinStages aims c.lane c.serial x y
        → Audits writes h.server c body x → Audits others k.server c body y
    audits_there c (frame.LinkAudit sigma opened) (Proved held share) (Proved twin other) at own =
        subst (λ (w : Write). AuditsOwn 0 (others c.lane c.serial) w (counted k.server w) sigma) at.0
        (subst (λ l. AuditsOwn 0 (others c.lane c.serial) held l sigma) (same_counted h k both held)
        (same_own moves stay 0 is_server width spared writes to fine c.lane c.serial (writes c.lane c.serial) refl held (counted h.server held) sigma own))
    audits_there c (frame.LinkAudit sigma opened) Idle Idle at own = tt
    audits_there c (frame.LinkAudit sigma opened) (Deposited held) (Deposited twin) at own = tt
    audits_there c (frame.LinkAudit sigma opened) (Begun held) (Begun twin) at own = tt
    audits_there c (frame.LinkAudit sigma opened) (Audited held closing) (Audited twin other) at own = tt
    audits_there c (frame.LinkAudit sigma opened) (Done want) (Done other) at own = tt
    audits_there c (frame.LinkAudit sigma opened) x y at own = absurd at
    audits_there c body x y at own = tt

    -- the command that both read
    read_here : (c : PlainFrame) (bytes : List ℕ) → linked is_command k.server.settings.width bytes ≡ Some c → linked is_command h.server.settings.width bytes ≡ Some c
    read_here c bytes is = ap (λ (s : Settings). linked is_command s.width bytes) both.server.settings ∙ is

    supposed_there : (event : Event) → Supposed writes h event → Supposed others k (event_moved h k event)
    supposed_there (FromAnybody bytes) none = no_proof_there moves stay 0 is_server width spared writes to fine bytes none
    supposed_there (Proves lane serial) proved = proved_there moves stay 0 is_server width spared writes to fine lane serial proved
    supposed_there (FromLink bytes mask) commands = λ c is.
        let here = read_here c bytes is in
        let at = commands c here in (
          λ next. audits_there c c.body _ _ (same_stages c.lane c.serial (row_at h.server c.lane) (row_at k.server c.lane) (both.server.rows c.lane)) (at.0 (next ∙ ap (λ n. n + 1) (sym both.carried))),
          subst (λ found. Covers k.server.boxes (number_in c.body) (mask_moved h.server.boxes k.server.boxes found mask)) (sym here)
              (at_size aims h.server.boxes k.server.boxes both.server.boxes (number_in c.body) mask at.1),
        )
    supposed_there LinkUp none = tt

    event_back : (event : Event) → Supposed writes h event → event_moved k h (event_moved h k event) ≡ event
    event_back (FromAnybody bytes) none = refl
    event_back (Proves lane serial) proved = refl
    event_back (FromLink bytes mask) commands =
        ap (λ m. FromLink bytes m)
        (ap (λ (s : Settings). mask_moved k.server.boxes h.server.boxes (linked is_command s.width bytes) (mask_moved h.server.boxes k.server.boxes (linked is_command h.server.settings.width bytes) mask)) (sym both.server.settings)
        ∙ moved_back aims h.server.boxes k.server.boxes both.server.boxes (linked is_command h.server.settings.width bytes) mask (λ c is. (commands c is).1))
    event_back LinkUp none = refl

    mask_stays : (event : Event) → Supposed writes h event → MaskStays spared h event (event_moved h k event)
    mask_stays (FromAnybody bytes) none = tt
    mask_stays (Proves lane serial) proved = tt
    mask_stays (FromLink bytes mask) commands = λ c number box is at found spared_here.
        ap (λ f. mask_moved h.server.boxes k.server.boxes f mask) is
        ∙ at_stay aims h.server.boxes k.server.boxes both.server.boxes (number_in c.body) mask (commands c is).1 number box at found spared_here
    mask_stays LinkUp none = tt

  plays_there : (events : List Event) (h k : Helper) → TwinHelpers aims h k → Plays writes h events → Plays others k (events_moved writes others h k events)
  unfolding events_moved Plays
  plays_there [] h k both plays = tt
  plays_there (event ∷ events) h k both plays =
      let step = event_says h k both event plays.0 in
      (supposed_there h k both event plays.0, plays_there events (after writes h event) (after others k (event_moved h k event)) step.1 plays.1)

  events_back : (events : List Event) (h k : Helper) → TwinHelpers aims h k → Plays writes h events → events_moved others writes k h (events_moved writes others h k events) ≡ events
  unfolding events_moved Plays
  events_back [] h k both plays = refl
  events_back (event ∷ events) h k both plays =
      let gone = event_moved h k event in
      let step = event_says h k both event plays.0 in
      let back = event_back h k both event plays.0 in
      ap (λ e. e ∷ events_moved others writes (after others k gone) (after writes h e) (events_moved writes others (after writes h event) (after others k gone) events)) back
      ∙ ap (λ l. event ∷ l) (events_back events (after writes h event) (after others k gone) step.1 plays.1)

  masks_stay : (events : List Event) (h k : Helper) → TwinHelpers aims h k → Plays writes h events → MasksStay spared writes h events (events_moved writes others h k events)
  unfolding events_moved Plays MasksStay
  masks_stay [] h k both plays = tt
  masks_stay (event ∷ events) h k both plays =
      let step = event_says h k both event plays.0 in
      (mask_stays h k both event plays.0, masks_stay events (after writes h event) (after others k (event_moved h k event)) step.1 plays.1)

module _ (moves : MovedChoicesAreTwins) (stay : ChoicesStay) (clients : HelpersAnswerClients) (leaders : HelpersAnswerLeaders) where
  opened : (settings : Settings) (seed : List ℕ) (spared : ℕ → Bool) (writes : Writes) (to : Aims) (fine : AllMove settings.width spared writes to)
      → TwinHelpers (alike moves stay 0 (omega arith) settings.width spared writes to fine) (opened_helper settings seed) (opened_helper settings seed)
  opened settings seed spared writes to fine = opened_twins (alike moves stay 0 (omega arith) settings.width spared writes to fine) settings seed

  pub helper_sights_stay : HelperSightsStay
  helper_sights_stay settings seed spared writes to events fine plays =
      runs moves stay clients leaders settings.width spared writes to fine events _ _ (opened settings seed spared writes to fine) plays

  pub helper_runs_stay : HelperRunsStay
  helper_runs_stay settings seed spared writes to events fine plays =
      plays_there moves stay clients leaders settings.width spared writes to fine events _ _ (opened settings seed spared writes to fine) plays

  pub helper_runs_return : HelperRunsReturn
  helper_runs_return settings seed spared writes to events fine plays =
      events_back moves stay clients leaders settings.width spared writes to fine events _ _ (opened settings seed spared writes to fine) plays

  pub helper_masks_stay : HelperMasksStay
  helper_masks_stay settings seed spared writes to events fine plays =
      masks_stay moves stay clients leaders settings.width spared writes to fine events _ _ (opened settings seed spared writes to fine) plays
