-- What a leader sends beside honest writes, and beside the moved ones.
use Rattle.std.specs.Prelude.{◌≡◌, ℕ, ◌<◌, Bool, true, false, cond, nat_eq, refl, List, [], ◌∷◌, take, Some, None, Result, Ok, Err, slice_get}
use Rattle.std.proofs.Common.{arith, ap, sym, subst, ◌∙◌}
use Rattle.express_words.specs.Bytes.{xor_bytes}
use Rattle.express_words.specs.declared.settings.Settings.{Settings}
use Rattle.express_words.specs.declared.audit.ProofShare.{ProofShare}
use Rattle.audit_rules.specs.Values.{Write, sigma_of}
use Rattle.express_words.specs.declared.refusal.Refusal.{Refusal}
use Rattle.dpf_rules.specs.Expansion.{draw32}
use Rattle.frame_rules.specs.Frames as frame
use Rattle.frame_rules.specs.Frames.{PlainFrame, PlainBody}
use Rattle.frame_rules.specs.Spelling.{spelling}
use Rattle.frame_rules.specs.Whole.{whole}
use Rattle.write_hiding.specs.Views.{other_share}
use Rattle.write_hiding.specs.Moved.{moved}
use Rattle.write_hiding.specs.Laws.{ChoicesStay}
use Rattle.moved_worlds.specs.Moves.{MovedChoicesAreTwins}
use Rattle.step_rules.specs.Leader as leader
use Rattle.step_rules.specs.Leader.{Leader, Row, Stage, Idle, Waiting, Challenged, Auditing, Settling, Done, row_at, opened_leader}
use Rattle.step_rules.specs.LeaderClients.{counted, sigma}
use Rattle.step_hiding.specs.Worlds.{values_in}
use Rattle.step_hiding.specs.Twins as twins
use Rattle.step_hiding.specs.Twins.{SameProofs, TwinBoxes}
use Rattle.step_hiding.specs.LeaderTwins.{TwinStages, TwinRows, TwinLeaders}
use Rattle.step_hiding.specs.LeaderWorlds.{leader_says, told, again}
use Rattle.step_hiding.specs.LeaderLaws as laws
use Rattle.step_hiding.specs.LeaderLaws.{TwinFrames, stage_for, MayRead, SameMasked, Views, SameViews, LeadersAnswerClients, LeadersAnswerHelpers}
use Rattle.step_hiding.proofs.Lists.{Both, zip_at, zip_get, same_addresses}
use Rattle.step_hiding.proofs.LeaderSteps.{opened_twins}
use Rattle.run_sights.specs.Histories.{HonestWrite, Writes, Aims, leaves_of, Event, FromAnybody, Proves, FromLink, LinkUp, come, world_at, proof_frame, proof_bytes, write_moved, writes_moved, mask_by, mask_at, mask_moved, number_in}
use Rattle.run_sights.specs.Suppositions.{AllMove, AuditsOwn, IsProved, Covers}
use Rattle.run_sights.specs.LeaderRuns.{after, sight, Audits, Supposed, Plays, event_moved, events_moved, MaskStays, MasksStay, LeaderSightsStay, LeaderRunsStay, LeaderRunsReturn, LeaderMasksStay}
use Rattle.run_sights.proofs.Moved.{proofs_of, alike, two_at, same_values, here_reads, there_reads, same_elsewhere, same_own, proved_there, no_proof_there, masks_take_up, at_size, at_stay, moved_back}

module _ (moves : MovedChoicesAreTwins) (stay : ChoicesStay) (clients : LeadersAnswerClients) (helpers : LeadersAnswerHelpers)
    (width : ℕ) (spared : ℕ → Bool) (writes : Writes) (to : Aims) (fine : AllMove width spared writes to) where
  is_server : 1 < 2
  is_server = omega arith

  abbrev others : Writes
  others = writes_moved 1 writes to

  abbrev aims : twins.Aims
  aims = alike moves stay 1 is_server width spared writes to fine

  abbrev two : (mask gone : List ℕ) → twins.Two
  two mask gone = two_at moves stay 1 is_server width spared writes to fine mask gone

  module _ (a b : Leader) (both : TwinLeaders aims a b) where
    same_counted : (held : Write) → counted a held ≡ counted b held
    same_counted held = ap (take held.count) (same_addresses aims a.boxes b.boxes both.boxes)

    same_sigma : sigma a ≡ sigma b
    same_sigma = ap (λ s. sigma_of (draw32 s a.draws)) both.seed ∙ ap (λ n. sigma_of (draw32 b.seed n)) both.draws

    same_stages : (lane serial : ℕ) → TwinStages (stage_for (row_at a lane) serial) (stage_for (row_at b lane) serial)
    same_stages lane serial =
        let rows : TwinRows (row_at a lane) (row_at b lane) = zip_at TwinRows a.rows b.rows lane leader.idle both.rows (record { serial = refl; stage = tt }) in
        subst (λ n. TwinStages (stage_for (row_at a lane) serial) (cond (nat_eq n serial) (row_at b lane).stage Idle)) rows.serial
        (by (nat_eq (row_at a lane).serial serial) rows.stage)
      where
        by : (same : Bool) → TwinStages (row_at a lane).stage (row_at b lane).stage → TwinStages (cond same (row_at a lane).stage Idle) (cond same (row_at b lane).stage Idle)
        by true stages = stages
        by false stages = tt

    -- ---- clients

    audits : (mask gone : List ℕ) (f : PlainFrame) (share other : ProofShare) (x y : Stage) → TwinStages x y → Audits writes a f.lane f.serial x
        → SameProofs (proofs_of 1 (writes f.lane f.serial) (to f.lane f.serial)) share other
        → laws.Audits (two mask gone) a b f (frame.Proof share) (frame.Proof other) x y
    audits mask gone f share other (Challenged held kept) (Challenged twin still) at own proofs = λ sent.
        same_values moves stay 1 is_server width spared writes to fine f.lane f.serial (writes f.lane f.serial) refl held (counted a held) (sigma a) share other own proofs sent
        ∙ ap (λ l. values_in (leaves_of 1 (others f.lane f.serial)) 0 held l other (sigma a) sent) (same_counted held)
        ∙ ap (λ n. values_in (leaves_of 1 (others f.lane f.serial)) 0 held (counted b held) other n sent) same_sigma
        ∙ ap (λ (w : Write). values_in (leaves_of 1 (others f.lane f.serial)) 0 w (counted b w) other (sigma b) sent) at.0
    audits mask gone f share other (Challenged held kept) y at own proofs = absurd at
    audits mask gone f share other x y at own proofs = tt

    -- nobody's write
    unaudited : (lane serial : ℕ) → writes lane serial ≡ None → (x : Stage) → Audits writes a lane serial x
    unaudited lane serial none (Challenged held kept) = subst (λ found. AuditsOwn 1 found held (counted a held) (sigma a)) (sym none) tt
    unaudited lane serial none x = tt

    same_frames : (f : PlainFrame) (body : PlainBody) → ((share : ProofShare) → body ≡ frame.Proof share → writes f.lane f.serial ≡ None)
        → TwinFrames body body × laws.Audits (two [] []) a b f body body (stage_for (row_at a f.lane) f.serial) (stage_for (row_at b f.lane) f.serial)
    same_frames f (frame.Proof share) none =
        let no = none share refl in (
          tt,
          audits [] [] f share share (stage_for (row_at a f.lane) f.serial) (stage_for (row_at b f.lane) f.serial) (same_stages f.lane f.serial) (unaudited f.lane f.serial no (stage_for (row_at a f.lane) f.serial))
              (subst (λ found. SameProofs (proofs_of 1 found (to f.lane f.serial)) share share) (sym no) refl),
        )
    same_frames f body none = (refl, tt)

    anybody : (found : Result PlainFrame Refusal)
        → ((f : PlainFrame) (share : ProofShare) → found ≡ Ok f → f.body ≡ frame.Proof share → writes f.lane f.serial ≡ None) → MayRead (two [] []) a b found found
    anybody (Err why) none = refl
    anybody (Ok f) none = let same = same_frames f f.body (λ share is. none f share refl is) in (refl, same.0, same.1)

    proof_read : (lane serial : ℕ) → IsProved writes lane serial → Audits writes a lane serial (stage_for (row_at a lane) serial)
        → MayRead (two [] []) a b (whole (proof_bytes 1 lane serial (writes lane serial))) (whole (proof_bytes 1 lane serial (others lane serial)))
    proof_read lane serial proved audit =
        subst (λ found. MayRead (two [] []) a b (whole (proof_bytes 1 lane serial found)) (whole (proof_bytes 1 lane serial (write_moved 1 found (to lane serial))))) (sym proved.is) read
      where
        v : HonestWrite
        v = record proved.write { choice = moved 1 proved.write.choice proved.write.aim (to lane serial) proved.write.game; aim = to lane serial }

        own : ProofShare
        own = other_share 1 proved.write.choice proved.write.aim proved.write.game

        gone : ProofShare
        gone = other_share 1 v.choice (to lane serial) proved.write.game

        shares : SameProofs (proofs_of 1 (writes lane serial) (to lane serial)) own gone
        shares = subst (λ found. SameProofs (proofs_of 1 found (to lane serial)) own gone) (sym proved.is) (refl, refl)

        read : MayRead (two [] []) a b (whole (spelling (proof_frame 1 lane serial proved.write))) (whole (spelling (proof_frame 1 lane serial v)))
        read =
            subst (λ found. MayRead (two [] []) a b found (whole (spelling (proof_frame 1 lane serial v)))) (sym (here_reads moves stay 1 is_server width spared writes to fine lane serial proved proved.write proved.is))
            (subst (λ found. MayRead (two [] []) a b (Ok (proof_frame 1 lane serial proved.write)) found) (sym (there_reads moves stay 1 is_server width spared writes to fine lane serial proved proved.write proved.is))
            (refl, tt, audits [] [] (proof_frame 1 lane serial proved.write) own gone (stage_for (row_at a lane) serial) (stage_for (row_at b lane) serial) (same_stages lane serial) audit shares))

    -- ---- replies

    covered : (c : PlainFrame) (number : ℕ) (mask : List ℕ) → Covers a.boxes (Some number) mask
        → SameMasked (two mask (mask_at a.boxes b.boxes (Some number) mask)) a b c number
    covered c number mask covers box twin is was =
        let at : TwinBoxes aims box twin =
        subst (λ found. Both (TwinBoxes aims) found (Some twin)) is
        (subst (λ found. Both (TwinBoxes aims) (slice_get a.boxes number) found) was (zip_get (TwinBoxes aims) a.boxes b.boxes number both.boxes)) in
        masks_take_up box.share twin.share mask at.size (covers box is)
        ∙ ap (λ found. xor_bytes twin.share (mask_by found (Some twin) mask)) (sym is)
        ∙ ap (λ found. xor_bytes twin.share (mask_by (slice_get a.boxes number) found mask)) (sym was)

    views : (c : PlainFrame) (mask : List ℕ) (body : PlainBody) → Covers a.boxes (number_in body) mask
        → Views (two mask (mask_at a.boxes b.boxes (number_in body) mask)) a b c body
    views c mask (frame.LinkRead number) covers = covered c number mask covers
    views c mask (frame.LinkRetire number) covers = covered c number mask covers
    views c mask body covers = tt

    same_views : (bytes mask : List ℕ) → Supposed writes a (FromLink bytes mask)
        → SameViews (two mask (mask_moved a.boxes b.boxes (slice_get a.outstanding 0) mask)) a b bytes
    same_views bytes mask covers reply c read is =
        subst (λ found. Views (two mask (mask_moved a.boxes b.boxes found mask)) a b c c.body) (sym is) (views c mask c.body (covers c is))

    -- ---- an event

    abbrev Says : Event → Event → Type 0
    Says event gone =
        (leader_says (world_at 1 writes event) a (come 1 writes event) ≡ leader_says (world_at 1 others gone) b (come 1 others gone))
        × TwinLeaders aims (after writes a event) (after others b gone)

    elsewhere : (mask gone : List ℕ) → twins.SameElsewhere (two mask gone)
    elsewhere mask gone = same_elsewhere moves stay 1 is_server width spared writes to fine mask gone

    event_says : (event : Event) → Supposed writes a event → Says event (event_moved a b event)
    event_says (FromAnybody bytes) none =
        let step = clients (two [] []) a b bytes bytes (elsewhere [] []) both (anybody (whole bytes) none) in (ap leader.written step.0, step.1)
    event_says (Proves lane serial) proved =
        let step = clients (two [] []) a b (proof_bytes 1 lane serial (writes lane serial)) (proof_bytes 1 lane serial (others lane serial)) (elsewhere [] []) both
        (proof_read lane serial proved.0 proved.1) in
        (ap leader.written step.0, step.1)
    event_says (FromLink bytes mask) covers =
        let later = mask_moved a.boxes b.boxes (slice_get a.outstanding 0) mask in
        let step = helpers (two mask later) a b bytes (elsewhere mask later) both (same_views bytes mask covers) in
        (ap told step.0, step.1)
    event_says LinkUp none = (ap (λ (xs : List PlainFrame). again (slice_get xs 0)) both.outstanding, both)

  runs : (events : List Event) (a b : Leader) → TwinLeaders aims a b → Plays writes a events → sight others b (events_moved writes others a b events) ≡ sight writes a events
  unfolding sight events_moved Plays
  runs [] a b both plays = refl
  runs (event ∷ events) a b both plays =
      let gone = event_moved a b event in
      let step = event_says a b both event plays.0 in
      let rest = runs events (after writes a event) (after others b gone) step.1 plays.1 in
      ap (λ x. x ∷ sight others (after others b gone) (events_moved writes others (after writes a event) (after others b gone) events)) (sym step.0)
      ∙ ap (λ l. leader_says (world_at 1 writes event) a (come 1 writes event) ∷ l) rest

  -- ---- the moved run

  module _ (a b : Leader) (both : TwinLeaders aims a b) where
    audits_there : (lane serial : ℕ) (x y : Stage) → TwinStages x y → Audits writes a lane serial x → Audits others b lane serial y
    audits_there lane serial (Challenged held kept) (Challenged twin still) at own =
        subst (λ (w : Write). AuditsOwn 1 (others lane serial) w (counted b w) (sigma b)) at.0
        (subst (λ n. AuditsOwn 1 (others lane serial) held (counted b held) n) (same_sigma a b both)
        (subst (λ l. AuditsOwn 1 (others lane serial) held l (sigma a)) (same_counted a b both held)
        (same_own moves stay 1 is_server width spared writes to fine lane serial (writes lane serial) refl held (counted a held) (sigma a) own)))
    audits_there lane serial Idle Idle at own = tt
    audits_there lane serial (Waiting n asked) (Waiting m other) at own = tt
    audits_there lane serial (Auditing n w s p o) (Auditing m v t q u) at own = tt
    audits_there lane serial (Settling n w c d) (Settling m v e g) at own = tt
    audits_there lane serial (Done want kept) (Done other still) at own = tt
    audits_there lane serial x y at own = absurd at

    oldest_here : (c : PlainFrame) → slice_get b.outstanding 0 ≡ Some c → slice_get a.outstanding 0 ≡ Some c
    oldest_here c is = ap (λ (l : List PlainFrame). slice_get l 0) both.outstanding ∙ is

    supposed_there : (event : Event) → Supposed writes a event → Supposed others b (event_moved a b event)
    supposed_there (FromAnybody bytes) none = no_proof_there moves stay 1 is_server width spared writes to fine bytes none
    supposed_there (Proves lane serial) proved = (
      proved_there moves stay 1 is_server width spared writes to fine lane serial proved.0,
      audits_there lane serial _ _ (same_stages a b both lane serial) proved.1,
    )
    supposed_there (FromLink bytes mask) covers = λ c is.
        let here = oldest_here c is in
        subst (λ found. Covers b.boxes (number_in c.body) (mask_moved a.boxes b.boxes found mask)) (sym here)
        (at_size aims a.boxes b.boxes both.boxes (number_in c.body) mask (covers c here))
    supposed_there LinkUp none = tt

    event_back : (event : Event) → Supposed writes a event → event_moved b a (event_moved a b event) ≡ event
    event_back (FromAnybody bytes) none = refl
    event_back (Proves lane serial) proved = refl
    event_back (FromLink bytes mask) covers =
        ap (λ m. FromLink bytes m)
        (ap (λ (l : List PlainFrame). mask_moved b.boxes a.boxes (slice_get l 0) (mask_moved a.boxes b.boxes (slice_get a.outstanding 0) mask)) (sym both.outstanding)
        ∙ moved_back aims a.boxes b.boxes both.boxes (slice_get a.outstanding 0) mask covers)
    event_back LinkUp none = refl

    mask_stays : (event : Event) → Supposed writes a event → MaskStays spared a event (event_moved a b event)
    mask_stays (FromAnybody bytes) none = tt
    mask_stays (Proves lane serial) proved = tt
    mask_stays (FromLink bytes mask) covers = λ c number box is at found spared_here.
        ap (λ f. mask_moved a.boxes b.boxes f mask) is
        ∙ at_stay aims a.boxes b.boxes both.boxes (number_in c.body) mask (covers c is) number box at found spared_here
    mask_stays LinkUp none = tt

  plays_there : (events : List Event) (a b : Leader) → TwinLeaders aims a b → Plays writes a events → Plays others b (events_moved writes others a b events)
  unfolding events_moved Plays
  plays_there [] a b both plays = tt
  plays_there (event ∷ events) a b both plays =
      let step = event_says a b both event plays.0 in
      (supposed_there a b both event plays.0, plays_there events (after writes a event) (after others b (event_moved a b event)) step.1 plays.1)

  events_back : (events : List Event) (a b : Leader) → TwinLeaders aims a b → Plays writes a events → events_moved others writes b a (events_moved writes others a b events) ≡ events
  unfolding events_moved Plays
  events_back [] a b both plays = refl
  events_back (event ∷ events) a b both plays =
      let gone = event_moved a b event in
      let step = event_says a b both event plays.0 in
      let back = event_back a b both event plays.0 in
      ap (λ e. e ∷ events_moved others writes (after others b gone) (after writes a e) (events_moved writes others (after writes a event) (after others b gone) events)) back
      ∙ ap (λ l. event ∷ l) (events_back events (after writes a event) (after others b gone) step.1 plays.1)

  masks_stay : (events : List Event) (a b : Leader) → TwinLeaders aims a b → Plays writes a events → MasksStay spared writes a events (events_moved writes others a b events)
  unfolding events_moved Plays MasksStay
  masks_stay [] a b both plays = tt
  masks_stay (event ∷ events) a b both plays =
      let step = event_says a b both event plays.0 in
      (mask_stays a b both event plays.0, masks_stay events (after writes a event) (after others b (event_moved a b event)) step.1 plays.1)

module _ (moves : MovedChoicesAreTwins) (stay : ChoicesStay) (clients : LeadersAnswerClients) (helpers : LeadersAnswerHelpers) where
  opened : (settings : Settings) (seed : List ℕ) (spared : ℕ → Bool) (writes : Writes) (to : Aims) (fine : AllMove settings.width spared writes to)
      → TwinLeaders (alike moves stay 1 (omega arith) settings.width spared writes to fine) (opened_leader settings seed) (opened_leader settings seed)
  opened settings seed spared writes to fine = opened_twins (alike moves stay 1 (omega arith) settings.width spared writes to fine) settings seed

  pub leader_sights_stay : LeaderSightsStay
  leader_sights_stay settings seed spared writes to events fine plays =
      runs moves stay clients helpers settings.width spared writes to fine events _ _ (opened settings seed spared writes to fine) plays

  pub leader_runs_stay : LeaderRunsStay
  leader_runs_stay settings seed spared writes to events fine plays =
      plays_there moves stay clients helpers settings.width spared writes to fine events _ _ (opened settings seed spared writes to fine) plays

  pub leader_runs_return : LeaderRunsReturn
  leader_runs_return settings seed spared writes to events fine plays =
      events_back moves stay clients helpers settings.width spared writes to fine events _ _ (opened settings seed spared writes to fine) plays

  pub leader_masks_stay : LeaderMasksStay
  leader_masks_stay settings seed spared writes to events fine plays =
      masks_stay moves stay clients helpers settings.width spared writes to fine events _ _ (opened settings seed spared writes to fine) plays
