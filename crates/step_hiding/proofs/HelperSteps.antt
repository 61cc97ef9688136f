-- A helper and its twin step alike.
use Rattle.std.specs.Prelude.{◌≡◌, ℕ, ◌+◌, ◌-◌, Bool, true, false, cond, nat_le, nat_eq, refl, List, [], ◌∷◌, ◌++◌, length, drop, position, replicate, Option, Some, None, Result, Ok, Err, slice_get, slice_set, slice_index_or}
use Rattle.std.specs.List.{AllZip}
use Rattle.std.proofs.Common.{ap, sym, subst, ◌∙◌, inl, inr, zero, suc}
use Rattle.std.proofs.lemmas.Bool.{eqb-true}
use Rattle.express_words.specs.declared.settings.Settings.{Settings}
use Rattle.express_words.specs.declared.audit.ProofShare.{ProofShare}
use Rattle.express_words.specs.declared.audit.Openings.{Openings}
use Rattle.express_words.specs.declared.audit.Closing.{Closing}
use Rattle.express_words.specs.declared.refusal.Refusal.{Refusal}
use Rattle.express_words.specs.declared.refusal.Refusal.TheVariants as refusal
use Rattle.frame_rules.specs.declared.frame.DepositBody.{DepositBody}
use Rattle.frame_rules.specs.declared.frame.DepositBody.TheVariants as deposit
use Rattle.frame_rules.specs.Frames as frame
use Rattle.frame_rules.specs.Frames.{PlainFrame, PlainBody}
use Rattle.frame_rules.specs.Spelling.{spelling}
use Rattle.frame_rules.specs.Whole.{whole, linked, is_command, on_link}
use Rattle.lane_table.specs.Gates.{opening_gate, closing_gate}
use Rattle.lane_table.specs.declared.gate.Gate.{Gate}
use Rattle.lane_table.specs.declared.gate.Gate.TheVariants.{New, Same, Stale, Phase}
use Rattle.lane_table.specs.declared.row.Want.{Want}
use Rattle.lane_table.specs.declared.row.Want.TheVariants.{Register, Write as Writes, Read}
use Rattle.dpf_rules.specs.Expansion.{token}
use Rattle.audit_rules.specs.Audit.{accepts}
use Rattle.audit_rules.specs.Values.{Write, Values}
use Rattle.step_rules.specs.Boxes.{Box, place_of, new_box, with_new, with_read}
use Rattle.step_rules.specs.Helper as helper
use Rattle.step_rules.specs.Helper.{Server, Helper, Row, Stage, Idle, Deposited, Begun, Proved, Audited, Done, Turn, row, row_at, door, phase_of, want_in, want_of, Answer, Carried, Repeated, Ignored, LinkTurn, opened_helper, opened_server}
use Rattle.step_rules.specs.HelperClients.{RowTurn, row_turn, held_deposit, held_proof, deposit_at, deposit_row, proof_in, proof_at, proof_row, if_lane, by_kind, on_whole, client_turn}
use Rattle.step_rules.specs.HelperCommands as steps
use Rattle.step_rules.specs.HelperCommands.{Effect, done, stage_for, register_at, register, begin, audit, settle, read_live, read_at, read, command, carries_out, carried_with, arrives, if_command, kept_for, keeps, on_link_bytes, audit_values}
use Rattle.step_hiding.specs.Worlds.{real, values_in, written_in, masked_in, Event, FromClient, FromLink, LinkUp}
use Rattle.step_hiding.specs.Twins.{Aims, SameProofs, Two, SameElsewhere, TwinBoxes}
use Rattle.step_hiding.specs.HelperWorlds.{audit_in, settle_in, body_in, read_in, command_in, carries_in, arrives_in, if_command_in, on_link_in, helper_after, helper_says, helper_sight}
use Rattle.step_hiding.specs.HelperTwins.{TwinStages, TwinRows, TwinServers, TwinHelpers}
use Rattle.step_hiding.specs.HelperLaws.{TwinFrames, MayRead, SameMasked, Views, HelpersAnswerClients, HelpersAnswerLeaders, Comes, Plays, HelperSightsStay}
use Rattle.step_hiding.proofs.Lists.{gate_serial, set_alike, set_length, zip_set, zip_append, zip_length, Both, zip_get, same_addresses, twin_is, same_box, written}

-- ---- rows

is_proof : PlainBody → Bool
is_proof (frame.Proof share) = true
is_proof body = false

module _ (two : Two) (elsewhere : SameElsewhere two) where
  abbrev Stages : ℕ → ℕ → Stage → Stage → Type 0
  Stages lane serial x y = TwinStages two.aims lane serial x y

  same_wants : (lane serial : ℕ) (x y : Stage) → Stages lane serial x y → want_of x ≡ want_of y
  same_wants lane serial Idle Idle twins = refl
  same_wants lane serial (Deposited held) (Deposited other) twins = ap want_in twins
  same_wants lane serial (Begun w) (Begun v) twins = refl
  same_wants lane serial (Proved w s) (Proved v t) twins = refl
  same_wants lane serial (Audited w c) (Audited v d) twins = refl
  same_wants lane serial (Done want) (Done other) twins = twins
  same_wants lane serial x y twins = absurd twins

  same_phases : (lane serial : ℕ) (x y : Stage) → Stages lane serial x y → phase_of x ≡ phase_of y
  same_phases lane serial Idle Idle twins = refl
  same_phases lane serial (Deposited held) (Deposited other) twins = refl
  same_phases lane serial (Begun w) (Begun v) twins = refl
  same_phases lane serial (Proved w s) (Proved v t) twins = refl
  same_phases lane serial (Audited w c) (Audited v d) twins = refl
  same_phases lane serial (Done want) (Done other) twins = refl
  same_phases lane serial x y twins = absurd twins

  same_doors : (lane : ℕ) (r q : Row) → TwinRows two.aims lane r q → door r ≡ door q
  same_doors lane r q twins =
      let one = twins.serial in
      let two = same_phases lane r.serial r.stage q.stage twins.stage in
      let three = same_wants lane r.serial r.stage q.stage twins.stage in
      rw (one, two, three) refl

  -- ---- frames of clients, at one lane's row

  module _ (lane : ℕ) (r q : Row) (rows : TwinRows two.aims lane r q) where
    record TwinTurns (t u : RowTurn) : Type 0 where
      row : TwinRows two.aims lane t.row u.row
      body : t.body ≡ u.body

    stays : (body : PlainBody) → TwinTurns (row_turn r body) (row_turn q body)
    stays body = record { row = rows; body = refl }

    deposits_at : (serial : ℕ) (held : DepositBody) (gate : Gate) → TwinTurns (deposit_at r serial held gate) (deposit_at q serial held gate)
    unfolding deposit_at
    deposits_at serial held (Stale n) = stays (frame.Refused (refusal.Stale n))
    deposits_at serial held (Phase p) = stays (frame.Refused (refusal.Phase p))
    deposits_at serial held Same = stays held_deposit
    deposits_at serial held New = record { row = record { serial = refl; stage = refl }; body = refl }

    deposits : (serial : ℕ) (held : DepositBody) → TwinTurns (deposit_row r serial held) (deposit_row q serial held)
    unfolding deposit_row
    deposits serial held =
        subst (λ d. TwinTurns (deposit_at r serial held (opening_gate (door r) serial (want_in held))) (deposit_at q serial held (opening_gate d serial (want_in held))))
        (same_doors lane r q rows) (deposits_at serial held (opening_gate (door r) serial (want_in held)))

    -- a share that comes for this row
    module _ (share other : ProofShare) (twins : SameProofs (two.aims.proofs lane r.serial) share other) where
      proofs_in : (x y : Stage) → Stages lane r.serial x y → TwinTurns (proof_in r share x) (proof_in q other y)
      unfolding proof_in
      proofs_in Idle Idle at = stays (frame.Refused (refusal.Phase 0))
      proofs_in (Deposited held) (Deposited again) at = stays (frame.Refused (refusal.Phase 1))
      proofs_in (Begun w) (Begun v) at = record { row = record { serial = rows.serial; stage = (at, twins) }; body = refl }
      proofs_in (Proved w s) (Proved v t) at = stays held_proof
      proofs_in (Audited w c) (Audited v d) at = stays held_proof
      proofs_in (Done want) (Done again) at = stays held_proof
      proofs_in x y at = absurd at

    proofs_at : (serial : ℕ) (share other : ProofShare) → SameProofs (two.aims.proofs lane serial) share other → (gate : Gate)
        → closing_gate (door r) serial ≡ gate → TwinTurns (proof_at r share gate) (proof_at q other gate)
    unfolding proof_at
    proofs_at serial share other twins (Stale n) is = stays (frame.Refused (refusal.Stale n))
    proofs_at serial share other twins (Phase p) is = stays (frame.Refused (refusal.Phase p))
    proofs_at serial share other twins Same is =
        proofs_in share other (subst (λ n. SameProofs (two.aims.proofs lane n) share other) (gate_serial (door r) serial (inl is)) twins) r.stage q.stage rows.stage
    proofs_at serial share other twins New is =
        proofs_in share other (subst (λ n. SameProofs (two.aims.proofs lane n) share other) (gate_serial (door r) serial (inr is)) twins) r.stage q.stage rows.stage

    proves : (serial : ℕ) (share other : ProofShare) → SameProofs (two.aims.proofs lane serial) share other
        → TwinTurns (proof_row r serial share) (proof_row q serial other)
    unfolding proof_row
    proves serial share other twins =
        subst (λ d. TwinTurns (proof_at r share (closing_gate (door r) serial)) (proof_at q other (closing_gate d serial)))
        (same_doors lane r q rows) (proofs_at serial share other twins (closing_gate (door r) serial) refl)

  -- a twin of h: h with other boxes and rows
  module _ (h : Server) (boxes : List Box) (rows : List Row) (box_twins : AllZip (TwinBoxes two.aims) h.boxes boxes)
      (lanes : length h.rows ≡ length rows)
      (row_twins : (lane : ℕ) → TwinRows two.aims lane (row_at h lane) (slice_index_or rows lane helper.idle)) where
    abbrev K : Server
    K = record h { boxes = boxes; rows = rows }

    -- with other rows at a lane
    set_twins : (lane : ℕ) (r q : Row) → TwinRows two.aims lane r q → (bs ds : List Box) → AllZip (TwinBoxes two.aims) bs ds → (draws : ℕ)
        → TwinServers two.aims (record h { rows = slice_set h.rows lane r; boxes = bs; draws = draws }) (record h { rows = slice_set rows lane q; boxes = ds; draws = draws })
    set_twins lane r q twins bs ds zip draws = record {
      settings = refl;
      boxes = zip;
      lanes = set_length h.rows lane r ∙ lanes ∙ sym (set_length rows lane q);
      rows = set_alike (TwinRows two.aims) h.rows rows helper.idle lane r q lanes row_twins twins;
      draws = refl;
      seed = refl;
    }

    twins_here : TwinServers two.aims h K
    twins_here = record { settings = refl; boxes = box_twins; lanes = lanes; rows = row_twins; draws = refl; seed = refl }

    record TwinSays (t u : Turn) : Type 0 where
      server : TwinServers two.aims t.server u.server
      reply : t.reply ≡ u.reply

    says_either : (b : Bool) (t u v w : Turn) → TwinSays t u → TwinSays v w → TwinSays (cond b t v) (cond b u w)
    says_either true t u v w p q = p
    says_either false t u v w p q = q

    in_lane : (f : PlainFrame) (body : PlainBody) (t u : RowTurn) → TwinTurns f.lane (row_at h f.lane) (row_at K f.lane) (row_twins f.lane) t u
        → TwinSays (if_lane h f t) (if_lane K (record f { body = body }) u)
    unfolding if_lane
    in_lane f body t u twins =
        says_either (nat_le h.settings.lanes f.lane) _ _ _ _ (record { server = twins_here; reply = refl })
        (record {
          server = set_twins f.lane t.row u.row twins.row h.boxes boxes box_twins h.draws;
          reply = ap (λ (b : PlainBody). frame_of b) twins.body;
        })
      where
        frame_of : PlainBody → PlainFrame
        frame_of b = record { lane = f.lane; serial = f.serial; link = 0; body = b }

    kinds : (f : PlainFrame) (body other now : PlainBody) → TwinFrames two.aims f.lane f.serial body other
        → TwinSays (by_kind h f body) (by_kind K (record f { body = now }) other)
    unfolding by_kind is_proof
    kinds f (frame.Proof share) (frame.Proof other) now twins =
        in_lane f now _ _ (proves f.lane (row_at h f.lane) (row_at K f.lane) (row_twins f.lane) f.serial share other twins)
    kinds f (frame.Deposit held) other now twins =
        subst (λ b. TwinSays (by_kind h f (frame.Deposit held)) (by_kind K (record f { body = now }) b)) twins
        (in_lane f now _ _ (deposits f.lane (row_at h f.lane) (row_at K f.lane) (row_twins f.lane) f.serial held))
    kinds f (frame.Proof share) other now twins = absurd (let apart : true ≡ false = ap is_proof twins in cc apart)
    kinds f body other now twins =
        subst (λ b. TwinSays (by_kind h f body) (by_kind K (record f { body = now }) b)) twins
        (record { server = twins_here; reply = refl })

    client_says : (found other : Result PlainFrame Refusal) → MayRead two.aims found other → TwinSays (on_whole h found) (on_whole K other)
    unfolding on_whole
    client_says (Err why) (Err other) may = subst (λ r. TwinSays (on_whole h (Err why)) (on_whole K (Err r))) may (record { server = twins_here; reply = refl })
    client_says (Ok f) (Ok g) may =
        subst (λ (x : PlainFrame). TwinSays (on_whole h (Ok f)) (on_whole K (Ok x))) may.0 (kinds f f.body g.body g.body may.1)
    client_says (Err why) (Ok g) may = absurd may
    client_says (Ok f) (Err why) may = absurd may

    -- ---- commands of the leader

    module _ (f : PlainFrame) where
      record TwinEffects (d e : Effect) : Type 0 where
        server : TwinServers two.aims d.server e.server
        body : d.body ≡ e.body

      effects_either : (b : Bool) (d e p q : Effect) → TwinEffects d e → TwinEffects p q → TwinEffects (cond b d p) (cond b e q)
      effects_either true d e p q u v = u
      effects_either false d e p q u v = v

      done_with : (want : Want) (bs ds : List Box) → AllZip (TwinBoxes two.aims) bs ds
          → TwinServers two.aims (record (done h f want) { boxes = bs }) (record (done K f want) { boxes = ds })
      done_with want bs ds zip =
          set_twins f.lane (row f.serial (Done want)) (row f.serial (Done want)) (record { serial = refl; stage = refl }) bs ds zip h.draws

      done_twins : (want : Want) → TwinServers two.aims (done h f want) (done K f want)
      done_twins want = done_with want h.boxes boxes box_twins

      refused_done : (want : Want) (why : Refusal) → TwinEffects (steps.refuses (done h f want) why) (steps.refuses (done K f want) why)
      refused_done want why = record { server = done_twins want; body = refl }

      nothing : TwinEffects (steps.no_deposit h) (steps.no_deposit K)
      nothing = record { server = twins_here; body = refl }

      lengths : length h.boxes ≡ length boxes
      lengths = zip_length (TwinBoxes two.aims) h.boxes boxes box_twins

      places : (address : ℕ) → place_of address h.boxes ≡ place_of address boxes
      places address = ap (λ xs. position (λ other. nat_eq other address) xs) (same_addresses two.aims h.boxes boxes box_twins)

      registers : (address : ℕ) (key : List ℕ) (found : Option ℕ) → TwinEffects (register_at h f address key found) (register_at K f address key found)
      unfolding register_at
      registers address key (Some n) = refused_done Register (refusal.Taken n)
      registers address key None = subst (λ n. TwinEffects (at_count h (length h.boxes)) (at_count K n)) lengths (by (nat_le h.settings.boxes (length h.boxes)))
        where
          at_count : Server → ℕ → Effect
          at_count s n =
              cond (nat_le s.settings.boxes n) (steps.refuses (done s f Register) (refusal.Full s.settings.boxes))
              (steps.replies_with (record (done s f Register) { boxes = with_new s.settings.width address key s.boxes }) (frame.ReplyRegistered n))

          by : (full : Bool) → TwinEffects (cond full (steps.refuses (done h f Register) (refusal.Full h.settings.boxes))
              (steps.replies_with (record (done h f Register) { boxes = with_new h.settings.width address key h.boxes }) (frame.ReplyRegistered (length h.boxes))))
              (cond full (steps.refuses (done K f Register) (refusal.Full h.settings.boxes))
              (steps.replies_with (record (done K f Register) { boxes = with_new h.settings.width address key boxes }) (frame.ReplyRegistered (length h.boxes))))
          by true = refused_done Register (refusal.Full h.settings.boxes)
          by false =
              let new = new_box h.settings.width address key in
              record {
                server = done_with Register _ _ (zip_append (TwinBoxes two.aims) h.boxes boxes new new box_twins (same_box two.aims new));
                body = refl;
              }

      registers_key : (address : ℕ) (key : List ℕ) → TwinEffects (register h f address (Some key)) (register K f address (Some key))
      unfolding register
      registers_key address key =
          subst (λ found. TwinEffects (register_at h f address key (place_of address h.boxes)) (register_at K f address key found)) (places address)
          (registers address key (place_of address h.boxes))

      begins : (leaders part : List ℕ) (root : ℕ) → TwinEffects (begin h f leaders part (Some root)) (begin K f leaders part (Some root))
      unfolding begin
      begins leaders part root =
          let w : Write = steps.begun h leaders part root in
          let v : Write = steps.begun K leaders part root in
          let same : w ≡ v = ap (λ (n : ℕ). begun_with n) lengths in
          record {
            server = set_twins f.lane (row f.serial (Begun w)) (row f.serial (Begun v)) (record { serial = refl; stage = same }) h.boxes boxes box_twins (h.draws + 1);
            body = ap (λ n. frame.LinkBegun n (steps.draw h)) lengths;
          }
        where
          begun_with : ℕ → Write
          begun_with n = record (steps.begun h leaders part root) { count = n }

      audits : (sigma : ℕ) (opened : Openings) (w v : Write) (share other : ProofShare) → w ≡ v
          → values_in (two.here.leaf f.lane f.serial) 1 w (steps.counted h w) share sigma opened ≡ values_in (two.there.leaf f.lane f.serial) 1 v (steps.counted K v) other sigma opened
          → TwinEffects (audit_in two.here h f sigma opened (Some (Some (w, share)))) (audit_in two.there K f sigma opened (Some (Some (v, other))))
      unfolding audit_in
      audits sigma opened w v share other twins same =
          let one = values_in (two.here.leaf f.lane f.serial) 1 w (steps.counted h w) share sigma opened in
          let next = values_in (two.there.leaf f.lane f.serial) 1 v (steps.counted K v) other sigma opened in
          record {
            server = set_twins f.lane (row f.serial (Audited w one.closing)) (row f.serial (Audited v next.closing))
                (record { serial = refl; stage = (twins, ap (λ (x : Values). x.closing) same) }) h.boxes boxes box_twins h.draws;
            body = ap (λ (x : Values). frame.LinkReply (frame.ReplyAudited x.opened x.closing)) same;
          }

      settles : (leaders : Closing) (w : Write) (own : Closing)
          → TwinEffects (settle_in two.here h f leaders (Some (w, own))) (settle_in two.there K f leaders (Some (w, own)))
      unfolding settle_in
      settles leaders w own = by (accepts leaders own)
        where
          by : (yes : Bool) → TwinEffects
              (cond yes (steps.replies_with (record (done h f Writes) { boxes = written_in (two.here.leaf f.lane f.serial) w h.boxes }) frame.ReplyAccepted) (steps.replies_with (done h f Writes) frame.ReplyRejected))
              (cond yes (steps.replies_with (record (done K f Writes) { boxes = written_in (two.there.leaf f.lane f.serial) w boxes }) frame.ReplyAccepted) (steps.replies_with (done K f Writes) frame.ReplyRejected))
          by true = record { server = done_with Writes _ _ (written two elsewhere f.lane f.serial w h.boxes boxes box_twins); body = refl }
          by false = record { server = done_twins Writes; body = refl }

      -- what is read of a box, in both worlds
      abbrev Reads : Option Box → Option Box → Effect → Effect → Type 0
      Reads found other d e =
          TwinEffects (steps.effect d.server (body_in two.here h f found d.body)) (steps.effect e.server (body_in two.there K f other e.body))

      abbrev Masked : Option Box → Option Box → Type 0
      Masked found other =
          (box twin : Box) → found ≡ Some box → other ≡ Some twin
          → masked_in two.here f.lane f.serial h.settings.width box ≡ masked_in two.there f.lane f.serial h.settings.width twin

      reads_either : (found other : Option Box) (b : Bool) (d e p q : Effect) → Reads found other d e → Reads found other p q → Reads found other (cond b d p) (cond b e q)
      reads_either found other true d e p q u v = u
      reads_either found other false d e p q u v = v

      unread : (found other : Option Box) → Reads found other (steps.no_deposit h) (steps.no_deposit K)
      unfolding body_in
      unread None None = nothing
      unread (Some box) None = nothing
      unread None (Some box) = nothing
      unread (Some box) (Some twin) = nothing

      refused_read : (found other : Option Box) (want : Want) (why : Refusal) → Reads found other (steps.refuses (done h f want) why) (steps.refuses (done K f want) why)
      unfolding body_in
      refused_read None None want why = refused_done want why
      refused_read (Some box) None want why = refused_done want why
      refused_read None (Some box) want why = refused_done want why
      refused_read (Some box) (Some twin) want why = refused_done want why

      -- a box and its twin, which is the box with another share
      reads_live : (stays : Bool) (number held : ℕ) (box : Box) (share : List ℕ) → TwinBoxes two.aims box (record box { share = share })
          → Masked (Some box) (Some (record box { share = share }))
          → Reads (Some box) (Some (record box { share = share })) (read_live h f stays number held box) (read_live K f stays number held (record box { share = share }))
      unfolding read_live body_in
      reads_live stays number held box share twins masked =
          let other : Box = record box { share = share } in
          let left : AllZip (TwinBoxes two.aims) (with_read h.settings.width stays number box h.boxes) (with_read h.settings.width stays number other boxes) =
          zip_set (TwinBoxes two.aims) h.boxes boxes number _ _ box_twins (same_box two.aims _) in
          reads_either (Some box) (Some other) (nat_eq held (token box.key f.lane f.serial)) _ _ _ _
          (record {
            server = done_with Read _ _ left;
            body = ap (λ m. frame.LinkReply (frame.ReplyMasked m)) (masked box other refl refl);
          })
          (refused_done Read (refusal.BadToken number))

      reads_at : (stays : Bool) (number held : ℕ) (found other : Option Box) → Both (TwinBoxes two.aims) found other → Masked found other
          → Reads found other (read_at h f stays number held found) (read_at K f stays number held other)
      unfolding read_at
      reads_at stays number held None None twins masked = refused_read None None Read (refusal.NoBox number)
      reads_at stays number held (Some box) None twins masked = absurd twins
      reads_at stays number held None (Some box) twins masked = absurd twins
      reads_at stays number held (Some box) (Some twin) twins masked =
          let is = twin_is two.aims box twin twins in
          let other : Box = record box { share = twin.share } in
          subst (λ (t : Box). Reads (Some box) (Some t) (cond box.live (read_live h f stays number held box) (steps.refuses (done h f Read) (refusal.NoBox number)))
          (cond t.live (read_live K f stays number held t) (steps.refuses (done K f Read) (refusal.NoBox number)))) is
          (reads_either (Some box) (Some other) box.live _ _ _ _
          (reads_live stays number held box twin.share (subst (TwinBoxes two.aims box) (sym is) twins) (subst (λ (t : Box). Masked (Some box) (Some t)) (sym is) masked))
          (refused_read (Some box) (Some other) Read (refusal.NoBox number)))

      reads : (stays : Bool) (number held : ℕ) → SameMasked two h K f number
          → TwinEffects (read_in two.here h f number (read h f stays number (Some held))) (read_in two.there K f number (read K f stays number (Some held)))
      unfolding read
      reads stays number held masked =
          reads_at stays number held (slice_get h.boxes number) (slice_get boxes number) (zip_get (TwinBoxes two.aims) h.boxes boxes number box_twins) masked

      -- with nothing deposited a read is refused, in any world
      reads_nothing : (stays : Bool) (number : ℕ) → TwinEffects (read_in two.here h f number (read h f stays number None)) (read_in two.there K f number (read K f stays number None))
      unfolding read
      reads_nothing stays number = by (slice_get h.boxes number) (slice_get boxes number)
        where
          by : (found other : Option Box) → Reads found other (steps.no_deposit h) (steps.no_deposit K)
          by found other = unread found other

      deposited : (body : PlainBody) (held : DepositBody) → Views two h K f body (Deposited held) (Deposited held)
          → TwinEffects (command_in two.here h f body (Deposited held)) (command_in two.there K f body (Deposited held))
      unfolding command_in audit_in settle_in command register begin audit settle
      deposited (frame.LinkRegister address) (deposit.Register key) views = registers_key address key
      deposited (frame.LinkBegin leaders part) (deposit.Write root) views = begins leaders part root
      deposited (frame.LinkRead number) (deposit.Read held) views = reads true number held views
      deposited (frame.LinkRetire number) (deposit.Read held) views = reads false number held views
      deposited (frame.LinkRead number) held views = reads_nothing true number
      deposited (frame.LinkRetire number) held views = reads_nothing false number
      deposited body held views = nothing

      commands : (body : PlainBody) (x y : Stage) → Stages f.lane f.serial x y → Views two h K f body x y → TwinEffects (command_in two.here h f body x) (command_in two.there K f body y)
      unfolding command_in audit_in settle_in command register begin audit settle
      commands body (Deposited held) (Deposited other) twins views =
          subst (λ o. TwinEffects (command_in two.here h f body (Deposited held)) (command_in two.there K f body (Deposited o))) twins
          (deposited body held (subst (λ o. Views two h K f body (Deposited held) (Deposited o)) (sym twins) views))
      commands (frame.LinkAudit sigma opened) (Proved w share) (Proved v other) twins views = audits sigma opened w v share other twins.0 views
      commands (frame.LinkAudit sigma opened) (Begun w) (Begun v) twins views = refused_done Writes refusal.NotProved
      commands (frame.LinkSettle leaders) (Audited w own) (Audited v other) twins views =
          subst (λ v. TwinEffects (settle_in two.here h f leaders (Some (w, own))) (settle_in two.there K f leaders (Some (v, other)))) twins.0
          (subst (λ c. TwinEffects (settle_in two.here h f leaders (Some (w, own))) (settle_in two.there K f leaders (Some (w, c)))) twins.1 (settles leaders w own))
      commands (frame.LinkRead number) Idle Idle twins views = reads_nothing true number
      commands (frame.LinkRead number) (Begun w) (Begun v) twins views = reads_nothing true number
      commands (frame.LinkRead number) (Proved w share) (Proved v other) twins views = reads_nothing true number
      commands (frame.LinkRead number) (Audited w own) (Audited v other) twins views = reads_nothing true number
      commands (frame.LinkRead number) (Done want) (Done other) twins views = reads_nothing true number
      commands (frame.LinkRetire number) Idle Idle twins views = reads_nothing false number
      commands (frame.LinkRetire number) (Begun w) (Begun v) twins views = reads_nothing false number
      commands (frame.LinkRetire number) (Proved w share) (Proved v other) twins views = reads_nothing false number
      commands (frame.LinkRetire number) (Audited w own) (Audited v other) twins views = reads_nothing false number
      commands (frame.LinkRetire number) (Done want) (Done other) twins views = reads_nothing false number
      commands body Idle Idle twins views = nothing
      commands body (Begun w) (Begun v) twins views = nothing
      commands body (Proved w share) (Proved v other) twins views = nothing
      commands body (Audited w own) (Audited v other) twins views = nothing
      commands body (Done want) (Done other) twins views = nothing
      commands body x y twins views = absurd twins

      -- the row's stage, where it has the command's serial
      stage_twins : Stages f.lane f.serial (stage_for (row_at h f.lane) f.serial) (stage_for (row_at K f.lane) f.serial)
      stage_twins =
          subst (λ n. Stages f.lane f.serial (stage_for (row_at h f.lane) f.serial) (cond (nat_eq n f.serial) (row_at K f.lane).stage Idle)) (row_twins f.lane).serial
          (by (nat_eq (row_at h f.lane).serial f.serial) refl)
        where
          by : (same : Bool) → nat_eq (row_at h f.lane).serial f.serial ≡ same
              → Stages f.lane f.serial (cond same (row_at h f.lane).stage Idle) (cond same (row_at K f.lane).stage Idle)
          by true is = subst (λ n. Stages f.lane n (row_at h f.lane).stage (row_at K f.lane).stage) (eqb-true _ _ is) (row_twins f.lane).stage
          by false is = tt

      carries : Views two h K f f.body (stage_for (row_at h f.lane) f.serial) (stage_for (row_at K f.lane) f.serial)
          → TwinEffects (carries_in two.here h f) (carries_in two.there K f)
      unfolding carries_in
      carries views =
          effects_either (nat_le h.settings.lanes f.lane) _ _ _ _ (record { server = twins_here; body = refl })
          (commands f.body _ _ stage_twins views)

-- any twin of h is such a one
is_twin : (aims : Aims) (h k : Server) → TwinServers aims h k → record h { boxes = k.boxes; rows = k.rows } ≡ k
is_twin aims h k twins =
    ap (λ s. with_these s h.draws h.seed) twins.settings ∙ ap (λ n. with_these k.settings n h.seed) twins.draws
    ∙ ap (λ b. with_these k.settings k.draws b) twins.seed
  where
    with_these : Settings → ℕ → List ℕ → Server
    with_these settings draws seed = record { settings = settings; boxes = k.boxes; rows = k.rows; draws = draws; seed = seed }

-- one world, here and there
in_one : Aims → Two
in_one aims = record { here = real 1; there = real 1; aims = aims }

pub helpers_answer_clients : HelpersAnswerClients
unfolding in_one
helpers_answer_clients aims h k bytes other twins may =
    let s = twins.server in
    let says = client_says (in_one aims) (λ lane serial part root address is. refl) h.server k.server.boxes k.server.rows s.boxes s.lanes s.rows (whole bytes) (whole other) may in
    let at = is_twin aims h.server k.server s in (
      says.reply ∙ ap (λ (x : Server). (client_turn x other).reply) at,
      record {
        server = subst (λ x. TwinServers aims (client_turn h.server bytes).server (client_turn x other).server) at says.server;
        carried = twins.carried;
        replies = twins.replies;
      },
    )

-- ---- the link

module _ (two : Two) (elsewhere : SameElsewhere two) (h k : Helper) (twins : TwinHelpers two.aims h k) where
  record TwinLinks (t u : LinkTurn) : Type 0 where
    answer : t.answer ≡ u.answer
    helper : TwinHelpers two.aims t.helper u.helper

  links_either : (b : Bool) (t u v w : LinkTurn) → TwinLinks t u → TwinLinks v w → TwinLinks (cond b t v) (cond b u w)
  links_either true t u v w p q = p
  links_either false t u v w p q = q

  ignores : TwinLinks (record { helper = h; answer = Ignored }) (record { helper = k; answer = Ignored })
  ignores = record { answer = refl; helper = twins }

  abbrev SameView : PlainFrame → Type 0
  SameView f = Views two h.server k.server f f.body (stage_for (row_at h.server f.lane) f.serial) (stage_for (row_at k.server f.lane) f.serial)

  -- the twin's server is h's with other boxes and rows
  effects : (f : PlainFrame) → SameView f
      → TwinEffects two elsewhere h.server k.server.boxes k.server.rows twins.server.boxes twins.server.lanes twins.server.rows f (carries_in two.here h.server f) (carries_in two.there k.server f)
  effects f views =
      let at = is_twin two.aims h.server k.server twins.server in
      subst (λ x. TwinEffects two elsewhere h.server k.server.boxes k.server.rows twins.server.boxes twins.server.lanes twins.server.rows f (carries_in two.here h.server f) (carries_in two.there x f)) at
      (carries two elsewhere h.server k.server.boxes k.server.rows twins.server.boxes twins.server.lanes twins.server.rows f
      (subst (λ x. Views two h.server x f f.body (stage_for (row_at h.server f.lane) f.serial) (stage_for (row_at x f.lane) f.serial)) (sym at) views))

  carried : (f : PlainFrame) → SameView f → TwinLinks (carried_with h f (carries_in two.here h.server f)) (carried_with k f (carries_in two.there k.server f))
  carried f views = record {
    answer = ap (λ b. Carried (on_link f f.link b)) both.body;
    helper = record {
      server = both.server;
      carried = ap (λ n. n + 1) twins.carried;
      replies =
          ap (λ (s : Settings). kept s.window h.replies (carries_in two.here h.server f).body) twins.server.settings
          ∙ ap (λ xs. kept k.server.settings.window xs (carries_in two.here h.server f).body) twins.replies
          ∙ ap (kept k.server.settings.window k.replies) both.body;
    };
  }
    where
      both : TwinEffects two elsewhere h.server k.server.boxes k.server.rows twins.server.boxes twins.server.lanes twins.server.rows f (carries_in two.here h.server f) (carries_in two.there k.server f)
      both = effects f views

      kept : ℕ → List (List ℕ) → PlainBody → List (List ℕ)
      kept n xs b = drop (length (xs ++ spelling (on_link f f.link b) ∷ []) - n) (xs ++ spelling (on_link f f.link b) ∷ [])

  -- what isn't carried out
  abbrev other_turn : PlainFrame → Helper → ℕ → List (List ℕ) → LinkTurn
  other_turn f x n xs =
      cond (nat_le f.link n) (cond (nat_le (n + 1) (f.link + length xs)) (record { helper = x; answer = Repeated (slice_index_or xs (f.link + length xs - (n + 1)) []) }) (record { helper = x; answer = Ignored }))
      (record { helper = x; answer = Ignored })

  others : (f : PlainFrame) → TwinLinks (other_turn f h h.carried h.replies) (other_turn f k k.carried k.replies)
  others f =
      subst (λ n. TwinLinks (other_turn f h h.carried h.replies) (other_turn f k n k.replies)) twins.carried
      (subst (λ xs. TwinLinks (other_turn f h h.carried h.replies) (other_turn f k h.carried xs)) twins.replies
      (links_either (nat_le f.link h.carried) _ _ _ _
      (links_either (nat_le (h.carried + 1) (f.link + length h.replies)) _ _ _ _ (record { answer = refl; helper = twins }) ignores) ignores))

  arrival : (f : PlainFrame) → (f.link ≡ h.carried + 1 → SameView f) → TwinLinks (arrives_in two.here h f) (arrives_in two.there k f)
  unfolding arrives_in arrives
  arrival f views =
      subst (λ n. TwinLinks (arrives_in two.here h f) (cond (nat_eq f.link (n + 1)) (carried_with k f (carries_in two.there k.server f)) (arrives k f))) twins.carried
      (by (nat_eq f.link (h.carried + 1)) refl (nat_eq f.link (k.carried + 1)) (ap (λ n. nat_eq f.link (n + 1)) twins.carried))
    where
      by : (next : Bool) → nat_eq f.link (h.carried + 1) ≡ next → (too : Bool) → nat_eq f.link (h.carried + 1) ≡ too
          → TwinLinks (cond next (carried_with h f (carries_in two.here h.server f)) (cond next (carried_with h f (carries_out h.server f)) (other_turn f h h.carried h.replies)))
          (cond next (carried_with k f (carries_in two.there k.server f)) (cond too (carried_with k f (carries_out k.server f)) (other_turn f k k.carried k.replies)))
      by true e too u = carried f (views (eqb-true _ _ e))
      by false e false u = others f
      by false e true u = absurd (let apart : true ≡ false = sym u ∙ e in cc apart)

  found_links : (found : Option PlainFrame) → ((c : PlainFrame) → found ≡ Some c → c.link ≡ h.carried + 1 → SameView c)
      → TwinLinks (if_command_in two.here h found) (if_command_in two.there k found)
  unfolding if_command_in
  found_links None views = ignores
  found_links (Some f) views = arrival f (views f refl)

pub helpers_answer_leaders : HelpersAnswerLeaders
helpers_answer_leaders two h k bytes elsewhere twins views =
    let links = found_links two elsewhere h k twins (linked is_command h.server.settings.width bytes) views in
    let both = subst (λ (s : Settings). TwinLinks two elsewhere h k twins (on_link_in two.here h bytes) (if_command_in two.there k (linked is_command s.width bytes))) twins.server.settings links in
    (both.answer, both.helper)

-- ---- a run

event_says : (two : Two) → SameElsewhere two → (h k : Helper) (event other : Event) → TwinHelpers two.aims h k → Comes two h k event other
    → (helper_says two.here h event ≡ helper_says two.there k other)
    × TwinHelpers two.aims (helper_after two.here h event) (helper_after two.there k other)
event_says two elsewhere h k (FromClient bytes) (FromClient other) twins comes =
    let step = helpers_answer_clients two.aims h k bytes other twins comes in (ap spelling step.0, step.1)
event_says two elsewhere h k (FromLink bytes) (FromLink other) twins comes =
    let step = helpers_answer_leaders two h k bytes elsewhere twins comes.1 in
    subst (λ b. (helper.written (on_link_in two.here h bytes).answer ≡ helper.written (on_link_in two.there k b).answer)
    × TwinHelpers two.aims (on_link_in two.here h bytes).helper (on_link_in two.there k b).helper) comes.0
    (ap helper.written step.0, step.1)
event_says two elsewhere h k LinkUp LinkUp twins comes = (refl, twins)
event_says two elsewhere h k event other twins comes = absurd comes

runs : (two : Two) → SameElsewhere two → (events others : List Event) (h k : Helper) → TwinHelpers two.aims h k → Plays two h k events others
    → helper_sight two.here h events ≡ helper_sight two.there k others
unfolding Plays helper_sight
runs two elsewhere [] [] h k twins plays = refl
runs two elsewhere (event ∷ events) (other ∷ others) h k twins plays =
    let step = event_says two elsewhere h k event other twins plays.0 in
    let rest = runs two elsewhere events others (helper_after two.here h event) (helper_after two.there k other) step.1 plays.1 in
    ap (λ b. b ∷ helper_sight two.here (helper_after two.here h event) events) step.0 ∙ ap (λ xs. helper_says two.there k other ∷ xs) rest
runs two elsewhere [] (other ∷ others) h k twins plays = absurd plays
runs two elsewhere (event ∷ events) [] h k twins plays = absurd plays

idle_at : (n lane : ℕ) → slice_index_or (replicate n helper.idle) lane helper.idle ≡ helper.idle
idle_at zero lane = refl
idle_at (suc n) zero = refl
idle_at (suc n) (suc lane) = idle_at n lane

idle_rows : (aims : Aims) (n lane : ℕ)
    → TwinRows aims lane (slice_index_or (replicate n helper.idle) lane helper.idle) (slice_index_or (replicate n helper.idle) lane helper.idle)
idle_rows aims n lane = subst (λ (r : Row). TwinRows aims lane r r) (sym (idle_at n lane)) (record { serial = refl; stage = tt })

pub opened_twins : (aims : Aims) (settings : Settings) (seed : List ℕ) → TwinHelpers aims (opened_helper settings seed) (opened_helper settings seed)
unfolding opened_server
opened_twins aims settings seed = record {
  server = record { settings = refl; boxes = tt; lanes = refl; rows = idle_rows aims settings.lanes; draws = refl; seed = refl };
  carried = refl;
  replies = refl;
}

pub helper_sights_stay : HelperSightsStay
helper_sights_stay two settings seed events others elsewhere plays =
    runs two elsewhere events others (opened_helper settings seed) (opened_helper settings seed) (opened_twins two.aims settings seed) plays
