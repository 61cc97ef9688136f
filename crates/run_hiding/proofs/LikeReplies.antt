-- What a leader does at a reply, where another differs in other lanes' rows, in shares and in kept answers.
use Rattle.std.proofs.Common.{◌≡◌, ◌∙◌, ◌<◌, ◌⊎◌, ℕ, Bool, true, false, cond, nat_le, nat_eq, not, ◌&&◌, is_none, List, [], length, position, Option, Some, None, slice_get, slice_set, slice_index_or, refl, sym, ap, ap₂, inl, inr}
use Rattle.std.specs.Option.{option_map}
use Rattle.std.proofs.lemmas.List.{get_or-set_same}
use Rattle.express_words.specs.declared.audit.Openings.{Openings}
use Rattle.express_words.specs.declared.audit.Closing.{Closing}
use Rattle.express_words.specs.declared.refusal.Refusal.{Refusal}
use Rattle.audit_rules.specs.Audit.{accepts}
use Rattle.frame_rules.specs.Frames as frame
use Rattle.frame_rules.specs.Frames.{PlainFrame, PlainBody}
use Rattle.frame_rules.specs.Whole.{answer}
use Rattle.lane_table.specs.declared.row.Want.{Want}
use Rattle.step_rules.specs.Boxes.{Box, addresses_of}
use Rattle.step_rules.specs.Leader.{Ack, AckTurn, Auditing, Challenged, Done, Idle, Ignored, Leader, Registering, Row, Settling, Stage, ToLane, Waiting, Writing, idle, row, row_at}
use Rattle.step_rules.specs.LeaderReplies.{accepted, answers, audited, began, by_command, fits, if_audited, if_begun, if_fits, if_read, if_registered, if_settled, ignored, read, refusal_in, registered, registered_in, rejected}
use Rattle.run_hiding.proofs.LikeBoxes.{bare_box, bares, same_addresses, same_box, same_count}
use Rattle.run_hiding.specs.Flow.{shareless}
use Rattle.run_hiding.proofs.LikeLeader.{hidden_row, hidden_stage}

-- an answer to a lane but for its body
abbrev pub hidden_ack : Ack → Ack
hidden_ack (ToLane lane reply) = ToLane lane (record reply { body = frame.Accepted })
hidden_ack ack = ack

pub record Heard : Type 0 where
  pub row : Row
  pub ack : Ack

abbrev pub heard : Row → Ack → Heard
heard r ack = record { row = r; ack = ack }

-- two stages that are alike are one, or both done
pub record BothDone (x y : Stage) : Type 0 where
  pub first : Want
  pub second : Want
  pub kept : PlainBody
  pub theirs : PlainBody
  pub is_first : x ≡ Done first kept
  pub is_second : y ≡ Done second theirs

pub split : (x y : Stage) → hidden_stage x ≡ hidden_stage y → (x ≡ y) ⊎ BothDone x y
split (Done w k) (Done v j) e = inr (record { first = w; second = v; kept = k; theirs = j; is_first = refl; is_second = refl })
split (Done w k) Idle e = absurd (cc e)
split (Done w k) (Waiting n asked) e = absurd (cc e)
split (Done w k) (Challenged write kept) e = absurd (cc e)
split (Done w k) (Auditing n write share sigma opened) e = absurd (cc e)
split (Done w k) (Settling n write own other) e = absurd (cc e)
split x (Done v j) e = absurd (cc e)
split x y e = inl e

module _ (a : Leader) (boxes : List Box) (rows : List Row) (outstanding : List PlainFrame) (c : PlainFrame) (like : bares boxes ≡ bares a.boxes)
    (low : c.lane < length a.rows) (few : c.lane < length rows) (same : hidden_row (slice_index_or rows c.lane idle) ≡ hidden_row (row_at a c.lane)) where
  abbrev other : Leader
  other = record a { boxes = boxes; rows = rows; outstanding = outstanding }

  abbrev of : AckTurn → Heard
  of t = heard (hidden_row (row_at t.leader c.lane)) (hidden_ack t.ack)

  abbrev opt : Option AckTurn → Option Heard
  opt (Some t) = Some (of t)
  opt None = None

  addresses : addresses_of boxes ≡ addresses_of a.boxes
  addresses = same_addresses boxes a.boxes like

  count : length boxes ≡ length a.boxes
  count = same_count boxes a.boxes like

  abbrev after : List Row → Stage → Ack → Heard
  after rows s ack = heard (hidden_row (slice_index_or (slice_set rows c.lane (row c.serial s)) c.lane idle)) ack

  keeps : (s t : Stage) → hidden_stage s ≡ hidden_stage t
      → (let x : Option Heard = Some (after rows s (ToLane c.lane (answer c frame.Accepted))) in x) ≡ Some (after a.rows t (ToLane c.lane (answer c frame.Accepted)))
  keeps s t e =
      ap (λ r. Some (heard r (ToLane c.lane (answer c frame.Accepted))))
      (ap (λ r. hidden_row r) (get_or-set_same rows c.lane (row c.serial s) idle few) ∙ ap (λ s. row c.serial s) e
      ∙ sym (ap (λ r. hidden_row r) (get_or-set_same a.rows c.lane (row c.serial t) idle low)))

  settles_alike : (s : Stage) (ack : Ack) → (let x : Option Heard = Some (after rows s ack) in x) ≡ Some (after a.rows s ack)
  settles_alike s ack =
      ap (λ r. Some (heard (hidden_row r) ack)) (get_or-set_same rows c.lane (row c.serial s) idle few ∙ sym (get_or-set_same a.rows c.lane (row c.serial s) idle low))

  choose : (t u : Bool) (x x' y y' : Option AckTurn) → t ≡ u → opt x ≡ opt x' → opt y ≡ opt y' → opt (cond t x y) ≡ opt (cond u x' y')
  choose true true x x' y y' e p q = p
  choose false false x x' y y' e p q = q
  choose true false x x' y y' e p q = absurd (cc e)
  choose false true x x' y y' e p q = absurd (cc e)

  by_split : (F G : Stage → Option AckTurn) (x y : Stage) → hidden_stage x ≡ hidden_stage y → ((x : Stage) → opt (F x) ≡ opt (G x))
      → ((w v : Want) (k j : PlainBody) → opt (F (Done w k)) ≡ opt (G (Done v j))) → opt (F x) ≡ opt (G y)
  by_split F G x y e one done = elim (split x y e) [
    | inl s ↦ one x ∙ ap (λ z. opt (G z)) s
    | inr d ↦ ap (λ z. opt (F z)) d.is_first ∙ done d.first d.second d.kept d.theirs ∙ sym (ap (λ z. opt (G z)) d.is_second)
  ]

  -- ---- by the command

  registers : (address n : ℕ) (x : Stage) → opt (registered other c address x n) ≡ opt (registered a c address x n)
  unfolding registered
  registers address n (Waiting m (Registering o key)) =
      choose _ _ _ _ _ _ (ap₂ (λ k ps. nat_eq n k && (is_none (position (λ m. nat_eq m address) ps) && not (nat_le a.settings.boxes k))) count addresses)
      (keeps _ _ refl) refl
  registers address n x = refl

  begins : (n : ℕ) (drawn : List ℕ) (x : Stage) → opt (began other c x n drawn) ≡ opt (began a c x n drawn)
  unfolding began
  begins n drawn (Waiting m (Writing root part mine)) = choose _ _ _ _ _ _ (ap (λ k. nat_eq n k) count) (keeps _ _ refl) refl
  begins n drawn x = refl

  audits : (theirs : Openings) (closed : Closing) (x : Stage) → opt (audited other c x theirs closed) ≡ opt (audited a c x theirs closed)
  unfolding audited
  audits theirs closed (Auditing n w share sigma opened) = settles_alike _ _
  audits theirs closed x = refl

  accepts_alike : (x : Stage) → opt (accepted other c x) ≡ opt (accepted a c x)
  unfolding accepted
  accepts_alike (Settling n w own theirs) = choose (accepts own theirs) (accepts own theirs) _ _ _ _ refl (keeps _ _ refl) refl
  accepts_alike x = refl

  rejects_alike : (x : Stage) → opt (rejected other c x) ≡ opt (rejected a c x)
  unfolding rejected
  rejects_alike (Settling n w own theirs) = choose (accepts own theirs) (accepts own theirs) _ _ _ _ refl refl (keeps _ _ refl)
  rejects_alike x = refl

  reads : (stays : Bool) (n : ℕ) (share : List ℕ) (box theirs : Option Box) → option_map (λ box. bare_box box) box ≡ option_map (λ box. bare_box box) theirs
      → opt (read other c stays n box share) ≡ opt (read a c stays n theirs share)
  unfolding read
  reads stays n share None None e = refl
  reads stays n share (Some box) (Some theirs) e = keeps _ _ refl
  reads stays n share None (Some theirs) e = absurd (cc e)
  reads stays n share (Some box) None e = absurd (cc e)

  if_registers : (address : ℕ) (x y : Stage) (said : Option ℕ) → hidden_stage x ≡ hidden_stage y
      → opt (if_registered other c address x said) ≡ opt (if_registered a c address y said)
  unfolding registered
  if_registers address x y (Some n) e =
      by_split (λ z. registered other c address z n) (λ z. registered a c address z n) x y e (registers address n) (λ w v k j. refl)
  if_registers address x y None e = refl

  if_begins : (x y : Stage) (body : PlainBody) → hidden_stage x ≡ hidden_stage y → opt (if_begun other c x body) ≡ opt (if_begun a c y body)
  unfolding began
  if_begins x y (frame.LinkBegun n drawn) e =
      by_split (λ z. began other c z n drawn) (λ z. began a c z n drawn) x y e (begins n drawn) (λ w v k j. refl)
  if_begins x y body e = refl

  if_audits : (x y : Stage) (body : PlainBody) → hidden_stage x ≡ hidden_stage y → opt (if_audited other c x body) ≡ opt (if_audited a c y body)
  unfolding audited
  if_audits x y (frame.LinkReply (frame.ReplyAudited opened closed)) e =
      by_split (λ z. audited other c z opened closed) (λ z. audited a c z opened closed) x y e (audits opened closed) (λ w v k j. refl)
  if_audits x y body e = refl

  if_settles : (x y : Stage) (body : PlainBody) → hidden_stage x ≡ hidden_stage y → opt (if_settled other c x body) ≡ opt (if_settled a c y body)
  unfolding accepted rejected
  if_settles x y (frame.LinkReply frame.ReplyAccepted) e =
      by_split (λ z. accepted other c z) (λ z. accepted a c z) x y e accepts_alike (λ w v k j. refl)
  if_settles x y (frame.LinkReply frame.ReplyRejected) e =
      by_split (λ z. rejected other c z) (λ z. rejected a c z) x y e rejects_alike (λ w v k j. refl)
  if_settles x y body e = refl

  if_reads : (stays : Bool) (n : ℕ) (body : PlainBody) → opt (if_read other c stays n body) ≡ opt (if_read a c stays n body)
  if_reads stays n (frame.LinkReply (frame.ReplyMasked share)) =
      reads stays n share (slice_get boxes n) (slice_get a.boxes n) (same_box boxes a.boxes n like)
  if_reads stays n body = refl

  commands : (command : PlainBody) (x y : Stage) (body : PlainBody) → hidden_stage x ≡ hidden_stage y
      → opt (by_command other c command x body) ≡ opt (by_command a c command y body)
  unfolding by_command
  commands (frame.LinkRegister address) x y body e = if_registers address x y (registered_in body) e
  commands (frame.LinkBegin drawn part) x y body e = if_begins x y body e
  commands (frame.LinkAudit sigma opened) x y body e = if_audits x y body e
  commands (frame.LinkSettle own) x y body e = if_settles x y body e
  commands (frame.LinkRead n) x y body e = if_reads true n body
  commands (frame.LinkRetire n) x y body e = if_reads false n body
  commands command x y body e = refl

  -- the masked share doesn't tell but in the answer
  masked_read : (stays : Bool) (n : ℕ) (share : List ℕ) (found : Option Box) → opt (read a c stays n found []) ≡ opt (read a c stays n found share)
  unfolding read
  masked_read stays n share None = refl
  masked_read stays n share (Some box) =
      ap (λ r. Some (heard r (ToLane c.lane (answer c frame.Accepted))))
      (ap (λ r. hidden_row r) (get_or-set_same a.rows c.lane _ idle low) ∙ sym (ap (λ r. hidden_row r) (get_or-set_same a.rows c.lane _ idle low)))

  hides : (command : PlainBody) (x : Stage) (share : List ℕ)
      → opt (by_command a c command x (frame.LinkReply (frame.ReplyMasked []))) ≡ opt (by_command a c command x (frame.LinkReply (frame.ReplyMasked share)))
  unfolding by_command
  hides (frame.LinkRead n) x share = masked_read true n share (slice_get a.boxes n)
  hides (frame.LinkRetire n) x share = masked_read false n share (slice_get a.boxes n)
  hides command x share = refl

  abbrev fit : PlainBody → Option Heard
  fit body = opt (fits a c body (refusal_in body))

  hides_fit : (body : PlainBody) → fit (shareless body) ≡ fit body
  unfolding fits
  hides_fit (frame.LinkReply (frame.ReplyMasked share)) = hides c.body (row_at a c.lane).stage share
  hides_fit body = refl

  fits_alike : (body : PlainBody) (r : Option Refusal) → opt (fits other c body r) ≡ opt (fits a c body r)
  unfolding fits
  fits_alike body (Some r) = keeps _ _ refl
  fits_alike body None = commands c.body (row_at other c.lane).stage (row_at a c.lane).stage body (ap (λ (r : Row). r.stage) same)

  if_fits_alike : (x y : Option AckTurn) → opt x ≡ opt y → of (if_fits other x) ≡ of (if_fits a y)
  if_fits_alike (Some t) (Some u) e = some_same e
    where
      some_same : {s t : Heard} → (let o : Option Heard = Some s in o) ≡ Some t → s ≡ t
      some_same e = cc e
  if_fits_alike None None e = ap (λ r. heard r Ignored) same
  if_fits_alike (Some t) None e = absurd (cc e)
  if_fits_alike None (Some u) e = absurd (cc e)

  -- two replies to the command that differ in the share that is masked
  pub answers_alike : (f g : PlainFrame) → f.link ≡ g.link → f.lane ≡ g.lane → f.serial ≡ g.serial → shareless f.body ≡ shareless g.body
      → of (answers other f (Some c)) ≡ of (answers a g (Some c))
  unfolding answers
  answers_alike f g link lane serial body =
      by_test (nat_eq f.link c.link && (nat_eq f.lane c.lane && nat_eq f.serial c.serial)) (nat_eq g.link c.link && (nat_eq g.lane c.lane && nat_eq g.serial c.serial))
      (ap (λ n. nat_eq n c.link && (nat_eq f.lane c.lane && nat_eq f.serial c.serial)) link
      ∙ ap₂ (λ n m. nat_eq g.link c.link && (nat_eq n c.lane && nat_eq m c.serial)) lane serial)
    where
      fitted : of (if_fits other (fits other c f.body (refusal_in f.body))) ≡ of (if_fits a (fits a c g.body (refusal_in g.body)))
      fitted =
          if_fits_alike _ _
          (fits_alike f.body (refusal_in f.body) ∙ sym (hides_fit f.body) ∙ ap (λ b. fit b) body ∙ hides_fit g.body)

      by_test : (t u : Bool) → t ≡ u → of (cond t (if_fits other (fits other c f.body (refusal_in f.body))) (ignored other))
          ≡ of (cond u (if_fits a (fits a c g.body (refusal_in g.body))) (ignored a))
      by_test true true e = fitted
      by_test false false e = ap (λ r. heard r Ignored) same
      by_test true false e = absurd (cc e)
      by_test false true e = absurd (cc e)
