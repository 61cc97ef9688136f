-- What a leader does at a client's frame, where another differs in other lanes' rows, in shares and in kept answers.
use Rattle.std.proofs.Common.{◌≡◌, ◌∙◌, ◌<◌, ◌-◌, ◌^◌, ℕ, Bool, true, false, cond, nat_le, nat_lt, nat_eq, List, length, take, Option, Some, None, slice_get, slice_set, slice_index_or, refl, sym, ap, ap₂}
use Rattle.std.specs.Option.{option_map}
use Rattle.std.proofs.lemmas.List.{get_or-set_same}
use Rattle.express_words.specs.declared.audit.ProofShare.{ProofShare}
use Rattle.express_words.specs.declared.refusal.Refusal.{Refusal}
use Rattle.express_words.specs.declared.refusal.Refusal.TheVariants as refusal
use Rattle.audit_rules.specs.Values.{Write, opens}
use Rattle.dpf_rules.specs.Expansion.{token}
use Rattle.frame_rules.specs.Frames as frame
use Rattle.frame_rules.specs.Frames.{PlainFrame, PlainBody}
use Rattle.frame_rules.specs.Whole.{answer, has_width, on_link, refused_bytes}
use Rattle.lane_table.specs.Gates.{opening_gate, closing_gate}
use Rattle.lane_table.specs.declared.gate.Gate.{Gate}
use Rattle.lane_table.specs.declared.gate.Gate.TheVariants.{New, Same, Stale, Phase}
use Rattle.lane_table.specs.declared.row.Row.{Row as Door}
use Rattle.step_rules.specs.Boxes.{Box, addresses_of}
use Rattle.step_rules.specs.Leader.{Answer, Asked, Auditing, Challenged, Done, Idle, Leader, Link, Registering, Reply, Reading, Retiring, Row, Settling, Stage, StillWaiting, Turn, Waiting, Writing, door, idle, refuses_bytes, row, row_at, turn, want_in}
use Rattle.step_rules.specs.LeaderClients.{Named, again_at, audits, by_kind, draw, if_named, if_room, if_token, issued_for, new_at, on_proof, on_submission, proof_at, proof_in, sigma, submission_at}
use Rattle.run_hiding.proofs.LikeBoxes.{bare_box, bares, same_addresses, same_box}

-- a row but for the answer that it keeps of a request that is done
abbrev pub hidden_stage : Stage → Stage
hidden_stage (Done want kept) = Done want frame.Accepted
hidden_stage stage = stage

abbrev pub hidden_row : Row → Row
hidden_row r = row r.serial (hidden_stage r.stage)

-- an answer but for its body
abbrev pub hidden_answer : Answer → Answer
hidden_answer (Reply reply) = Reply (record reply { body = frame.Accepted })
hidden_answer answer = answer

pub record Told : Type 0 where
  pub row : Row
  pub answer : Answer

abbrev pub told : Row → Answer → Told
told r answer = record { row = r; answer = answer }

hidden_door : (serial : ℕ) (stage : Stage) → door (row serial (hidden_stage stage)) ≡ door (row serial stage)
hidden_door serial Idle = refl
hidden_door serial (Waiting number asked) = refl
hidden_door serial (Challenged write kept) = refl
hidden_door serial (Auditing number write share sigma opened) = refl
hidden_door serial (Settling number write own other) = refl
hidden_door serial (Done want kept) = refl

module _ (a : Leader) (boxes : List Box) (rows : List Row) (outstanding : List PlainFrame) (f : PlainFrame) (like : bares boxes ≡ bares a.boxes)
    (same : hidden_row (slice_index_or rows f.lane idle) ≡ hidden_row (row_at a f.lane)) where
  abbrev other : Leader
  other = record a { boxes = boxes; rows = rows; outstanding = outstanding }

  abbrev of : Turn → Told
  of t = told (hidden_row (row_at t.leader f.lane)) (hidden_answer t.answer)

  addresses : addresses_of boxes ≡ addresses_of a.boxes
  addresses = same_addresses boxes a.boxes like

  stages : hidden_stage (row_at other f.lane).stage ≡ hidden_stage (row_at a f.lane).stage
  stages = ap (λ (r : Row). r.stage) same

  doors : door (row_at other f.lane) ≡ door (row_at a f.lane)
  doors =
      sym (hidden_door (row_at other f.lane).serial (row_at other f.lane).stage) ∙ ap (λ r. door r) same
      ∙ hidden_door (row_at a f.lane).serial (row_at a f.lane).stage

  speaks : told (hidden_row (slice_index_or rows f.lane idle)) (Reply (answer f frame.Accepted)) ≡ told (hidden_row (row_at a f.lane)) (Reply (answer f frame.Accepted))
  speaks = ap (λ r. told r (Reply (answer f frame.Accepted))) same

  refuses_alike : (r : Refusal) → of (refuses_bytes other r) ≡ of (refuses_bytes a r)
  refuses_alike r = ap (λ x. told x (Reply (record (refused_bytes r) { body = frame.Accepted }))) same

  waits : (n m : ℕ) → n ≡ m → of (turn other (StillWaiting n)) ≡ of (turn a (StillWaiting m))
  waits n m e = ap₂ (λ r k. told r (StillWaiting k)) same e

  choose : (t u : Bool) (x x' y y' : Turn) → t ≡ u → of x ≡ of x' → of y ≡ of y' → of (cond t x y) ≡ of (cond u x' y')
  choose true true x x' y y' e p q = p
  choose false false x x' y y' e p q = q
  choose true false x x' y y' e p q = absurd (cc e)
  choose false true x x' y y' e p q = absurd (cc e)

  -- a lane that there isn't
  past_submission : nat_le a.settings.lanes f.lane ≡ true → (asked : Asked) (named : Option Named) → of (on_submission other f asked named) ≡ of (on_submission a f asked named)
  unfolding on_submission
  past_submission past asked named = rw past speaks

  past_proof : nat_le a.settings.lanes f.lane ≡ true → (share : ProofShare) → of (on_proof other f share) ≡ of (on_proof a f share)
  unfolding on_proof
  past_proof past share = rw past speaks

  pub pasts_alike : nat_le a.settings.lanes f.lane ≡ true → (body : PlainBody) → of (by_kind other f body) ≡ of (by_kind a f body)
  unfolding by_kind
  pasts_alike past (frame.Register address key) = past_submission past (Registering address key) None
  pasts_alike past (frame.Write root part) =
      choose (has_width a.settings.width (frame.Write root part)) (has_width a.settings.width (frame.Write root part)) _ _ _ _ refl
      (past_submission past (Writing root part (draw a)) None) (refuses_alike (refusal.Malformed 0))
  pasts_alike past (frame.Read number held) = past_submission past (Reading number) (Some (record { number = number; held = held }))
  pasts_alike past (frame.Retire number held) = past_submission past (Retiring number) (Some (record { number = number; held = held }))
  pasts_alike past (frame.Proof share) = past_proof past share
  pasts_alike past body = refuses_alike (refusal.Malformed 5)

  -- ---- a lane that there is

  module _ (low : f.lane < length a.rows) (few : f.lane < length rows) (count : length outstanding ≡ length a.outstanding) where
    sets : (s t : Stage) (x y : PlainBody) → s ≡ t → x ≡ y
        → told (hidden_row (slice_index_or (slice_set rows f.lane (row f.serial s)) f.lane idle)) (Link a.next (on_link f a.next x))
        ≡ told (hidden_row (slice_index_or (slice_set a.rows f.lane (row f.serial t)) f.lane idle)) (Link a.next (on_link f a.next y))
    sets s t x y p q =
        ap₂ (λ r b. told (hidden_row r) (Link a.next (on_link f a.next b)))
        (get_or-set_same rows f.lane (row f.serial s) idle few ∙ ap (λ s. row f.serial s) p ∙ sym (get_or-set_same a.rows f.lane (row f.serial t) idle low)) q

    room : (x y : Turn) → of x ≡ of y → of (if_room other f x) ≡ of (if_room a f y)
    room x y e =
        choose (nat_lt (2 ^ 64 - 65) a.next) (nat_lt (2 ^ 64 - 65) a.next) _ _ _ _ refl speaks
        (choose (nat_le a.settings.window (length outstanding)) (nat_le a.settings.window (length a.outstanding)) _ _ _ _
        (ap (λ n. nat_le a.settings.window n) count) speaks e)

    -- ---- submissions

    issued : (asked : Asked) → of (issued_for other f asked) ≡ of (issued_for a f asked)
    unfolding issued_for
    issued (Registering address key) = sets _ _ _ _ refl refl
    issued (Writing root part drawn) = sets _ _ _ _ refl refl
    issued (Reading number) = sets _ _ _ _ refl refl
    issued (Retiring number) = sets _ _ _ _ refl refl

    tokens : (n held : ℕ) (box theirs : Option Box) (x y : Turn) → option_map (λ box. bare_box box) box ≡ option_map (λ box. bare_box box) theirs
        → of x ≡ of y → of (if_token other f n held box x) ≡ of (if_token a f n held theirs y)
    unfolding if_token
    tokens n held None None x y e p = speaks
    tokens n held (Some box) (Some theirs) x y e p =
        let one : bare_box box ≡ bare_box theirs = cc e in
        choose (nat_eq held (token box.key f.lane f.serial)) (nat_eq held (token theirs.key f.lane f.serial)) _ _ _ _
        (ap (λ (z : Box). nat_eq held (token z.key f.lane f.serial)) one) p speaks
    tokens n held None (Some theirs) x y e p = absurd (cc e)
    tokens n held (Some box) None x y e p = absurd (cc e)

    names : (named : Option Named) (x y : Turn) → of x ≡ of y → of (if_named other f named x) ≡ of (if_named a f named y)
    unfolding if_named
    names None x y e = e
    names (Some n) x y e = tokens n.number n.held (slice_get boxes n.number) (slice_get a.boxes n.number) x y (same_box boxes a.boxes n.number like) e

    again : (x y : Stage) → hidden_stage x ≡ hidden_stage y → of (again_at other f x) ≡ of (again_at a f y)
    unfolding again_at
    again Idle Idle e = speaks
    again (Waiting n k) (Waiting m j) e = waits n m (cc e)
    again (Auditing n w p s o) (Auditing m v q t u) e = waits n m (cc e)
    again (Settling n w p o) (Settling m v q u) e = waits n m (cc e)
    again (Challenged w k) (Challenged v j) e = speaks
    again (Done w k) (Done v j) e = speaks
    again x y e = absurd (cc e)

    news : (asked : Asked) (named : Option Named) (x y : Stage) → hidden_stage x ≡ hidden_stage y
        → of (new_at other f asked named x) ≡ of (new_at a f asked named y)
    unfolding new_at
    news asked named (Waiting n k) (Waiting m j) e = speaks
    news asked named (Auditing n w p s o) (Auditing m v q t u) e = speaks
    news asked named (Settling n w p o) (Settling m v q u) e = speaks
    news asked named Idle Idle e = names named _ _ (room _ _ (issued asked))
    news asked named (Challenged w k) (Challenged v j) e = names named _ _ (room _ _ (issued asked))
    news asked named (Done w k) (Done v j) e = names named _ _ (room _ _ (issued asked))
    news asked named x y e = absurd (cc e)

    gates : (asked : Asked) (named : Option Named) (gate : Gate) → of (submission_at other f asked named gate) ≡ of (submission_at a f asked named gate)
    unfolding submission_at
    gates asked named (Stale n) = speaks
    gates asked named (Phase p) = speaks
    gates asked named Same = again (row_at other f.lane).stage (row_at a f.lane).stage stages
    gates asked named New = news asked named (row_at other f.lane).stage (row_at a f.lane).stage stages

    submissions : (asked : Asked) (named : Option Named) → of (on_submission other f asked named) ≡ of (on_submission a f asked named)
    unfolding on_submission
    submissions asked named =
        choose (nat_le a.settings.lanes f.lane) (nat_le a.settings.lanes f.lane) _ _ _ _ refl speaks
        (ap (λ (d : Door). of (submission_at other f asked named (opening_gate d f.serial (want_in asked)))) doors
        ∙ gates asked named (opening_gate (door (row_at a f.lane)) f.serial (want_in asked)))

    -- ---- proofs

    audits_alike : (w : Write) (share : ProofShare) → of (audits other f w share) ≡ of (audits a f w share)
    audits_alike w share = sets _ _ _ _
        (ap (λ ps. Auditing a.next w share (sigma a) (opens 0 w (take w.count ps) share (sigma a))) addresses)
        (ap (λ ps. frame.LinkAudit (sigma a) (opens 0 w (take w.count ps) share (sigma a))) addresses)

    proofs_in : (share : ProofShare) (x y : Stage) → hidden_stage x ≡ hidden_stage y → of (proof_in other f share x) ≡ of (proof_in a f share y)
    unfolding proof_in
    proofs_in share Idle Idle e = speaks
    proofs_in share (Waiting n k) (Waiting m j) e = speaks
    proofs_in share (Auditing n w p s o) (Auditing m v q t u) e = waits n m (cc e)
    proofs_in share (Settling n w p o) (Settling m v q u) e = waits n m (cc e)
    proofs_in share (Done w k) (Done v j) e = speaks
    proofs_in share (Challenged w k) (Challenged v j) e =
        let one : w ≡ v = cc e in
        ap (λ w. of (if_room other f (audits other f w share))) one ∙ room (audits other f v share) (audits a f v share) (audits_alike v share)
    proofs_in share x y e = absurd (cc e)

    proof_gates : (share : ProofShare) (gate : Gate) → of (proof_at other f share gate) ≡ of (proof_at a f share gate)
    unfolding proof_at
    proof_gates share (Stale n) = speaks
    proof_gates share (Phase p) = speaks
    proof_gates share Same = proofs_in share (row_at other f.lane).stage (row_at a f.lane).stage stages
    proof_gates share New = proofs_in share (row_at other f.lane).stage (row_at a f.lane).stage stages

    proofs : (share : ProofShare) → of (on_proof other f share) ≡ of (on_proof a f share)
    unfolding on_proof
    proofs share =
        choose (nat_le a.settings.lanes f.lane) (nat_le a.settings.lanes f.lane) _ _ _ _ refl speaks
        (ap (λ (d : Door). of (proof_at other f share (closing_gate d f.serial))) doors ∙ proof_gates share (closing_gate (door (row_at a f.lane)) f.serial))

    -- ---- any frame

    pub kinds_alike : (body : PlainBody) → of (by_kind other f body) ≡ of (by_kind a f body)
    unfolding by_kind
    kinds_alike (frame.Register address key) = submissions (Registering address key) None
    kinds_alike (frame.Write root part) =
        choose (has_width a.settings.width (frame.Write root part)) (has_width a.settings.width (frame.Write root part)) _ _ _ _ refl
        (submissions (Writing root part (draw a)) None) (refuses_alike (refusal.Malformed 0))
    kinds_alike (frame.Read number held) = submissions (Reading number) (Some (record { number = number; held = held }))
    kinds_alike (frame.Retire number held) = submissions (Retiring number) (Some (record { number = number; held = held }))
    kinds_alike (frame.Proof share) = proofs share
    kinds_alike body = refuses_alike (refusal.Malformed 5)
