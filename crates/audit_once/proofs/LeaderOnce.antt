-- The leader audits a write once.
use Rattle.std.specs.Prelude.{◌≡◌, ◌≢◌, ◌⊎◌, ℕ, ◌+◌, ◌-◌, ◌^◌, ◌<◌, ◌≤◌, ◌&&◌, Bool, true, false, cond, not, is_none, nat_le, nat_lt, nat_eq, refl, List, [], ◌∷◌, ◌++◌, length, drop, All, Contains, Option, Some, None, Result, Ok, Err, slice_get, slice_set, slice_index_or}
use Rattle.std.proofs.Common.{ap, sym, subst, ◌∙◌, arith, inl, inr}
use Rattle.std.proofs.lemmas.Bool.{cases_lt, eqb-true, eqb-false, leb-false, ltb-false}
use Rattle.std.proofs.lemmas.List.{get_or_past, get_or-set_same, get_or-set_other, append-nil, append_assoc, length-set, length-replicate}
use Rattle.std.proofs.lemmas.List.Elements.{All-nil, All-cons, All-weaker, All-append, All-drop, All-push, All-get_or, Contains-append_left, Contains-push}
use Rattle.express_words.specs.declared.audit.ProofShare.{ProofShare}
use Rattle.express_words.specs.declared.audit.Openings.{Openings}
use Rattle.express_words.specs.declared.audit.Closing.{Closing}
use Rattle.express_words.specs.declared.refusal.Refusal.{Refusal}
use Rattle.express_words.specs.declared.settings.Settings.{Settings}
use Rattle.frame_rules.specs.Frames as frame
use Rattle.frame_rules.specs.Frames.{PlainFrame, PlainBody}
use Rattle.frame_rules.specs.Whole.{whole, linked, is_reply, has_width}
use Rattle.lane_table.specs.Gates.{opening_gate, closing_gate, same_want}
use Rattle.lane_table.specs.declared.gate.Gate.TheVariants.{New, Same, Stale, Phase}
use Rattle.lane_table.specs.declared.row.Want.{Want}
use Rattle.lane_table.specs.declared.row.Want.TheVariants.{Write as Writes}
use Rattle.dpf_rules.specs.Expansion.{token}
use Rattle.audit_rules.specs.Audit.{accepts}
use Rattle.audit_rules.specs.Values.{Write, ckey_of}
use Rattle.step_rules.specs.Boxes.{Box, place_of}
use Rattle.step_rules.specs.Leader.{Leader, Row, Asked, Registering, Writing, Reading, Retiring, Stage, Idle, Waiting, Challenged, Auditing, Settling, Done, row, row_at, idle, door, want_in, want_of, phase_of, Turn, AckTurn, opened_leader}
use Rattle.step_rules.specs.LeaderClients as clients
use Rattle.step_rules.specs.LeaderClients.{Named, draw, if_room, issued_for, if_token, if_named, new_at, again_at, submission_at, on_submission, audits, proof_in, proof_at, on_proof, by_kind, on_whole, on_client}
use Rattle.step_rules.specs.LeaderReplies as replies
use Rattle.step_rules.specs.LeaderReplies.{registered, began, audited, accepted, rejected, read, by_command, registered_in, if_registered, if_begun, if_audited, if_settled, if_read, fits, refusal_in, if_fits, answers, if_reply, on_reply_bytes, resent}
use Rattle.audit_once.specs.Runs.{Event, FromClient, FromLink, LinkUp, leader_after, leader_sends, leader_resends, leader_sent, leader_resent, new_command, new_settle, again}
use Rattle.audit_once.specs.Once.{opens, closes, count_for, LeadersAuditOnce}
use Rattle.audit_once.proofs.Left as lefts
use Rattle.audit_once.proofs.Left.{left, left_low, left_same, left_small, num, set_quiet, set_counted, past_set}

-- what a row may still open, and close, for its serial
to_open : Stage → ℕ
to_open (Auditing number write share sigma opened) = 0
to_open (Settling number write own other) = 0
to_open (Done want kept) = 0
to_open stage = 1

to_close : Stage → ℕ
to_close (Settling number write own other) = 0
to_close (Done want kept) = 0
to_close stage = 1

small_open : (x : Stage) → to_open x ≤ 1
unfolding to_open
small_open Idle = omega arith
small_open (Waiting number asked) = omega arith
small_open (Challenged write kept) = omega arith
small_open (Auditing number write share sigma opened) = omega arith
small_open (Settling number write own other) = omega arith
small_open (Done want kept) = omega arith

small_close : (x : Stage) → to_close x ≤ 1
unfolding to_close
small_close Idle = omega arith
small_close (Waiting number asked) = omega arith
small_close (Challenged write kept) = omega arith
small_close (Auditing number write share sigma opened) = omega arith
small_close (Settling number write own other) = omega arith
small_close (Done want kept) = omega arith

-- the row has a command outstanding
IsBusy : Stage → Type 0
IsBusy (Waiting number asked) = Unit {0}
IsBusy (Auditing number write share sigma opened) = Unit {0}
IsBusy (Settling number write own other) = Unit {0}
IsBusy stage = ⊥

idle_isnt : IsBusy Idle → ⊥
unfolding IsBusy
idle_isnt h = h

-- ---- the commands that are outstanding are of rows of their own that wait for them

abbrev at : List Row → ℕ → Row
at rows lane = slice_index_or rows lane idle

HasNone : ℕ → List PlainFrame → Type 0
HasNone lane [] = Unit {0}
HasNone lane (c ∷ cs) = (lane ≢ c.lane) × HasNone lane cs

Waits : List Row → List PlainFrame → Type 0
Waits rows [] = Unit {0}
Waits rows (c ∷ cs) =
    (IsBusy (at rows c.lane).stage × ((at rows c.lane).serial ≡ c.serial)) × HasNone c.lane cs × Waits rows cs

-- at a row that isn't busy none is
has_none : (rows : List Row) (lane : ℕ) (cs : List PlainFrame) → (IsBusy (at rows lane).stage → ⊥) → Waits rows cs → HasNone lane cs
unfolding HasNone Waits
has_none rows lane [] free waits = tt
has_none rows lane (c ∷ cs) free waits = (
  λ e. free (subst (λ l. IsBusy (at rows l).stage) (sym e) waits.0.0),
  has_none rows lane cs free waits.2,
)

-- another row may change
waits_set : (rows : List Row) (lane : ℕ) (r : Row) (cs : List PlainFrame) → HasNone lane cs → Waits rows cs → Waits (slice_set rows lane r) cs
unfolding HasNone Waits
waits_set rows lane r [] none waits = tt
waits_set rows lane r (c ∷ cs) none waits =
    let same : at (slice_set rows lane r) c.lane ≡ at rows c.lane =
    get_or-set_other rows lane c.lane r idle (λ e. none.0 (sym e)) in (
      (subst (λ (q : Row). IsBusy q.stage) (sym same) waits.0.0, ap serial_is same ∙ waits.0.1),
      waits.1,
      waits_set rows lane r cs none.1 waits.2,
    )
  where
    serial_is : Row → ℕ
    serial_is q = q.serial

none_push : (lane : ℕ) (cs : List PlainFrame) (c : PlainFrame) → HasNone lane cs → lane ≢ c.lane → HasNone lane (cs ++ c ∷ [])
unfolding HasNone
none_push lane [] c none other = (other, tt)
none_push lane (d ∷ ds) c none other = (none.0, none_push lane ds c none.1 other)

-- a command more, of a lane that has none, whose row waits for it
waits_push : (rows : List Row) (cs : List PlainFrame) (c : PlainFrame) → IsBusy (at rows c.lane).stage → (at rows c.lane).serial ≡ c.serial
    → HasNone c.lane cs → Waits rows cs → Waits rows (cs ++ c ∷ [])
unfolding HasNone Waits
waits_push rows [] c busy serial none waits = ((busy, serial), tt, tt)
waits_push rows (d ∷ ds) c busy serial none waits = (
  waits.0,
  none_push d.lane ds c waits.1 (λ e. none.0 (sym e)),
  waits_push rows ds c busy serial none.1 waits.2,
)

record Stands (a : Leader) : Type 0 where
  rows : length a.rows ≡ a.settings.lanes
  waits : Waits a.rows a.outstanding

-- ---- a step

-- a kind of frame, and what a stage leaves to be sent of it
abbrev Counts : (PlainBody → Bool) → (Stage → ℕ) → List Row → List PlainFrame → List Row → Type 0
Counts kind spare before sent after = (lane s : ℕ) →
    count_for kind lane s sent + left (at after lane).serial (spare (at after lane).stage) s ≤ left (at before lane).serial (spare (at before lane).stage) s

record Steps (a : Leader) (sent : List PlainFrame) (after : Leader) : Type 0 where
  stands : Stands a → Stands after
  opens : Stands a → Counts opens to_open a.rows sent after.rows
  closes : Stands a → Counts closes to_close a.rows sent after.rows
  keeps : (said : List PlainFrame) → All (Contains said) a.outstanding → All (Contains (said ++ sent)) after.outstanding

rests : (a : Leader) → Steps a [] a
rests a = record {
  stands = λ s. s;
  opens = λ s lane n. omega arith;
  closes = λ s lane n. omega arith;
  keeps = λ said all. subst (λ xs. All (Contains xs) a.outstanding) (sym (append-nil said)) all;
}

counted : (kind : PlainBody → Bool) (spare : Stage → ℕ) (rows : List Row) (l serial : ℕ) (x : Stage) (c : PlainFrame)
    → l < length rows → c.lane ≡ l → c.serial ≡ serial → (at rows l).serial ≤ serial
    → num (kind c.body) + spare x ≤ left (at rows l).serial (spare (at rows l).stage) serial
    → Counts kind spare rows (c ∷ []) (slice_set rows l (row serial x))
counted kind spare rows l serial x c low lanes serials later fits =
    set_counted (λ (r : Row). r.serial) (λ (r : Row). spare r.stage) idle rows l (row serial x) kind c low lanes serials later fits

quiet : (kind : PlainBody → Bool) (spare : Stage → ℕ) (rows : List Row) (l serial : ℕ) (x : Stage)
    → (at rows l).serial ≤ serial → spare x ≤ left (at rows l).serial (spare (at rows l).stage) serial
    → Counts kind spare rows [] (slice_set rows l (row serial x))
quiet kind spare rows l serial x later fits lane s =
    let less = set_quiet (λ (r : Row). r.serial) (λ (r : Row). spare r.stage) idle rows l (row serial x) later fits lane s in omega (arith, less)

-- ---- frames of clients: a command is issued at a row that isn't busy

record Issues (a : Leader) (f : PlainFrame) (command : PlainFrame) (after : Leader) : Type 0 where
  settings : after.settings ≡ a.settings
  low : f.lane < a.settings.lanes
  lane : command.lane ≡ f.lane
  serial : command.serial ≡ f.serial
  stage : Stage
  rows : after.rows ≡ slice_set a.rows f.lane (row f.serial stage)
  outstanding : after.outstanding ≡ a.outstanding ++ command ∷ []
  busy : IsBusy stage
  free : IsBusy (row_at a f.lane).stage → ⊥
  later : (row_at a f.lane).serial ≤ f.serial
  opened : num (opens command.body) + to_open stage ≤ left (row_at a f.lane).serial (to_open (row_at a f.lane).stage) f.serial
  closed : num (closes command.body) + to_close stage ≤ left (row_at a f.lane).serial (to_close (row_at a f.lane).stage) f.serial

issue_steps : (a : Leader) (f command : PlainFrame) (after : Leader) → Issues a f command after → Steps a (command ∷ []) after
issue_steps a f command after is = record {
  stands = λ s.
      let low : f.lane < length a.rows = subst (λ n. f.lane < n) (sym s.rows) is.low in
      let here : at (slice_set a.rows f.lane (row f.serial is.stage)) command.lane ≡ row f.serial is.stage =
      ap (at (slice_set a.rows f.lane (row f.serial is.stage))) is.lane ∙ get_or-set_same a.rows f.lane (row f.serial is.stage) idle low in
      let none : HasNone f.lane a.outstanding = has_none a.rows f.lane a.outstanding is.free s.waits in
      record {
        rows = ap length is.rows ∙ length-set a.rows f.lane (row f.serial is.stage) ∙ s.rows ∙ ap lanes_of (sym is.settings);
        waits = subst (λ rows. Waits rows after.outstanding) (sym is.rows)
            (subst (Waits (slice_set a.rows f.lane (row f.serial is.stage))) (sym is.outstanding)
            (waits_push (slice_set a.rows f.lane (row f.serial is.stage)) a.outstanding command
            (subst (λ (r : Row). IsBusy r.stage) (sym here) is.busy) (ap (λ (q : Row). q.serial) here ∙ sym is.serial)
            (subst (λ l. HasNone l a.outstanding) (sym is.lane) none)
            (waits_set a.rows f.lane (row f.serial is.stage) a.outstanding none s.waits)));
      };
  opens = λ s. subst (Counts opens to_open a.rows (command ∷ [])) (sym is.rows)
      (counted opens to_open a.rows f.lane f.serial is.stage command (subst (λ n. f.lane < n) (sym s.rows) is.low) is.lane is.serial is.later is.opened);
  closes = λ s. subst (Counts closes to_close a.rows (command ∷ [])) (sym is.rows)
      (counted closes to_close a.rows f.lane f.serial is.stage command (subst (λ n. f.lane < n) (sym s.rows) is.low) is.lane is.serial is.later is.closed);
  keeps = λ said all. subst (All (Contains (said ++ command ∷ []))) (sym is.outstanding)
      (All-push (Contains (said ++ command ∷ [])) a.outstanding command
      (All-weaker (Contains said) (Contains (said ++ command ∷ [])) (λ x c. Contains-append_left said (command ∷ []) x c) a.outstanding all)
      (Contains-push said command));
}
  where
    lanes_of : Settings → ℕ
    lanes_of settings = settings.lanes

-- a frame leaves the leader as it is, or has a command issued
abbrev Turned : Leader → PlainFrame → Turn → Type 0
Turned a f t =
    ((new_command t.answer ≡ []) × (t.leader ≡ a))
    ⊎ ((command : PlainFrame) × (new_command t.answer ≡ command ∷ []) × Issues a f command t.leader)

turn_steps : (a : Leader) (f : PlainFrame) (t : Turn) → Turned a f t → Steps a (new_command t.answer) t.leader
turn_steps a f t turned = elim turned [
  | inl stays ↦ subst (λ sent. Steps a sent t.leader) (sym stays.0) (subst (Steps a []) (sym stays.1) (rests a))
  | inr issues ↦ subst (λ sent. Steps a sent t.leader) (sym issues.1) (issue_steps a f issues.0 t.leader issues.2)
]

module _ (a : Leader) (f : PlainFrame) where
  r : Row
  r = row_at a f.lane

  turned_either : (b : Bool) (x y : Turn) → Turned a f x → Turned a f y → Turned a f (cond b x y)
  turned_either true x y p q = p
  turned_either false x y p q = q

  roomed : (issued : Turn) → Turned a f issued → Turned a f (if_room a f issued)
  roomed issued turned =
      turned_either (nat_lt (2 ^ 64 - 65) a.next) _ _ (inl (refl, refl))
      (turned_either (nat_le a.settings.window (length a.outstanding)) _ _ (inl (refl, refl)) turned)

  module _ (low : f.lane < a.settings.lanes) where
    -- a later request's submission, at a row that isn't busy
    submits : (body : PlainBody) (b : Leader) (asked : Asked) → b.settings ≡ a.settings → b.rows ≡ a.rows → b.outstanding ≡ a.outstanding
        → opens body ≡ false → closes body ≡ false → (IsBusy r.stage → ⊥) → r.serial < f.serial
        → Turned a f (clients.issues b f body (Waiting a.next asked))
    unfolding r to_open to_close num IsBusy
    submits body b asked settings rows outstanding opened closed free later =
        let open_one = left_low r.serial (to_open r.stage) f.serial later in
        let close_one = left_low r.serial (to_close r.stage) f.serial later in
        let none : num (opens body) ≡ 0 = ap num opened in
        let nothing : num (closes body) ≡ 0 = ap num closed in
        inr (
          frame_of,
          refl,
          record {
            settings = settings;
            low = low;
            lane = refl;
            serial = refl;
            stage = Waiting a.next asked;
            rows = ap (λ xs. slice_set xs f.lane (row f.serial (Waiting a.next asked))) rows;
            outstanding = ap (λ xs. xs ++ frame_of ∷ []) outstanding;
            busy = tt;
            free = free;
            later = omega (arith, later);
            opened = omega (arith, open_one, none);
            closed = omega (arith, close_one, nothing);
          },
        )
      where
        frame_of : PlainFrame
        frame_of = record { lane = f.lane; serial = f.serial; link = b.next; body = body }

    issued : (asked : Asked) → (IsBusy r.stage → ⊥) → r.serial < f.serial → Turned a f (issued_for a f asked)
    unfolding issued_for
    issued (Registering address key) free later = submits (frame.LinkRegister address) a (Registering address key) refl refl refl refl refl free later
    issued (Writing root part drawn) free later =
        submits (frame.LinkBegin drawn part) (record a { draws = a.draws + 1 }) (Writing root part drawn) refl refl refl refl refl free later
    issued (Reading number) free later = submits (frame.LinkRead number) a (Reading number) refl refl refl refl refl free later
    issued (Retiring number) free later = submits (frame.LinkRetire number) a (Retiring number) refl refl refl refl refl free later

    tokened : (number held : ℕ) (found : Option Box) (t : Turn) → Turned a f t → Turned a f (if_token a f number held found t)
    unfolding if_token
    tokened number held None t turned = inl (refl, refl)
    tokened number held (Some box) t turned = turned_either (nat_eq held (token box.key f.lane f.serial)) _ _ turned (inl (refl, refl))

    named_turned : (named : Option Named) (t : Turn) → Turned a f t → Turned a f (if_named a f named t)
    unfolding if_named
    named_turned None t turned = turned
    named_turned (Some n) t turned = tokened n.number n.held (slice_get a.boxes n.number) t turned

    new_turned : (asked : Asked) (named : Option Named) (x : Stage) → r.stage ≡ x → r.serial < f.serial → Turned a f (new_at a f asked named x)
    unfolding new_at IsBusy
    new_turned asked named (Waiting number other) is later = inl (refl, refl)
    new_turned asked named (Auditing number w share sigma opened) is later = inl (refl, refl)
    new_turned asked named (Settling number w own other) is later = inl (refl, refl)
    new_turned asked named Idle is later = named_turned named _ (roomed _ (issued asked (λ b. subst IsBusy is b) later))
    new_turned asked named (Challenged w kept) is later = named_turned named _ (roomed _ (issued asked (λ b. subst IsBusy is b) later))
    new_turned asked named (Done want kept) is later = named_turned named _ (roomed _ (issued asked (λ b. subst IsBusy is b) later))

    again_turned : (x : Stage) → Turned a f (again_at a f x)
    unfolding again_at
    again_turned Idle = inl (refl, refl)
    again_turned (Waiting number asked) = inl (refl, refl)
    again_turned (Auditing number w share sigma opened) = inl (refl, refl)
    again_turned (Settling number w own other) = inl (refl, refl)
    again_turned (Challenged w kept) = inl (refl, refl)
    again_turned (Done want kept) = inl (refl, refl)

    gated : (asked : Asked) (named : Option Named) → Turned a f (submission_at a f asked named (opening_gate (door (row_at a f.lane)) f.serial (want_in asked)))
    unfolding submission_at opening_gate r
    gated asked named =
        by (nat_lt f.serial r.serial) (nat_eq f.serial r.serial) (same_want (want_in asked) (want_of r.stage))
        (λ t u. let l = ltb-false _ _ t in let n = eqb-false _ _ u in omega (arith, l, n))
      where
        by : (less same wanted : Bool) → (less ≡ false → same ≡ false → (row_at a f.lane).serial < f.serial)
            → Turned a f (submission_at a f asked named (cond less (Stale (row_at a f.lane).serial) (cond same (cond wanted Same (Phase (phase_of (row_at a f.lane).stage))) New)))
        by true same wanted later = inl (refl, refl)
        by false true true later = again_turned (row_at a f.lane).stage
        by false true false later = inl (refl, refl)
        by false false wanted later = new_turned asked named (row_at a f.lane).stage refl (later refl refl)

    -- the proof of a write that was challenged
    proof_turned : (share : ProofShare) (x : Stage) → r.stage ≡ x → f.serial ≡ r.serial → Turned a f (proof_in a f share x)
    unfolding proof_in to_open to_close num IsBusy r
    proof_turned share Idle is same = inl (refl, refl)
    proof_turned share (Waiting number asked) is same = inl (refl, refl)
    proof_turned share (Auditing number w before sigma opened) is same = inl (refl, refl)
    proof_turned share (Settling number w own other) is same = inl (refl, refl)
    proof_turned share (Done want kept) is same = inl (refl, refl)
    proof_turned share (Challenged w kept) is same =
        let mine : left r.serial (to_open r.stage) f.serial ≡ 1 =
        ap (left r.serial (to_open r.stage)) same ∙ left_same r.serial (to_open r.stage) ∙ ap to_open is in
        let its : left r.serial (to_close r.stage) f.serial ≡ 1 =
        ap (left r.serial (to_close r.stage)) same ∙ left_same r.serial (to_close r.stage) ∙ ap to_close is in
        roomed (audits a f w share) (inr (
          _,
          refl,
          record {
            settings = refl;
            low = low;
            lane = refl;
            serial = refl;
            stage = _;
            rows = refl;
            outstanding = refl;
            busy = tt;
            free = λ b. subst IsBusy is b;
            later = omega (arith, same);
            opened = omega (arith, mine);
            closed = omega (arith, its);
          },
        ))

    proof_gated : (share : ProofShare) → Turned a f (proof_at a f share (closing_gate (door (row_at a f.lane)) f.serial))
    unfolding proof_at closing_gate r
    proof_gated share = by (nat_eq f.serial r.serial) (same_want Writes (want_of r.stage)) (λ t. eqb-true _ _ t)
      where
        by : (same wanted : Bool) → (same ≡ true → f.serial ≡ (row_at a f.lane).serial)
            → Turned a f (proof_at a f share (cond same (cond wanted Same (Phase (phase_of (row_at a f.lane).stage))) (Stale (row_at a f.lane).serial)))
        by true true is = proof_turned share (row_at a f.lane).stage refl (is refl)
        by true false is = inl (refl, refl)
        by false wanted is = inl (refl, refl)

  -- a lane that is there
  in_lane : (x y : Turn) → Turned a f x → (f.lane < a.settings.lanes → Turned a f y) → Turned a f (cond (nat_le a.settings.lanes f.lane) x y)
  in_lane x y p q = by (nat_le a.settings.lanes f.lane) refl
    where
      by : (past : Bool) → nat_le a.settings.lanes f.lane ≡ past → Turned a f (cond past x y)
      by true e = p
      by false e = let l = leb-false _ _ e in q (omega (arith, l))

  submitted : (asked : Asked) (named : Option Named) → Turned a f (on_submission a f asked named)
  unfolding on_submission
  submitted asked named = in_lane _ _ (inl (refl, refl)) (λ low. gated low asked named)

  proved : (share : ProofShare) → Turned a f (on_proof a f share)
  unfolding on_proof
  proved share = in_lane _ _ (inl (refl, refl)) (λ low. proof_gated low share)

  kinds : (body : PlainBody) → Turned a f (by_kind a f body)
  unfolding by_kind
  kinds (frame.Register address key) = submitted (Registering address key) None
  kinds (frame.Write root part) =
      turned_either (has_width a.settings.width (frame.Write root part)) _ _ (submitted (Writing root part (draw a)) None) (inl (refl, refl))
  kinds (frame.Read number held) = submitted (Reading number) (Some (record { number = number; held = held }))
  kinds (frame.Retire number held) = submitted (Retiring number) (Some (record { number = number; held = held }))
  kinds (frame.Proof share) = proved share
  kinds body = inl (refl, refl)

client_steps : (a : Leader) (bytes : List ℕ) → Steps a (new_command (on_client a bytes).answer) (on_client a bytes).leader
unfolding on_whole
client_steps a bytes = by (whole bytes)
  where
    by : (found : Result PlainFrame Refusal) → Steps a (new_command (on_whole a found).answer) (on_whole a found).leader
    by (Err why) = rests a
    by (Ok f) = turn_steps a f (by_kind a f f.body) (kinds a f f.body)

-- ---- replies of the helper, to the oldest outstanding command c

-- the row goes on with no more left, and c is acknowledged
record Tells (a : Leader) (c : PlainFrame) (x : Stage) (t : AckTurn) : Type 0 where
  settings : t.leader.settings ≡ a.settings
  sent : new_settle t.ack ≡ []
  stage : Stage
  rows : t.leader.rows ≡ slice_set a.rows c.lane (row c.serial stage)
  outstanding : t.leader.outstanding ≡ drop 1 a.outstanding
  opened : to_open stage ≤ to_open x
  closed : to_close stage ≤ to_close x

-- or a command takes the place of c
record Replaces (a : Leader) (c : PlainFrame) (x : Stage) (t : AckTurn) : Type 0 where
  settings : t.leader.settings ≡ a.settings
  command : PlainFrame
  sent : new_settle t.ack ≡ command ∷ []
  lane : command.lane ≡ c.lane
  serial : command.serial ≡ c.serial
  stage : Stage
  rows : t.leader.rows ≡ slice_set a.rows c.lane (row c.serial stage)
  outstanding : t.leader.outstanding ≡ drop 1 a.outstanding ++ command ∷ []
  busy : IsBusy stage
  opened : num (opens command.body) + to_open stage ≤ to_open x
  closed : num (closes command.body) + to_close stage ≤ to_close x

abbrev Answered : Leader → PlainFrame → Stage → AckTurn → Type 0
Answered a c x t = Tells a c x t ⊎ Replaces a c x t

module _ (a : Leader) (c : PlainFrame) where
  abbrev Fits : Stage → Option AckTurn → Type 0
  Fits x found = (t : AckTurn) → found ≡ Some t → Answered a c x t

  none_fits : (x : Stage) → Fits x None
  none_fits x t e = absurd (cc e)

  some_fits : (x : Stage) (u : AckTurn) → Answered a c x u → Fits x (Some u)
  some_fits x u after t e = let same : u ≡ t = cc in subst (Answered a c x) same after

  fits_either : (x : Stage) (b : Bool) (p q : Option AckTurn) → Fits x p → Fits x q → Fits x (cond b p q)
  fits_either x true p q u v = u
  fits_either x false p q u v = v

  done_fits : (x : Stage) (b : Leader) → b.settings ≡ a.settings → b.rows ≡ a.rows → b.outstanding ≡ a.outstanding
      → (want : Want) (body : PlainBody) → Fits x (Some (replies.done b c want body))
  unfolding to_open to_close
  done_fits x b settings rows outstanding want body = some_fits x (replies.done b c want body) (inl (record {
    settings = settings;
    sent = refl;
    stage = Done want body;
    rows = ap (λ xs. slice_set xs c.lane (row c.serial (Done want body))) rows;
    outstanding = ap (λ xs. drop 1 xs) outstanding;
    opened = omega arith;
    closed = omega arith;
  }))

  registers : (address : ℕ) (x : Stage) (found : Option ℕ) → Fits x (if_registered a c address x found)
  unfolding registered
  registers address (Waiting number (Registering own key)) (Some n) =
      let x : Stage = Waiting number (Registering own key) in
      fits_either x ((nat_eq n (length a.boxes)) && (is_none (place_of address a.boxes) && not (nat_le a.settings.boxes (length a.boxes)))) _ _
      (done_fits x _ refl refl refl _ _) (none_fits x)
  registers address x (Some n) = none_fits x
  registers address x None = none_fits x

  begins : (x : Stage) (count : ℕ) (drawn : List ℕ) → Fits x (began a c x count drawn)
  unfolding began to_open to_close
  begins (Waiting number (Writing root part own)) count drawn =
      let x : Stage = Waiting number (Writing root part own) in
      let w : Write = replies.begun root part (ckey_of own drawn) count in
      fits_either x (nat_eq count (length a.boxes)) _ _
      (some_fits x (replies.challenges a c w) (inl (record {
        settings = refl;
        sent = refl;
        stage = Challenged w (frame.Challenge w.ckey);
        rows = refl;
        outstanding = refl;
        opened = omega arith;
        closed = omega arith;
      }))) (none_fits x)
  begins x count drawn = none_fits x

  audits_it : (x : Stage) (opened : Openings) (closed : Closing) → Fits x (audited a c x opened closed)
  unfolding audited to_open to_close num IsBusy
  audits_it (Auditing number w share sigma own) opened closed =
      let x : Stage = Auditing number w share sigma own in
      let mine = replies.own_closing share sigma own opened in
      let next : Stage = Settling a.next w mine closed in
      some_fits x (replies.settles a c (frame.LinkSettle mine) next) (inr (record {
        settings = refl;
        command = record { lane = c.lane; serial = c.serial; link = a.next; body = frame.LinkSettle mine };
        sent = refl;
        lane = refl;
        serial = refl;
        stage = next;
        rows = refl;
        outstanding = refl;
        busy = tt;
        opened = omega arith;
        closed = omega arith;
      }))
  audits_it x opened closed = none_fits x

  accepts_it : (x : Stage) → Fits x (accepted a c x)
  unfolding accepted
  accepts_it (Settling number w own other) =
      fits_either (Settling number w own other) (accepts own other) _ _ (done_fits (Settling number w own other) _ refl refl refl _ _) (none_fits (Settling number w own other))
  accepts_it x = none_fits x

  rejects_it : (x : Stage) → Fits x (rejected a c x)
  unfolding rejected
  rejects_it (Settling number w own other) =
      fits_either (Settling number w own other) (accepts own other) _ _ (none_fits (Settling number w own other)) (done_fits (Settling number w own other) _ refl refl refl _ _)
  rejects_it x = none_fits x

  reads_it : (x : Stage) (stays : Bool) (number : ℕ) (found : Option Box) (share : List ℕ) → Fits x (read a c stays number found share)
  unfolding read
  reads_it x stays number None share = none_fits x
  reads_it x stays number (Some box) share = done_fits x _ refl refl refl _ _

  begun_fits : (x : Stage) (body : PlainBody) → Fits x (if_begun a c x body)
  begun_fits x (frame.LinkBegun count drawn) = begins x count drawn
  begun_fits x body = none_fits x

  audited_fits : (x : Stage) (body : PlainBody) → Fits x (if_audited a c x body)
  audited_fits x (frame.LinkReply (frame.ReplyAudited opened closed)) = audits_it x opened closed
  audited_fits x body = none_fits x

  settled_fits : (x : Stage) (body : PlainBody) → Fits x (if_settled a c x body)
  settled_fits x (frame.LinkReply frame.ReplyAccepted) = accepts_it x
  settled_fits x (frame.LinkReply frame.ReplyRejected) = rejects_it x
  settled_fits x body = none_fits x

  read_fits : (x : Stage) (stays : Bool) (number : ℕ) (body : PlainBody) → Fits x (if_read a c stays number body)
  read_fits x stays number (frame.LinkReply (frame.ReplyMasked share)) = reads_it x stays number (slice_get a.boxes number) share
  read_fits x stays number body = none_fits x

  commands : (command : PlainBody) (x : Stage) (body : PlainBody) → Fits x (by_command a c command x body)
  unfolding by_command
  commands (frame.LinkRegister address) x body = registers address x (registered_in body)
  commands (frame.LinkBegin drawn part) x body = begun_fits x body
  commands (frame.LinkAudit sigma opened) x body = audited_fits x body
  commands (frame.LinkSettle own) x body = settled_fits x body
  commands (frame.LinkRead number) x body = read_fits x true number body
  commands (frame.LinkRetire number) x body = read_fits x false number body
  commands command x body = none_fits x

  all_fits : (body : PlainBody) (why : Option Refusal) → Fits (row_at a c.lane).stage (fits a c body why)
  unfolding fits
  all_fits body (Some why) = done_fits (row_at a c.lane).stage a refl refl refl _ _
  all_fits body None = commands c.body (row_at a c.lane).stage body

-- ---- the oldest command's row waits for it

split_oldest : (xs : List PlainFrame) (c : PlainFrame) → slice_get xs 0 ≡ Some c → xs ≡ c ∷ drop 1 xs
split_oldest [] c e = absurd (cc e)
split_oldest (x ∷ xs) c e = let same : x ≡ c = cc in ap (λ y. y ∷ xs) same

module _ (a : Leader) (c : PlainFrame) (oldest : slice_get a.outstanding 0 ≡ Some c) where
  waits_oldest : Stands a → Waits a.rows (c ∷ drop 1 a.outstanding)
  waits_oldest s = subst (Waits a.rows) (split_oldest a.outstanding c oldest) s.waits

  serial_oldest : Stands a → (row_at a c.lane).serial ≡ c.serial
  unfolding Waits
  serial_oldest s = (waits_oldest s).0.1

  busy_oldest : Stands a → IsBusy (row_at a c.lane).stage
  unfolding Waits
  busy_oldest s = (waits_oldest s).0.0

  none_other : Stands a → HasNone c.lane (drop 1 a.outstanding)
  unfolding Waits
  none_other s = (waits_oldest s).1

  waits_others : Stands a → (r : Row) → Waits (slice_set a.rows c.lane r) (drop 1 a.outstanding)
  unfolding Waits
  waits_others s r = waits_set a.rows c.lane r (drop 1 a.outstanding) (waits_oldest s).1 (waits_oldest s).2

  -- a row that waits is one of the table
  low_oldest : Stands a → c.lane < length a.rows
  unfolding IsBusy
  low_oldest s = elim (cases_lt c.lane (length a.rows)) [
    | inl low ↦ low
    | inr high ↦ absurd (subst (λ (r : Row). IsBusy r.stage) (get_or_past a.rows c.lane idle high) (busy_oldest s))
  ]

  spare_oldest : (spare : Stage → ℕ) → Stands a → left (row_at a c.lane).serial (spare (row_at a c.lane).stage) c.serial ≡ spare (row_at a c.lane).stage
  spare_oldest spare s =
      ap (left (row_at a c.lane).serial (spare (row_at a c.lane).stage)) (sym (serial_oldest s))
      ∙ left_same (row_at a c.lane).serial (spare (row_at a c.lane).stage)

  lanes_of : Settings → ℕ
  lanes_of settings = settings.lanes

  tells : (t : AckTurn) → Tells a c (row_at a c.lane).stage t → Steps a [] t.leader
  unfolding lanes_of
  tells t is = record {
    stands = λ s. record {
      rows = ap length is.rows ∙ length-set a.rows c.lane (row c.serial is.stage) ∙ s.rows ∙ ap lanes_of (sym is.settings);
      waits = subst (λ rows. Waits rows t.leader.outstanding) (sym is.rows)
          (subst (Waits (slice_set a.rows c.lane (row c.serial is.stage))) (sym is.outstanding) (waits_others s (row c.serial is.stage)));
    };
    opens = λ s. let whole = spare_oldest to_open s in let same = serial_oldest s in
        subst (Counts opens to_open a.rows []) (sym is.rows)
        (quiet opens to_open a.rows c.lane c.serial is.stage (omega (arith, same)) (subst (λ n. to_open is.stage ≤ n) (sym whole) is.opened));
    closes = λ s. let whole = spare_oldest to_close s in let same = serial_oldest s in
        subst (Counts closes to_close a.rows []) (sym is.rows)
        (quiet closes to_close a.rows c.lane c.serial is.stage (omega (arith, same)) (subst (λ n. to_close is.stage ≤ n) (sym whole) is.closed));
    keeps = λ said all. subst (λ xs. All (Contains xs) t.leader.outstanding) (sym (append-nil said))
        (subst (All (Contains said)) (sym is.outstanding) (All-drop (Contains said) 1 a.outstanding all));
  }

  replaces : (t : AckTurn) (is : Replaces a c (row_at a c.lane).stage t) → Steps a (is.command ∷ []) t.leader
  unfolding lanes_of
  replaces t is = record {
    stands = λ s.
        let next : List Row = slice_set a.rows c.lane (row c.serial is.stage) in
        let here : at next is.command.lane ≡ row c.serial is.stage =
        ap (at next) is.lane ∙ get_or-set_same a.rows c.lane (row c.serial is.stage) idle (low_oldest s) in
        record {
          rows = ap length is.rows ∙ length-set a.rows c.lane (row c.serial is.stage) ∙ s.rows ∙ ap lanes_of (sym is.settings);
          waits = subst (λ rows. Waits rows t.leader.outstanding) (sym is.rows)
              (subst (Waits next) (sym is.outstanding)
              (waits_push next (drop 1 a.outstanding) is.command (subst (λ (r : Row). IsBusy r.stage) (sym here) is.busy)
              (ap (λ (r : Row). r.serial) here ∙ sym is.serial)
              (subst (λ l. HasNone l (drop 1 a.outstanding)) (sym is.lane) (none_other s)) (waits_others s (row c.serial is.stage))));
        };
    opens = λ s. let whole = spare_oldest to_open s in let same = serial_oldest s in
        subst (Counts opens to_open a.rows (is.command ∷ [])) (sym is.rows)
        (counted opens to_open a.rows c.lane c.serial is.stage is.command (low_oldest s) is.lane is.serial (omega (arith, same))
        (subst (λ n. num (opens is.command.body) + to_open is.stage ≤ n) (sym whole) is.opened));
    closes = λ s. let whole = spare_oldest to_close s in let same = serial_oldest s in
        subst (Counts closes to_close a.rows (is.command ∷ [])) (sym is.rows)
        (counted closes to_close a.rows c.lane c.serial is.stage is.command (low_oldest s) is.lane is.serial (omega (arith, same))
        (subst (λ n. num (closes is.command.body) + to_close is.stage ≤ n) (sym whole) is.closed));
    keeps = λ said all. subst (All (Contains (said ++ is.command ∷ []))) (sym is.outstanding)
        (All-push (Contains (said ++ is.command ∷ [])) (drop 1 a.outstanding) is.command
        (All-weaker (Contains said) (Contains (said ++ is.command ∷ [])) (λ x h. Contains-append_left said (is.command ∷ []) x h) (drop 1 a.outstanding)
        (All-drop (Contains said) 1 a.outstanding all))
        (Contains-push said is.command));
  }

  ack_steps : (t : AckTurn) → Answered a c (row_at a c.lane).stage t → Steps a (new_settle t.ack) t.leader
  ack_steps t answered = elim answered [
    | inl is ↦ subst (λ sent. Steps a sent t.leader) (sym is.sent) (tells t is)
    | inr is ↦ subst (λ sent. Steps a sent t.leader) (sym is.sent) (replaces t is)
  ]

  fitted : (found : Option AckTurn) → Fits a c (row_at a c.lane).stage found → Steps a (new_settle (if_fits a found).ack) (if_fits a found).leader
  fitted None fit = rests a
  fitted (Some t) fit = ack_steps t (fit t refl)

abbrev Acked : Leader → AckTurn → Type 0
Acked a t = Steps a (new_settle t.ack) t.leader

acked_either : (a : Leader) (b : Bool) (t u : AckTurn) → Acked a t → Acked a u → Acked a (cond b t u)
acked_either a true t u p q = p
acked_either a false t u p q = q

oldest_acked : (a : Leader) (f : PlainFrame) (oldest : Option PlainFrame) → slice_get a.outstanding 0 ≡ oldest → Acked a (answers a f oldest)
unfolding answers
oldest_acked a f None is = rests a
oldest_acked a f (Some c) is =
    acked_either a ((nat_eq f.link c.link) && ((nat_eq f.lane c.lane) && (nat_eq f.serial c.serial))) _ _
    (fitted a c is (fits a c f.body (refusal_in f.body)) (all_fits a c f.body (refusal_in f.body))) (rests a)

found_acked : (a : Leader) (found : Option PlainFrame) → Acked a (if_reply a found)
unfolding if_reply
found_acked a (Some f) = oldest_acked a f (slice_get a.outstanding 0) refl
found_acked a None = rests a

link_steps : (a : Leader) (bytes : List ℕ) → Steps a (new_settle (on_reply_bytes a bytes).ack) (on_reply_bytes a bytes).leader
link_steps a bytes = found_acked a (linked is_reply a.settings.width bytes)

-- ---- a run

event_steps : (a : Leader) (event : Event) → Steps a (leader_sends a event) (leader_after a event)
event_steps a (FromClient bytes) = client_steps a bytes
event_steps a (FromLink bytes) = link_steps a bytes
event_steps a LinkUp = rests a

abbrev has : (Stage → ℕ) → Leader → ℕ → ℕ → ℕ
has spare a lane s = left (row_at a lane).serial (spare (row_at a lane).stage) s

run_opens : (events : List Event) (a : Leader) → Stands a → (lane s : ℕ) → count_for opens lane s (leader_sent a events) ≤ has to_open a lane s
unfolding leader_sent
run_opens [] a stands lane s = omega arith
run_opens (event ∷ events) a stands lane s =
    let step = event_steps a event in
    let now = step.opens stands lane s in
    let rest = run_opens events (leader_after a event) (step.stands stands) lane s in
    subst (λ n. n ≤ has to_open a lane s)
    (sym (lefts.count_append opens lane s (leader_sends a event) (leader_sent (leader_after a event) events)))
    (omega (arith, now, rest))

run_closes : (events : List Event) (a : Leader) → Stands a → (lane s : ℕ) → count_for closes lane s (leader_sent a events) ≤ has to_close a lane s
unfolding leader_sent
run_closes [] a stands lane s = omega arith
run_closes (event ∷ events) a stands lane s =
    let step = event_steps a event in
    let now = step.closes stands lane s in
    let rest = run_closes events (leader_after a event) (step.stands stands) lane s in
    subst (λ n. n ≤ has to_close a lane s)
    (sym (lefts.count_append closes lane s (leader_sends a event) (leader_sent (leader_after a event) events)))
    (omega (arith, now, rest))

oldest_said : (said xs : List PlainFrame) → All (Contains said) xs → All (Contains said) (again (slice_get xs 0))
oldest_said said [] all = All-nil (Contains said)
oldest_said said (x ∷ xs) all = All-cons (Contains said) x [] (All-get_or (Contains said) (x ∷ xs) 0 x (omega arith) all) (All-nil (Contains said))

event_resends : (a : Leader) (event : Event) (said : List PlainFrame) → All (Contains said) a.outstanding → All (Contains said) (leader_resends a event)
event_resends a (FromClient bytes) said all = All-nil (Contains said)
event_resends a (FromLink bytes) said all = All-nil (Contains said)
event_resends a LinkUp said all = oldest_said said a.outstanding all

run_resends : (events : List Event) (a : Leader) (said : List PlainFrame) → All (Contains said) a.outstanding
    → All (Contains (said ++ leader_sent a events)) (leader_resent a events)
unfolding leader_sent leader_resent
run_resends [] a said all = All-nil (Contains (said ++ []))
run_resends (event ∷ events) a said all =
    let now = leader_sends a event in
    let rest = leader_sent (leader_after a event) events in
    let whole : (said ++ now) ++ rest ≡ said ++ (now ++ rest) = append_assoc said now rest in
    subst (λ xs. All (Contains xs) (leader_resends a event ++ leader_resent (leader_after a event) events)) whole
    (All-append (Contains ((said ++ now) ++ rest)) (leader_resends a event) (leader_resent (leader_after a event) events)
    (All-weaker (Contains said) (Contains ((said ++ now) ++ rest))
    (λ x h. Contains-append_left (said ++ now) rest x (Contains-append_left said now x h)) (leader_resends a event) (event_resends a event said all))
    (run_resends events (leader_after a event) (said ++ now) ((event_steps a event).keeps said all)))

opened_stands : (settings : Settings) (seed : List ℕ) → Stands (opened_leader settings seed)
unfolding opened_leader Waits
opened_stands settings seed = record { rows = length-replicate settings.lanes idle; waits = tt }

none_outstanding : (settings : Settings) (seed : List ℕ) → All (Contains []) (opened_leader settings seed).outstanding
unfolding opened_leader
none_outstanding settings seed = All-nil (Contains [])

pub leaders_audit_once : LeadersAuditOnce
leaders_audit_once settings seed events =
    let a = opened_leader settings seed in
    let stands = opened_stands settings seed in
    record {
      opens = λ lane serial.
          let all = run_opens events a stands lane serial in
          let one = left_small (row_at a lane).serial (to_open (row_at a lane).stage) serial (small_open (row_at a lane).stage) in
          omega (arith, all, one);
      closes = λ lane serial.
          let all = run_closes events a stands lane serial in
          let one = left_small (row_at a lane).serial (to_close (row_at a lane).stage) serial (small_close (row_at a lane).stage) in
          omega (arith, all, one);
      again = run_resends events a [] (none_outstanding settings seed);
    }
