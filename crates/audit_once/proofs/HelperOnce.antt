-- The helper audits a write once.
use Rattle.std.specs.Prelude.{◌≡◌, ◌≢◌, ◌⊎◌, ℕ, ◌+◌, ◌-◌, ◌<◌, ◌≤◌, Bool, true, false, cond, nat_le, nat_eq, refl, List, [], ◌∷◌, ◌++◌, length, map, All, Contains, Option, Some, None, slice_get, slice_set, slice_index_or}
use Rattle.std.proofs.Common.{ap, sym, subst, ◌∙◌, arith, inl, inr}
use Rattle.std.proofs.lemmas.Bool.{cases_lt, eqb-true}
use Rattle.std.proofs.lemmas.List.{get_or_past, append-nil, append_assoc, map-append}
use Rattle.std.proofs.lemmas.List.Elements.{All-nil, All-cons, All-get_or, All-push, All-weaker, All-drop, Contains-append_left, Contains-push}
use Rattle.express_words.specs.declared.refusal.Refusal.TheVariants as refusal
use Rattle.frame_rules.specs.declared.frame.DepositBody.{DepositBody}
use Rattle.frame_rules.specs.declared.frame.DepositBody.TheVariants as deposit
use Rattle.frame_rules.specs.Frames as frame
use Rattle.frame_rules.specs.Frames.{PlainFrame, PlainBody}
use Rattle.frame_rules.specs.Spelling.{spelling}
use Rattle.frame_rules.specs.Whole.{linked, is_command, on_link}
use Rattle.lane_table.specs.declared.row.Want.TheVariants.{Register, Write as Writes, Read}
use Rattle.dpf_rules.specs.Expansion.{token}
use Rattle.audit_rules.specs.Audit.{accepts}
use Rattle.step_rules.specs.Boxes.{Box, place_of}
use Rattle.step_rules.specs.Helper as helper
use Rattle.step_rules.specs.Helper.{Server, Helper, Row, Stage, Idle, Deposited, Begun, Proved, Audited, Done, row, row_at, Answer, Carried, Repeated, Ignored, LinkTurn, opened_helper}
use Rattle.step_rules.specs.HelperClients.{client_turn}
use Rattle.step_rules.specs.HelperCommands as steps
use Rattle.step_rules.specs.HelperCommands.{Effect, stage_for, register_at, register, begin, audit, settle, read_live, read_at, read, command, carries_out, carried_with, arrives, if_command, kept_for, on_link_bytes}
use Rattle.step_rules.specs.Firsts.{HelperTook}
use Rattle.step_rules.proofs.HelperFirsts.{helper_takes_first}
use Rattle.audit_once.specs.Runs.{Event, FromClient, FromLink, LinkUp, helper_after, helper_sends, helper_writes, helper_sent, helper_written, new_reply}
use Rattle.audit_once.specs.Once.{opens, count_for, HelpersAuditOnce}
use Rattle.audit_once.proofs.Left as lefts
use Rattle.audit_once.proofs.Left.{left, left_small, num, set_quiet, set_counted}

-- what a row may still open for its serial
spare_in : Stage → ℕ
spare_in Idle = 1
spare_in (Deposited held) = 1
spare_in (Begun write) = 1
spare_in (Proved write share) = 1
spare_in (Audited write closing) = 0
spare_in (Done want) = 0

serial_of : Row → ℕ
serial_of r = r.serial

spare : Row → ℕ
spare r = spare_in r.stage

spare_small : (x : Stage) → spare_in x ≤ 1
unfolding spare_in
spare_small Idle = omega arith
spare_small (Deposited held) = omega arith
spare_small (Begun write) = omega arith
spare_small (Proved write share) = omega arith
spare_small (Audited write closing) = omega arith
spare_small (Done want) = omega arith

abbrev left_at : Row → ℕ → ℕ
left_at r s = left (serial_of r) (spare r) s

-- ---- frames of clients

taken : (lanes c : ℕ) (bytes : List ℕ) (before after : Row) (s : ℕ) → HelperTook bytes lanes c before after → left_at after s ≤ left_at before s
unfolding serial_of spare spare_in
taken lanes c bytes before after s took = elim took.takes [
  | inl deposits ↦
      subst (λ r. left_at r s ≤ left_at before s) (sym deposits.is)
      (fits before (row took.frame.serial (Deposited deposits.held)) (omega (arith, deposits.later)) (later before took.frame.serial deposits.later))
  | inr proves ↦
      let whole : spare_in before.stage ≡ 1 = ap spare_in proves.begun in
      let same = lefts.left_same before.serial (spare_in before.stage) in
      subst (λ r. left_at r s ≤ left_at before s) (sym proves.is)
      (fits before (row before.serial (Proved proves.write proves.share)) (omega arith) (omega (arith, whole, same)))
]
  where
    later : (r : Row) (t : ℕ) → r.serial < t → 1 ≤ left r.serial (spare_in r.stage) t
    later r t low = lefts.left_cases (λ n. 1 ≤ n) r.serial (spare_in r.stage) t (λ l. omega arith) (λ e. absurd (omega (arith, low, e))) (λ h. absurd (omega (arith, low, h)))

    fits : (r q : Row) → r.serial ≤ q.serial → spare_in q.stage ≤ left r.serial (spare_in r.stage) q.serial → left_at q s ≤ left_at r s
    fits r q after less = lefts.goes_on r.serial (spare_in r.stage) q.serial (spare_in q.stage) s after less

client_step : (h : Server) (bytes : List ℕ) (c s : ℕ) → left_at (row_at (client_turn h bytes).server c) s ≤ left_at (row_at h c) s
client_step h bytes c s = elim (helper_takes_first h bytes c) [
  | inl same ↦ subst (λ r. left_at r s ≤ left_at (row_at h c) s) (sym same) (omega arith)
  | inr took ↦ taken h.settings.lanes c bytes _ _ s took
]

-- ---- commands

-- the rows stay, and nothing is opened; or the row goes on from this stage with no more left, but for an opening
abbrev Spends : Server → PlainFrame → Stage → Effect → Type 0
Spends h f x e =
    ((opens e.body ≡ false) × (e.server.rows ≡ h.rows))
    ⊎ ((next : Stage) × (e.server.rows ≡ slice_set h.rows f.lane (row f.serial next))
    × (num (opens e.body) + spare_in next ≤ spare_in x) × (x ≢ Idle))

either : (h : Server) (f : PlainFrame) (x : Stage) (t : Bool) (p q : Effect) → Spends h f x p → Spends h f x q → Spends h f x (cond t p q)
either h f x true p q a b = a
either h f x false p q a b = b

deposited_is : (held : DepositBody) → Deposited held ≢ Idle
deposited_is held e = cc e

module _ (h : Server) (f : PlainFrame) where
  registers : (address : ℕ) (key : List ℕ) (found : Option ℕ) → Spends h f (Deposited (deposit.Register key)) (register_at h f address key found)
  unfolding register_at spare_in num
  registers address key (Some n) = inr (Done Register, refl, omega arith, λ e. cc e)
  registers address key None =
      either h f (Deposited (deposit.Register key)) (nat_le h.settings.boxes (length h.boxes)) _ _
      (inr (Done Register, refl, omega arith, λ e. cc e)) (inr (Done Register, refl, omega arith, λ e. cc e))

  reads_live : (stays : Bool) (number held : ℕ) (box : Box) → Spends h f (Deposited (deposit.Read held)) (read_live h f stays number held box)
  unfolding read_live spare_in num
  reads_live stays number held box =
      either h f (Deposited (deposit.Read held)) (nat_eq held (token box.key f.lane f.serial)) _ _
      (inr (Done Read, refl, omega arith, λ e. cc e)) (inr (Done Read, refl, omega arith, λ e. cc e))

  reads_at : (stays : Bool) (number held : ℕ) (found : Option Box) → Spends h f (Deposited (deposit.Read held)) (read_at h f stays number held found)
  unfolding read_at spare_in num
  reads_at stays number held None = inr (Done Read, refl, omega arith, λ e. cc e)
  reads_at stays number held (Some box) =
      either h f (Deposited (deposit.Read held)) box.live _ _ (reads_live stays number held box) (inr (Done Read, refl, omega arith, λ e. cc e))

  commanded : (body : PlainBody) (x : Stage) → Spends h f x (command h f body x)
  unfolding command register begin audit settle read spare_in num
  commanded (frame.LinkRegister address) (Deposited (deposit.Register key)) = registers address key (place_of address h.boxes)
  commanded (frame.LinkBegin leaders part) (Deposited (deposit.Write root)) =
      inr (Begun (steps.begun h leaders part root), refl, omega arith, λ e. cc e)
  commanded (frame.LinkAudit sigma other) (Begun w) = inr (Done Writes, refl, omega arith, λ e. cc e)
  commanded (frame.LinkAudit sigma other) (Proved w share) =
      inr (Audited w (steps.audit_values h w share sigma other).closing, refl, omega arith, λ e. cc e)
  commanded (frame.LinkSettle leaders) (Audited w own) =
      either h f (Audited w own) (accepts leaders own) _ _ (inr (Done Writes, refl, omega arith, λ e. cc e)) (inr (Done Writes, refl, omega arith, λ e. cc e))
  commanded (frame.LinkRead number) (Deposited (deposit.Read held)) = reads_at true number held (slice_get h.boxes number)
  commanded (frame.LinkRetire number) (Deposited (deposit.Read held)) = reads_at false number held (slice_get h.boxes number)
  commanded body x = inl (refl, refl)

  -- the row has the command's serial, where it goes on
  abbrev Carries : Effect → Type 0
  Carries e =
      ((opens e.body ≡ false) × (e.server.rows ≡ h.rows))
      ⊎ ((next : Stage) × (e.server.rows ≡ slice_set h.rows f.lane (row f.serial next))
      × (num (opens e.body) + spare_in next ≤ spare_in (row_at h f.lane).stage) × ((row_at h f.lane).stage ≢ Idle)
      × ((row_at h f.lane).serial ≡ f.serial))

  carries : Carries (carries_out h f)
  unfolding carries_out
  carries = at_lane (nat_le h.settings.lanes f.lane)
    where
      at_stage : (t : Bool) → nat_eq (row_at h f.lane).serial f.serial ≡ t → Carries (command h f f.body (cond t (row_at h f.lane).stage Idle))
      at_stage true e = elim (commanded f.body (row_at h f.lane).stage) [
        | inl same ↦ inl same
        | inr goes ↦ inr (goes.0, goes.1, goes.2, goes.3, eqb-true _ _ e)
      ]
      at_stage false e = elim (commanded f.body Idle) [
        | inl same ↦ inl same
        | inr goes ↦ absurd (goes.3 refl)
      ]

      at_lane : (past : Bool) → Carries (cond past (steps.refuses h (refusal.Lane h.settings.lanes)) (command h f f.body (stage_for (row_at h f.lane) f.serial)))
      at_lane true = inl (refl, refl)
      at_lane false = at_stage (nat_eq (row_at h f.lane).serial f.serial) refl

-- a row that isn't idle is one of the table
there : (h : Server) (lane : ℕ) → (row_at h lane).stage ≢ Idle → lane < length h.rows
there h lane active = elim (cases_lt lane (length h.rows)) [
  | inl low ↦ low
  | inr high ↦ absurd (active (ap (λ (r : Row). r.stage) (get_or_past h.rows lane helper.idle high)))
]

-- the reply to a command that is carried out counts
abbrev Counts : Server → List PlainFrame → Server → Type 0
Counts h sent after = (lane s : ℕ) → count_for opens lane s sent + left_at (row_at after lane) s ≤ left_at (row_at h lane) s

count_none : (h : Server) → Counts h [] h
count_none h lane s = omega arith

carried_step : (h : Server) (f : PlainFrame) (reply : PlainFrame) → reply ≡ on_link f f.link (carries_out h f).body
    → Counts h (reply ∷ []) (carries_out h f).server
unfolding serial_of spare num
carried_step h f reply is lane s = elim (carries h f) [
  | inl same ↦
      let closed : opens reply.body ≡ false = ap (λ (g : PlainFrame). opens g.body) is ∙ same.0 in
      lefts.count_cases (λ n. n + left_at (row_at (carries_out h f).server lane) s ≤ left_at (row_at h lane) s) opens lane s reply
      (λ here now. subst (λ b. num b + left_at (row_at (carries_out h f).server lane) s ≤ left_at (row_at h lane) s) (sym closed) (stays same.1))
      (stays same.1)
  | inr goes ↦
      let at = row_at h f.lane in
      let serial : f.serial ≡ at.serial = sym goes.4 in
      let bound : left at.serial (spare_in at.stage) f.serial ≡ spare_in at.stage =
      ap (λ n. left at.serial (spare_in at.stage) n) serial ∙ lefts.left_same at.serial (spare_in at.stage) in
      let body : opens reply.body ≡ opens (carries_out h f).body = ap (λ (g : PlainFrame). opens g.body) is in
      let counted : num (opens reply.body) + spare_in goes.0 ≤ left at.serial (spare_in at.stage) f.serial =
      subst (λ b. num b + spare_in goes.0 ≤ left at.serial (spare_in at.stage) f.serial) (sym body)
      (subst (λ n. num (opens (carries_out h f).body) + spare_in goes.0 ≤ n) (sym bound) goes.2) in
      subst (λ rows. count_for opens lane s (reply ∷ []) + left_at (slice_index_or rows lane helper.idle) s ≤ left_at (row_at h lane) s) (sym goes.1)
      (set_counted serial_of spare helper.idle h.rows f.lane (row f.serial goes.0) opens reply (there h f.lane goes.3)
      (ap (λ (g : PlainFrame). g.lane) is) (ap (λ (g : PlainFrame). g.serial) is) (omega (arith, serial)) counted lane s)
]
  where
    stays : (carries_out h f).server.rows ≡ h.rows → 0 + left_at (row_at (carries_out h f).server lane) s ≤ left_at (row_at h lane) s
    stays same = subst (λ rows. 0 + left_at (slice_index_or rows lane helper.idle) s ≤ left_at (row_at h lane) s) (sym same) (omega arith)

-- ---- the link: what is sent counts, and what is repeated was kept

abbrev KeepsOf : List (List ℕ) → Helper → Type 0
KeepsOf said h = All (Contains said) h.replies

record Steps (h : Helper) (t : LinkTurn) : Type 0 where
  counts : Counts h.server (new_reply t.answer) t.helper.server
  keeps : (said : List (List ℕ)) → KeepsOf said h → KeepsOf (said ++ map spelling (new_reply t.answer)) t.helper
  writes : (said : List (List ℕ)) → KeepsOf said h
      → (helper.written t.answer ≡ []) ⊎ Contains (said ++ map spelling (new_reply t.answer)) (helper.written t.answer)

ignores : (h : Helper) → Steps h (record { helper = h; answer = Ignored })
ignores h = record {
  counts = count_none h.server;
  keeps = λ said kept. subst (λ xs. KeepsOf xs h) (sym (append-nil said)) kept;
  writes = λ said kept. inl refl;
}

repeats : (h : Helper) (number : ℕ) → Steps h (record { helper = h; answer = Repeated (kept_for h number) })
repeats h number = record {
  counts = count_none h.server;
  keeps = λ said kept. subst (λ xs. KeepsOf xs h) (sym (append-nil said)) kept;
  writes = λ said kept. elim (cases_lt (number + length h.replies - (h.carried + 1)) (length h.replies)) [
    | inl low ↦ inr (subst (λ xs. Contains xs (kept_for h number)) (sym (append-nil said))
        (All-get_or (Contains said) h.replies (number + length h.replies - (h.carried + 1)) [] low kept))
    | inr high ↦ inl (get_or_past h.replies (number + length h.replies - (h.carried + 1)) [] high)
  ];
}

carries_on : (h : Helper) (f : PlainFrame) → Steps h (carried_with h f (carries_out h.server f))
carries_on h f = record {
  counts = carried_step h.server f reply refl;
  keeps = λ said kept. All-drop (Contains (said ++ spelling reply ∷ [])) (length (h.replies ++ spelling reply ∷ []) - h.server.settings.window) (h.replies ++ spelling reply ∷ [])
      (All-push (Contains (said ++ spelling reply ∷ [])) h.replies (spelling reply)
      (All-weaker (Contains said) (Contains (said ++ spelling reply ∷ [])) (λ x c. Contains-append_left said (spelling reply ∷ []) x c) h.replies kept)
      (Contains-push said (spelling reply)));
  writes = λ said kept. inr (Contains-push said (spelling reply));
}
  where
    reply : PlainFrame
    reply = on_link f f.link (carries_out h.server f).body

steps_either : (h : Helper) (b : Bool) (t u : LinkTurn) → Steps h t → Steps h u → Steps h (cond b t u)
steps_either h true t u p q = p
steps_either h false t u p q = q

found_steps : (h : Helper) (found : Option PlainFrame) → Steps h (if_command h found)
unfolding if_command arrives
found_steps h None = ignores h
found_steps h (Some f) =
    steps_either h (nat_eq f.link (h.carried + 1)) _ _ (carries_on h f)
    (steps_either h (nat_le f.link h.carried) _ _
    (steps_either h (nat_le (h.carried + 1) (f.link + length h.replies)) _ _ (repeats h f.link) (ignores h)) (ignores h))

link_steps : (h : Helper) (bytes : List ℕ) → Steps h (on_link_bytes h bytes)
link_steps h bytes = found_steps h (linked is_command h.server.settings.width bytes)

-- ---- a run

event_counts : (h : Helper) (event : Event) → Counts h.server (helper_sends h event) (helper_after h event).server
event_counts h (FromClient bytes) = λ lane s. let fewer = client_step h.server bytes lane s in omega (arith, fewer)
event_counts h (FromLink bytes) = (link_steps h bytes).counts
event_counts h LinkUp = count_none h.server

run_counts : (events : List Event) (h : Helper) (lane s : ℕ) → count_for opens lane s (helper_sent h events) ≤ left_at (row_at h.server lane) s
unfolding helper_sent
run_counts [] h lane s = omega arith
run_counts (event ∷ events) h lane s =
    let now = event_counts h event lane s in
    let rest = run_counts events (helper_after h event) lane s in
    subst (λ n. n ≤ left_at (row_at h.server lane) s)
    (sym (lefts.count_append opens lane s (helper_sends h event) (helper_sent (helper_after h event) events)))
    (omega (arith, now, rest))

-- what is written in a run, where so much was said before
abbrev IsSaid : List (List ℕ) → List ℕ → Type 0
IsSaid said bytes = (bytes ≡ []) ⊎ Contains said bytes

more_said : (said more : List (List ℕ)) (bytes : List ℕ) → IsSaid said bytes → IsSaid (said ++ more) bytes
more_said said more bytes is = elim is [
  | inl none ↦ inl none
  | inr has ↦ inr (Contains-append_left said more bytes has)
]

event_keeps : (h : Helper) (event : Event) (said : List (List ℕ)) → KeepsOf said h → KeepsOf (said ++ map spelling (helper_sends h event)) (helper_after h event)
event_keeps h (FromClient bytes) said kept = subst (λ xs. KeepsOf xs h) (sym (append-nil said)) kept
event_keeps h (FromLink bytes) said kept = (link_steps h bytes).keeps said kept
event_keeps h LinkUp said kept = subst (λ xs. KeepsOf xs h) (sym (append-nil said)) kept

event_writes : (h : Helper) (event : Event) (said : List (List ℕ)) → KeepsOf said h → IsSaid (said ++ map spelling (helper_sends h event)) (helper_writes h event)
event_writes h (FromClient bytes) said kept = inl refl
event_writes h (FromLink bytes) said kept = (link_steps h bytes).writes said kept
event_writes h LinkUp said kept = inl refl

run_writes : (events : List Event) (h : Helper) (said : List (List ℕ)) → KeepsOf said h
    → All (IsSaid (said ++ map spelling (helper_sent h events))) (helper_written h events)
unfolding helper_sent helper_written
run_writes [] h said kept = All-nil (IsSaid (said ++ map spelling []))
run_writes (event ∷ events) h said kept =
    let now = helper_sends h event in
    let rest = helper_sent (helper_after h event) events in
    let more = said ++ map spelling now in
    let all : more ++ map spelling rest ≡ said ++ map spelling (now ++ rest) =
    append_assoc said (map spelling now) (map spelling rest) ∙ ap (λ xs. said ++ xs) (sym (map-append spelling now rest)) in
    subst (λ xs. All (IsSaid xs) (helper_writes h event ∷ helper_written (helper_after h event) events)) all
    (All-cons (IsSaid (more ++ map spelling rest)) (helper_writes h event) (helper_written (helper_after h event) events)
    (more_said more (map spelling rest) (helper_writes h event) (event_writes h event said kept))
    (run_writes events (helper_after h event) more (event_keeps h event said kept)))

pub helpers_audit_once : HelpersAuditOnce
unfolding serial_of spare
helpers_audit_once settings seed events = record {
  opens = λ lane serial.
      let h = opened_helper settings seed in
      let all = run_counts events h lane serial in
      let r = row_at h.server lane in
      let one = left_small r.serial (spare_in r.stage) serial (spare_small r.stage) in
      omega (arith, all, one);
  again = run_writes events (opened_helper settings seed) [] (All-nil (Contains []));
}
