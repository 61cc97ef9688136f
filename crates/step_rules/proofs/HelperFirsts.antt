-- How the helper's rows go on: what a request's first frames left stands.
use Rattle.std.specs.Prelude.{◌≡◌, ℕ, ◌+◌, ◌<◌, ◌≤◌, ◌⊎◌, Bool, true, false, cond, nat_le, nat_lt, nat_eq, refl, List, [], ◌∷◌, length, Option, Some, None, Result, Ok, Err, slice_get, slice_set, slice_index_or}
use Rattle.std.proofs.Common.{ap, sym, subst, ◌∙◌, arith, inl, inr, zero, suc}
use Rattle.std.proofs.lemmas.Bool.{cases_eq, cases_lt, eqb-true, eqb-false, leb-false, ltb-false}
use Rattle.std.proofs.lemmas.List.{get_or-set_same, get_or-set_other}
use Rattle.express_words.specs.declared.audit.ProofShare.{ProofShare}
use Rattle.express_words.specs.declared.refusal.Refusal.{Refusal}
use Rattle.express_words.specs.declared.refusal.Refusal.TheVariants as refusal
use Rattle.frame_rules.specs.declared.frame.DepositBody.{DepositBody}
use Rattle.frame_rules.specs.declared.frame.DepositBody.TheVariants as deposit
use Rattle.frame_rules.specs.Frames as frame
use Rattle.frame_rules.specs.Frames.{PlainFrame, PlainBody}
use Rattle.frame_rules.specs.Whole.{whole, linked, is_command}
use Rattle.lane_table.specs.Gates.{opening_gate, closing_gate, same_want}
use Rattle.lane_table.specs.declared.row.Want.TheVariants.{Register, Write as Writes, Read}
use Rattle.lane_table.specs.declared.gate.Gate.TheVariants.{New, Same, Stale, Phase}
use Rattle.dpf_rules.specs.Expansion.{token}
use Rattle.audit_rules.specs.Audit.{accepts}
use Rattle.audit_rules.specs.Values.{Write}
use Rattle.step_rules.specs.Boxes.{Box, place_of}
use Rattle.step_rules.specs.Helper as helper
use Rattle.step_rules.specs.Helper.{Server, Helper, Row, Stage, Idle, Deposited, Begun, Proved, Audited, Done, row, row_at, want_in, want_of, phase_of, Repeated, Ignored, LinkTurn}
use Rattle.step_rules.specs.HelperClients.{RowTurn, deposit_at, deposit_row, proof_in, proof_at, proof_row, if_lane, at_row, by_kind, on_whole}
use Rattle.step_rules.specs.HelperCommands as steps
use Rattle.step_rules.specs.HelperCommands.{Effect, done, stage_for, held_key, held_root, held_proof, held_closing, held_token, register_at, register, begin, audit, settle, read_live, read_at, read, command, carries_out, carried_with, arrives, if_command, kept_for}
use Rattle.step_rules.specs.Firsts.{HelperTook, HelperTakesFirst, HelperGoesTo, HelperWentOn, HelperGoesOn}

-- ---- a row of a table that changes

past_set : (xs : List Row) (c : ℕ) (r : Row) → length xs ≤ c → slice_set xs c r ≡ xs
past_set [] c r h = refl
past_set (x ∷ xs) zero r h = absurd (omega (arith, h))
past_set (x ∷ xs) (suc c) r h = ap (λ l. x ∷ l) (past_set xs c r (omega (arith, h)))

-- another row stays, and the one that is set is this, if there is one
set_row : (xs : List Row) (c d : ℕ) (r : Row) → (slice_index_or (slice_set xs d r) c helper.idle ≡ slice_index_or xs c helper.idle)
    ⊎ ((d ≡ c) × (slice_index_or (slice_set xs d r) c helper.idle ≡ r))
set_row xs c d r = elim (cases_eq c d) [
  | inl same ↦ elim (cases_lt d (length xs)) [
    | inl low ↦ inr (sym same, ap (λ n. slice_index_or (slice_set xs d r) n helper.idle) same ∙ get_or-set_same xs d r helper.idle low)
    | inr high ↦ inl (ap (λ l. slice_index_or l c helper.idle) (past_set xs d r high))
  ]
  | inr other ↦ inl (get_or-set_other xs d c r helper.idle other)
]

-- ---- frames of clients

Deposits : Row → ℕ → DepositBody → Row → Type 0
Deposits r s held after = (after ≡ r) ⊎ ((r.serial < s) × (after ≡ row s (Deposited held)))

deposited : (r : Row) (s : ℕ) (held : DepositBody) → Deposits r s held (deposit_row r s held).row
unfolding Deposits deposit_row deposit_at opening_gate
deposited r s held =
    cases (nat_lt s r.serial) (nat_eq s r.serial) (same_want (want_in held) (want_of r.stage))
    (λ t u. let l = ltb-false _ _ t in let n = eqb-false _ _ u in omega (arith, l, n))
  where
    cases : (less same wanted : Bool) → (less ≡ false → same ≡ false → r.serial < s)
        → Deposits r s held (deposit_at r s held (cond less (Stale r.serial) (cond same (cond wanted Same (Phase (phase_of r.stage))) New))).row
    cases true same wanted new = inl refl
    cases false true true new = inl refl
    cases false true false new = inl refl
    cases false false wanted new = inr (new refl refl, refl)

Proves : Row → ℕ → ProofShare → Row → Type 0
Proves r s share after = (after ≡ r) ⊎ ((write : Write) × (s ≡ r.serial) × (r.stage ≡ Begun write) × (after ≡ row r.serial (Proved write share)))

proves_in : (r : Row) (s : ℕ) (share : ProofShare) (x : Stage) → r.stage ≡ x → s ≡ r.serial → Proves r s share (proof_in r share x).row
unfolding Proves proof_in
proves_in r s share Idle at same = inl refl
proves_in r s share (Deposited held) at same = inl refl
proves_in r s share (Begun write) at same = inr (write, same, at, refl)
proves_in r s share (Proved write before) at same = inl refl
proves_in r s share (Audited write own) at same = inl refl
proves_in r s share (Done want) at same = inl refl

proved : (r : Row) (s : ℕ) (share : ProofShare) → Proves r s share (proof_row r s share).row
unfolding Proves proof_row proof_at closing_gate
proved r s share = cases (nat_eq s r.serial) (same_want Writes (want_of r.stage)) (λ t. eqb-true _ _ t)
  where
    cases : (same wanted : Bool) → (same ≡ true → s ≡ r.serial)
        → Proves r s share (proof_at r share (cond same (cond wanted Same (Phase (phase_of r.stage))) (Stale r.serial))).row
    cases true true at = proves_in r s share r.stage refl (at refl)
    cases true false at = inl refl
    cases false wanted at = inl refl

module _ (h : Server) (bytes : List ℕ) (c : ℕ) where
  abbrev Stands : Server → Type 0
  Stands after = (row_at after c ≡ row_at h c) ⊎ HelperTook bytes h.settings.lanes c (row_at h c) (row_at after c)

  -- the frame's lane has this turn's row, if there is one
  lane_stands : (f : PlainFrame) (t : RowTurn)
      → (f.lane ≡ c → f.lane < h.settings.lanes → (t.row ≡ row_at h c) ⊎ HelperTook bytes h.settings.lanes c (row_at h c) t.row)
      → Stands (if_lane h f t).server
  unfolding if_lane
  lane_stands f t turns = at_lane (nat_le h.settings.lanes f.lane) refl
    where
      at_lane : (past : Bool) → nat_le h.settings.lanes f.lane ≡ past → Stands (cond past (helper.refuses h f (refusal.Lane h.settings.lanes)) (at_row h f t)).server
      at_lane true e = inl refl
      at_lane false e = elim (set_row h.rows c f.lane t.row) [
        | inl stays ↦ inl stays
        | inr set ↦
            let l = leb-false _ _ e in
            elim (turns set.0 (omega (arith, l))) [
              | inl same ↦ inl (set.1 ∙ same)
              | inr took ↦ inr (subst (HelperTook bytes h.settings.lanes c (row_at h c)) (sym set.1) took)
            ]
      ]

  kind_stands : (f : PlainFrame) → whole bytes ≡ Ok f → (body : PlainBody) → f.body ≡ body → Stands (by_kind h f body).server
  unfolding by_kind Deposits Proves
  kind_stands f read (frame.Deposit held) is = lane_stands f (deposit_row (row_at h f.lane) f.serial held) (λ mine low.
      let low_c : c < h.settings.lanes = omega (arith, mine, low) in
      let at : row_at h f.lane ≡ row_at h c = ap (row_at h) mine in
      elim (subst (λ r. Deposits r f.serial held (deposit_row (row_at h f.lane) f.serial held).row) at (deposited (row_at h f.lane) f.serial held)) [
        | inl same ↦ inl same
        | inr new ↦ inr (record { frame = f; read = read; lane = mine; there = low_c; takes = inl (record { held = held; body = is; later = new.0; is = new.1 }) })
      ])
  kind_stands f read (frame.Proof share) is = lane_stands f (proof_row (row_at h f.lane) f.serial share) (λ mine low.
      let low_c : c < h.settings.lanes = omega (arith, mine, low) in
      let at : row_at h f.lane ≡ row_at h c = ap (row_at h) mine in
      elim (subst (λ r. Proves r f.serial share (proof_row (row_at h f.lane) f.serial share).row) at (proved (row_at h f.lane) f.serial share)) [
        | inl same ↦ inl same
        | inr new ↦ inr (record { frame = f; read = read; lane = mine; there = low_c; takes = inr (record { write = new.0; share = share; body = is; same = new.1; begun = new.2; is = new.3 }) })
      ])
  kind_stands f read body is = inl refl

  whole_stands : (found : Result PlainFrame Refusal) → whole bytes ≡ found → Stands (on_whole h found).server
  unfolding on_whole
  whole_stands (Err why) read = inl refl
  whole_stands (Ok f) read = kind_stands f read f.body refl

pub helper_takes_first : HelperTakesFirst
helper_takes_first h bytes c = whole_stands h bytes c (whole bytes) refl

-- ---- commands

-- the row's stage after a command that found it at this one
abbrev After : Server → PlainFrame → PlainBody → Stage → Effect → Type 0
After h f body x e =
    (e.server.rows ≡ h.rows) ⊎ ((next : Stage) × (e.server.rows ≡ slice_set h.rows f.lane (row f.serial next)) × HelperGoesTo h body x next)

either : (h : Server) (f : PlainFrame) (body : PlainBody) (x : Stage) (t : Bool) (p q : Effect) → After h f body x p → After h f body x q → After h f body x (cond t p q)
either h f body x true p q a b = a
either h f body x false p q a b = b

registers : (h : Server) (f : PlainFrame) (body : PlainBody) (x : Stage) (address : ℕ) (key : List ℕ) (found : Option ℕ) → After h f body x (register_at h f address key found)
unfolding register_at
registers h f body x address key (Some n) = inr (Done Register, refl, tt)
registers h f body x address key None =
    either h f body x (nat_le h.settings.boxes (length h.boxes)) _ _ (inr (Done Register, refl, tt)) (inr (Done Register, refl, tt))

reads_live : (h : Server) (f : PlainFrame) (body : PlainBody) (x : Stage) (stays : Bool) (number held : ℕ) (box : Box) → After h f body x (read_live h f stays number held box)
unfolding read_live
reads_live h f body x stays number held box =
    either h f body x (nat_eq held (token box.key f.lane f.serial)) _ _ (inr (Done Read, refl, tt)) (inr (Done Read, refl, tt))

reads_at : (h : Server) (f : PlainFrame) (body : PlainBody) (x : Stage) (stays : Bool) (number held : ℕ) (found : Option Box) → After h f body x (read_at h f stays number held found)
unfolding read_at
reads_at h f body x stays number held None = inr (Done Read, refl, tt)
reads_at h f body x stays number held (Some box) =
    either h f body x box.live _ _ (reads_live h f body x stays number held box) (inr (Done Read, refl, tt))

commanded : (h : Server) (f : PlainFrame) (body : PlainBody) (x : Stage) → After h f body x (command h f body x)
unfolding command register begin audit settle read
commanded h f (frame.LinkRegister address) (Deposited (deposit.Register key)) = registers h f (frame.LinkRegister address) (Deposited (deposit.Register key)) address key (place_of address h.boxes)
commanded h f (frame.LinkBegin leaders part) (Deposited (deposit.Write root)) = inr (Begun (steps.begun h leaders part root), refl, (refl, refl))
commanded h f (frame.LinkAudit sigma other) (Begun w) = inr (Done Writes, refl, tt)
commanded h f (frame.LinkAudit sigma other) (Proved w share) = inr (Audited w (steps.audit_values h w share sigma other).closing, refl, (refl, refl))
commanded h f (frame.LinkSettle leaders) (Audited w own) =
    either h f (frame.LinkSettle leaders) (Audited w own) (accepts leaders own) _ _ (inr (Done Writes, refl, tt)) (inr (Done Writes, refl, tt))
commanded h f (frame.LinkRead number) (Deposited (deposit.Read held)) = reads_at h f (frame.LinkRead number) (Deposited (deposit.Read held)) true number held (slice_get h.boxes number)
commanded h f (frame.LinkRetire number) (Deposited (deposit.Read held)) = reads_at h f (frame.LinkRetire number) (Deposited (deposit.Read held)) false number held (slice_get h.boxes number)
commanded h f body x = inl refl

-- at a row of another serial it changes nothing
idle_stays : (h : Server) (f : PlainFrame) (body : PlainBody) → (command h f body Idle).server.rows ≡ h.rows
unfolding command register begin audit settle read
idle_stays h f (frame.LinkRegister address) = refl
idle_stays h f (frame.LinkBegin leaders part) = refl
idle_stays h f (frame.LinkAudit sigma other) = refl
idle_stays h f (frame.LinkSettle leaders) = refl
idle_stays h f (frame.LinkRead number) = refl
idle_stays h f (frame.LinkRetire number) = refl
idle_stays h f body = refl

-- rows that stay, or one that has the command's serial and goes on
abbrev Carries : Server → PlainFrame → Effect → Type 0
Carries h f e =
    (e.server.rows ≡ h.rows)
    ⊎ (((row_at h f.lane).serial ≡ f.serial)
    × ((next : Stage) × (e.server.rows ≡ slice_set h.rows f.lane (row f.serial next)) × HelperGoesTo h f.body (row_at h f.lane).stage next))

carries : (h : Server) (f : PlainFrame) → Carries h f (carries_out h f)
unfolding carries_out
carries h f = at_lane (nat_le h.settings.lanes f.lane)
  where
    r : Row
    r = row_at h f.lane

    at_stage : (t : Bool) → nat_eq (row_at h f.lane).serial f.serial ≡ t → Carries h f (command h f f.body (cond t (row_at h f.lane).stage Idle))
    at_stage true e = elim (commanded h f f.body (row_at h f.lane).stage) [
      | inl same ↦ inl same
      | inr goes ↦ inr (eqb-true _ _ e, goes)
    ]
    at_stage false e = inl (idle_stays h f f.body)

    at_lane : (past : Bool) → Carries h f (cond past (steps.refuses h (refusal.Lane h.settings.lanes)) (command h f f.body (stage_for (row_at h f.lane) f.serial)))
    at_lane true = inl refl
    at_lane false = at_stage (nat_eq (row_at h f.lane).serial f.serial) refl

module _ (h : Helper) (bytes : List ℕ) (c : ℕ) where
  abbrev Goes : Helper → Type 0
  Goes after = (row_at after.server c ≡ row_at h.server c) ⊎ HelperWentOn h bytes c (row_at h.server c) (row_at after.server c)

  next_goes : (f : PlainFrame) → linked is_command h.server.settings.width bytes ≡ Some f → f.link ≡ h.carried + 1
      → Goes (carried_with h f (carries_out h.server f)).helper
  next_goes f read next = elim (carries h.server f) [
    | inl same ↦ inl (ap (λ rows. slice_index_or rows c helper.idle) same)
    | inr on ↦ elim (set_row h.server.rows c f.lane (row f.serial on.1.0)) [
      | inl stays ↦ inl (ap (λ rows. slice_index_or rows c helper.idle) on.1.1 ∙ stays)
      | inr set ↦
          let at : row_at h.server f.lane ≡ row_at h.server c = ap (row_at h.server) set.0 in
          let serial : f.serial ≡ (row_at h.server c).serial = sym on.0 ∙ ap (λ (r : Row). r.serial) at in
          inr (record {
            command = f;
            read = read;
            next = next;
            lane = set.0;
            serial = serial;
            stage = on.1.0;
            is = ap (λ rows. slice_index_or rows c helper.idle) on.1.1 ∙ set.1 ∙ ap (λ s. row s on.1.0) serial;
            goes = subst (λ (r : Row). HelperGoesTo h.server f.body r.stage on.1.0) at on.1.2;
          })
    ]
  ]

  arrived : PlainFrame → Bool → Bool → Bool → LinkTurn
  arrived f next before kept =
      cond next (carried_with h f (carries_out h.server f)) (cond before (cond kept (record { helper = h; answer = Repeated (kept_for h f.link) }) (record { helper = h; answer = Ignored })) (record { helper = h; answer = Ignored }))

  arrived_goes : (f : PlainFrame) → linked is_command h.server.settings.width bytes ≡ Some f → (next before kept : Bool)
      → nat_eq f.link (h.carried + 1) ≡ next → Goes (arrived f next before kept).helper
  unfolding arrived
  arrived_goes f read true before kept e = next_goes f read (eqb-true _ _ e)
  arrived_goes f read false true true e = inl refl
  arrived_goes f read false true false e = inl refl
  arrived_goes f read false false kept e = inl refl

  found_goes : (found : Option PlainFrame) → linked is_command h.server.settings.width bytes ≡ found → Goes (if_command h found).helper
  unfolding if_command arrives arrived
  found_goes (Some f) read =
      arrived_goes f read (nat_eq f.link (h.carried + 1)) (nat_le f.link h.carried) (nat_le (h.carried + 1) (f.link + length h.replies)) refl
  found_goes None read = inl refl

pub helper_goes_on : HelperGoesOn
helper_goes_on h bytes c = found_goes h bytes c (linked is_command h.server.settings.width bytes) refl
