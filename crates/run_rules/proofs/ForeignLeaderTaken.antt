-- What the leader issues a command for: a submission of a later request than its row's, or the proof of the row's
-- request where that is challenged.
use Rattle.std.proofs.Common.{◌≡◌, ℕ, ◌<◌, ◌+◌, ◌-◌, ◌^◌, cond, nat_eq, nat_lt, nat_le, true, false, Bool, List, [], ◌∷◌, ◌++◌, length, Option, Some, None, Ok, slice_get, slice_set, refl, sym, ap, ◌∙◌, subst, arith}
use Rattle.std.proofs.lemmas.Bool.{eqb-true, eqb-false, leb-false, ltb-false}
use Rattle.express_words.specs.declared.audit.ProofShare.{ProofShare}
use Rattle.express_words.specs.declared.refusal.Refusal.TheVariants as refusal
use Rattle.frame_rules.specs.Frames as frame
use Rattle.frame_rules.specs.Frames.{PlainFrame, PlainBody}
use Rattle.frame_rules.specs.Whole.{whole, on_link, has_width}
use Rattle.lane_table.specs.Gates.{opening_gate, closing_gate, same_want}
use Rattle.lane_table.specs.declared.gate.Gate.TheVariants.{New, Same, Stale, Phase}
use Rattle.lane_table.specs.declared.row.Want.TheVariants as want
use Rattle.mailbox_rules.specs.Requests.{Command, Registers, Begins, Audits, Reads, Retires}
use Rattle.audit_rules.specs.Values.{opens}
use Rattle.step_rules.specs.Boxes.{Box}
use Rattle.step_rules.specs.Leader as leader
use Rattle.step_rules.specs.Leader.{Leader, Row, Stage, Asked, Registering, Writing, Reading, Retiring, Turn, row_at, phase_of, want_in, want_of}
use Rattle.step_rules.specs.LeaderClients as steps
use Rattle.step_tokens.specs.Commands.{command_of}

-- the command that is issued for a client's frame
abbrev pub command_for : PlainBody → Command
command_for (frame.Register address key) = Registers
command_for (frame.Write root part) = Begins
command_for (frame.Retire number held) = Retires
command_for (frame.Proof share) = Audits
command_for body = Reads

abbrev pub IsChallenged : Stage → Type 0
IsChallenged (leader.Challenged held kept) = Unit {0}
IsChallenged stage = ⊥

-- where the row issues one
abbrev pub MayIssue : Row → ℕ → PlainBody → Type 0
MayIssue r s (frame.Register address key) = r.serial < s
MayIssue r s (frame.Write root part) = r.serial < s
MayIssue r s (frame.Read number held) = r.serial < s
MayIssue r s (frame.Retire number held) = r.serial < s
MayIssue r s (frame.Proof share) = (s ≡ r.serial) × IsChallenged r.stage
MayIssue r s body = ⊥

-- the command that is issued, and the leader that is left
pub record IsIssuedFor (a : Leader) (g command : PlainFrame) (after : Leader) : Type 0 where
  pub low : g.lane < a.settings.lanes
  pub may : MayIssue (row_at a g.lane) g.serial g.body
  pub outstanding : after.outstanding ≡ a.outstanding ++ command ∷ []
  pub lane : command.lane ≡ g.lane
  pub serial : command.serial ≡ g.serial
  pub kind : command_of command.body ≡ command_for g.body
  pub row : Row
  pub rows : after.rows ≡ slice_set a.rows g.lane row
  pub at : row.serial ≡ g.serial
  pub room : nat_le a.settings.window (length a.outstanding) ≡ false
  pub sized : has_width a.settings.width g.body ≡ true

record Appends (a : Leader) (g : PlainFrame) (y : Command) (command : PlainFrame) (after : Leader) : Type 0 where
  outstanding : after.outstanding ≡ a.outstanding ++ command ∷ []
  lane : command.lane ≡ g.lane
  serial : command.serial ≡ g.serial
  kind : command_of command.body ≡ y
  row : Row
  rows : after.rows ≡ slice_set a.rows g.lane row
  at : row.serial ≡ g.serial

module _ (a : Leader) (g : PlainFrame) where
  abbrev c : ℕ
  c = g.lane

  abbrev s : ℕ
  s = g.serial

  abbrev r : Row
  r = row_at a g.lane

  -- of what the turn issues
  abbrev Only : (PlainFrame → Leader → Type 0) → Turn → Type 0
  Only p t = (n : ℕ) (command : PlainFrame) → t.answer ≡ leader.Link n command → p command t.leader

  says_none : (p : PlainFrame → Leader → Type 0) (body : PlainBody) → Only p (leader.says a g body)
  says_none p body n command e = absurd (cc e)

  waits_none : (p : PlainFrame → Leader → Type 0) (number : ℕ) → Only p (leader.turn a (leader.StillWaiting number))
  waits_none p number n command e = absurd (cc e)

  issues_one : (before : Leader) → before.outstanding ≡ a.outstanding → before.rows ≡ a.rows → (body : PlainBody) (stage : Stage)
      → Only (Appends a g (command_of body)) (steps.issues before g body stage)
  issues_one before same rows body stage n command e =
      let is : on_link g before.next body ≡ command = cc e in
      let one : Appends a g (command_of body) (on_link g before.next body) (steps.issues before g body stage).leader =
      record { outstanding = ap (λ xs. xs ++ on_link g before.next body ∷ []) same; lane = refl; serial = refl; kind = refl; row = leader.row s stage; rows = ap (λ xs. slice_set xs c (leader.row s stage)) rows; at = refl } in
      subst (λ command. Appends a g (command_of body) command (steps.issues before g body stage).leader) is one

  abbrev HasRoom : Type 0
  HasRoom = nat_le a.settings.window (length a.outstanding) ≡ false

  if_room_one : (p : PlainFrame → Leader → Type 0) (t : Turn) → (HasRoom → Only p t) → Only p (steps.if_room a g t)
  if_room_one p t one = by_tests (nat_lt (2 ^ 64 - 65) a.next) (nat_le a.settings.window (length a.outstanding)) refl
    where
      by_tests : (x y : Bool) → nat_le a.settings.window (length a.outstanding) ≡ y → Only p (cond x (leader.refuses a g (refusal.Again 0)) (cond y (leader.refuses a g (refusal.Again (steps.oldest a))) t))
      by_tests true y e = says_none p _
      by_tests false true e = says_none p _
      by_tests false false e = one e

  -- ---- submissions

  abbrev command_asked : Asked → Command
  command_asked (Registering address key) = Registers
  command_asked (Writing root part drawn) = Begins
  command_asked (Reading number) = Reads
  command_asked (Retiring number) = Retires

  issued_one : (asked : Asked) → Only (Appends a g (command_asked asked)) (steps.issued_for a g asked)
  unfolding steps.issued_for
  issued_one (Registering address key) = issues_one a refl refl (frame.LinkRegister address) _
  issued_one (Writing root part drawn) = issues_one (record a { draws = a.draws + 1 }) refl refl (frame.LinkBegin drawn part) _
  issued_one (Reading number) = issues_one a refl refl (frame.LinkRead number) _
  issued_one (Retiring number) = issues_one a refl refl (frame.LinkRetire number) _

  named_one : (p : PlainFrame → Leader → Type 0) (named : Option steps.Named) (t : Turn) → Only p t → Only p (steps.if_named a g named t)
  unfolding steps.if_named steps.if_token
  named_one p None t one = one
  named_one p (Some m) t one = by_box (slice_get a.boxes m.number)
    where
      by_token : (x : Bool) → Only p (cond x t (leader.refuses a g (refusal.BadToken m.number)))
      by_token true = one
      by_token false = says_none p _

      by_box : (found : Option Box) → Only p (steps.if_token a g m.number m.held found t)
      by_box None = says_none p _
      by_box (Some box) = by_token _

  abbrev Opened : Command → PlainFrame → Leader → Type 0
  Opened y command after = (c < a.settings.lanes) × (HasRoom × ((r.serial < s) × Appends a g y command after))

  again_none : (p : PlainFrame → Leader → Type 0) (stage : Stage) → Only p (steps.again_at a g stage)
  unfolding steps.again_at
  again_none p leader.Idle = says_none p _
  again_none p (leader.Waiting number asked) = waits_none p number
  again_none p (leader.Auditing number held share sigma opened) = waits_none p number
  again_none p (leader.Settling number held own other) = waits_none p number
  again_none p (leader.Challenged held kept) = says_none p _
  again_none p (leader.Done asked kept) = says_none p _

  new_one : (asked : Asked) (named : Option steps.Named) (stage : Stage) → c < a.settings.lanes → r.serial < s
      → Only (Opened (command_asked asked)) (steps.new_at a g asked named stage)
  unfolding steps.new_at
  new_one asked named stage low later = at_stage stage
    where
      p : PlainFrame → Leader → Type 0
      p = Opened (command_asked asked)

      one : Only p (steps.if_named a g named (steps.if_room a g (steps.issued_for a g asked)))
      one = named_one p named _ (if_room_one p (steps.issued_for a g asked) (λ room n command e. (low, (room, (later, issued_one asked n command e)))))

      at_stage : (stage : Stage) → Only p (steps.new_at a g asked named stage)
      at_stage (leader.Waiting number other) = says_none p _
      at_stage (leader.Auditing number held share sigma opened) = says_none p _
      at_stage (leader.Settling number held own other) = says_none p _
      at_stage leader.Idle = one
      at_stage (leader.Challenged held kept) = one
      at_stage (leader.Done asked kept) = one

  opens_one : (asked : Asked) (named : Option steps.Named) (less same wanted : Bool) → c < a.settings.lanes
      → (less ≡ false → same ≡ false → r.serial < s)
      → Only (Opened (command_asked asked)) (steps.submission_at a g asked named (cond less (Stale r.serial) (cond same (cond wanted Same (Phase (phase_of r.stage))) New)))
  unfolding steps.submission_at
  opens_one asked named true same wanted low later = says_none (Opened (command_asked asked)) _
  opens_one asked named false true true low later = again_none (Opened (command_asked asked)) r.stage
  opens_one asked named false true false low later = says_none (Opened (command_asked asked)) _
  opens_one asked named false false wanted low later = new_one asked named r.stage low (later refl refl)

  submission_one : (asked : Asked) (named : Option steps.Named) → Only (Opened (command_asked asked)) (steps.on_submission a g asked named)
  unfolding steps.on_submission opening_gate
  submission_one asked named = at_lane (nat_le a.settings.lanes c) refl
    where
      at_lane : (x : Bool) → nat_le a.settings.lanes c ≡ x
          → Only (Opened (command_asked asked)) (cond x (leader.refuses a g (refusal.Lane a.settings.lanes)) (steps.submission_at a g asked named (cond (nat_lt s r.serial) (Stale r.serial) (cond (nat_eq s r.serial) (cond (same_want (want_in asked) (want_of r.stage)) Same (Phase (phase_of r.stage))) New))))
      at_lane true e = says_none (Opened (command_asked asked)) _
      at_lane false e =
          let l = leb-false _ _ e in
          opens_one asked named (nat_lt s r.serial) (nat_eq s r.serial) _ (omega (arith, l))
          (λ x y. let l = ltb-false _ _ x in let n = eqb-false _ _ y in omega (arith, l, n))

  -- ---- proofs

  abbrev Closed : PlainFrame → Leader → Type 0
  Closed command after = (c < a.settings.lanes) × (HasRoom × (((s ≡ r.serial) × IsChallenged r.stage) × Appends a g Audits command after))

  proof_stage : (share : ProofShare) (stage : Stage) → r.stage ≡ stage → c < a.settings.lanes → s ≡ r.serial
      → Only Closed (steps.proof_in a g share stage)
  unfolding steps.proof_in
  proof_stage share leader.Idle is low same = says_none Closed _
  proof_stage share (leader.Waiting number asked) is low same = says_none Closed _
  proof_stage share (leader.Auditing number held before sigma opened) is low same = waits_none Closed number
  proof_stage share (leader.Settling number held own other) is low same = waits_none Closed number
  proof_stage share (leader.Done asked kept) is low same = says_none Closed _
  proof_stage share (leader.Challenged held kept) is low same =
      if_room_one Closed (steps.audits a g held share) (λ room n command e. (
        low,
        (
          room,
          (
            (same, subst IsChallenged (sym is) tt),
            issues_one (record a { draws = a.draws + 1 }) refl refl
                (frame.LinkAudit (steps.sigma a) (opens 0 held (steps.counted a held) share (steps.sigma a)))
                (leader.Auditing a.next held share (steps.sigma a) (opens 0 held (steps.counted a held) share (steps.sigma a))) n command e,
          ),
        ),
      ))

  proof_gate : (share : ProofShare) (same wanted : Bool) → c < a.settings.lanes → (same ≡ true → s ≡ r.serial)
      → Only Closed (steps.proof_at a g share (cond same (cond wanted Same (Phase (phase_of r.stage))) (Stale r.serial)))
  unfolding steps.proof_at
  proof_gate share false wanted low is = says_none Closed _
  proof_gate share true false low is = says_none Closed _
  proof_gate share true true low is = proof_stage share r.stage refl low (is refl)

  proof_one : (share : ProofShare) → Only Closed (steps.on_proof a g share)
  unfolding steps.on_proof closing_gate
  proof_one share = at_lane (nat_le a.settings.lanes c) refl
    where
      at_lane : (x : Bool) → nat_le a.settings.lanes c ≡ x
          → Only Closed (cond x (leader.refuses a g (refusal.Lane a.settings.lanes)) (steps.proof_at a g share (cond (nat_eq s r.serial) (cond (same_want want.Write (want_of r.stage)) Same (Phase (phase_of r.stage))) (Stale r.serial))))
      at_lane true e = says_none Closed _
      at_lane false e = let l = leb-false _ _ e in proof_gate share (nat_eq s r.serial) _ (omega (arith, l)) (λ x. eqb-true s r.serial x)

  -- ---- any frame

  abbrev For : PlainBody → PlainFrame → Leader → Type 0
  For body command after = (has_width a.settings.width body ≡ true) × ((c < a.settings.lanes) × (HasRoom × (MayIssue r s body × Appends a g (command_for body) command after)))

  kind_one : (body : PlainBody) → Only (For body) (steps.by_kind a g body)
  unfolding steps.by_kind
  kind_one (frame.Register address key) = λ n command e. (refl, submission_one (Registering address key) None n command e)
  kind_one (frame.Write root part) = by_width (has_width a.settings.width (frame.Write root part)) refl
    where
      by_width : (x : Bool) → has_width a.settings.width (frame.Write root part) ≡ x → Only (For (frame.Write root part)) (cond x (steps.on_submission a g (Writing root part (steps.draw a)) None) (leader.refuses_bytes a (refusal.Malformed 0)))
      by_width true t = λ n command e. (t, submission_one (Writing root part (steps.draw a)) None n command e)
      by_width false t = λ n command e. absurd (cc e)
  kind_one (frame.Read number held) = λ n command e. (refl, submission_one (Reading number) (Some (record { number = number; held = held })) n command e)
  kind_one (frame.Retire number held) = λ n command e. (refl, submission_one (Retiring number) (Some (record { number = number; held = held })) n command e)
  kind_one (frame.Proof share) = λ n command e. (refl, proof_one share n command e)
  kind_one body = λ n command e. absurd (cc e)

-- whatever the leader issues a command for
pub issued_for_frame : (a : Leader) (bytes : List ℕ) (g : PlainFrame) (n : ℕ) (command : PlainFrame) → whole bytes ≡ Ok g
    → (steps.on_client a bytes).answer ≡ leader.Link n command → IsIssuedFor a g command (steps.on_client a bytes).leader
unfolding steps.on_whole
issued_for_frame a bytes g n command read e =
    let turn_is : steps.on_client a bytes ≡ steps.by_kind a g g.body = ap (steps.on_whole a) read in
    let all = kind_one a g g.body n command (sym (ap (λ (t : Turn). t.answer) turn_is) ∙ e) in
    let h = all.1 in
    let x = h.1.1.1 in
    record {
      sized = all.0;
      low = h.0;
      room = h.1.0;
      may = h.1.1.0;
      outstanding = ap (λ (t : Turn). t.leader.outstanding) turn_is ∙ x.outstanding;
      lane = x.lane;
      serial = x.serial;
      kind = x.kind;
      row = x.row;
      rows = ap (λ (t : Turn). t.leader.rows) turn_is ∙ x.rows;
      at = x.at;
    }
