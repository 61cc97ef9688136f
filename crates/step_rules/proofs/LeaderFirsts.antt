-- How the leader's rows go on at replies of the helper: what a request's first frames left stands.
use Rattle.std.specs.Prelude.{◌≡◌, ℕ, ◌≤◌, ◌&&◌, ◌⊎◌, Bool, true, false, cond, nat_le, nat_eq, not, is_none, refl, List, [], ◌∷◌, length, Option, Some, None, slice_get, slice_set, slice_index_or}
use Rattle.std.proofs.Common.{ap, sym, subst, ◌∙◌, arith, inl, inr, zero, suc}
use Rattle.std.proofs.lemmas.Bool.{cases_eq, cases_lt}
use Rattle.std.proofs.lemmas.List.{get_or-set_same, get_or-set_other}
use Rattle.express_words.specs.declared.audit.Openings.{Openings}
use Rattle.express_words.specs.declared.audit.Closing.{Closing}
use Rattle.express_words.specs.declared.refusal.Refusal.{Refusal}
use Rattle.frame_rules.specs.Frames as frame
use Rattle.frame_rules.specs.Frames.{PlainFrame, PlainBody}
use Rattle.frame_rules.specs.Whole.{linked, is_reply}
use Rattle.audit_rules.specs.Audit.{accepts}
use Rattle.audit_rules.specs.Values.{Write, ckey_of}
use Rattle.step_rules.specs.Boxes.{Box, place_of}
use Rattle.step_rules.specs.Leader.{Leader, Registering, Writing, Row, Stage, Waiting, Challenged, Auditing, Settling, Done, row, row_at, idle, AckTurn}
use Rattle.step_rules.specs.LeaderReplies as replies
use Rattle.step_rules.specs.LeaderReplies.{registered, began, audited, accepted, rejected, read, by_command, registered_in, if_registered, if_begun, if_audited, if_settled, if_read, fits, refusal_in, want_for, if_fits, answers, if_reply}
use Rattle.step_rules.specs.Firsts.{LeaderGoesTo, LeaderWentOn, LeaderGoesOn}

past_set : (xs : List Row) (c : ℕ) (r : Row) → length xs ≤ c → slice_set xs c r ≡ xs
past_set [] c r h = refl
past_set (x ∷ xs) zero r h = absurd (omega (arith, h))
past_set (x ∷ xs) (suc c) r h = ap (λ l. x ∷ l) (past_set xs c r (omega (arith, h)))

set_row : (xs : List Row) (c d : ℕ) (r : Row) → (slice_index_or (slice_set xs d r) c idle ≡ slice_index_or xs c idle)
    ⊎ ((d ≡ c) × (slice_index_or (slice_set xs d r) c idle ≡ r))
set_row xs c d r = elim (cases_eq c d) [
  | inl same ↦ elim (cases_lt d (length xs)) [
    | inl low ↦ inr (sym same, ap (λ n. slice_index_or (slice_set xs d r) n idle) same ∙ get_or-set_same xs d r idle low)
    | inr high ↦ inl (ap (λ l. slice_index_or l c idle) (past_set xs d r high))
  ]
  | inr other ↦ inl (get_or-set_other xs d c r idle other)
]

module _ (a : Leader) (c : PlainFrame) where
  -- the rows after the reply to command c, whose row is at this stage: it goes on
  abbrev After : Stage → AckTurn → Type 0
  After stage t =
      (t.leader.draws ≡ a.draws)
      × ((next : Stage) × (t.leader.rows ≡ slice_set a.rows c.lane (row c.serial next)) × LeaderGoesTo stage next)

  abbrev Fits : Stage → Option AckTurn → Type 0
  Fits stage found = (t : AckTurn) → found ≡ Some t → After stage t

  none_fits : (stage : Stage) → Fits stage None
  none_fits stage t e = absurd (cc e)

  some_fits : (stage : Stage) (x : AckTurn) → After stage x → Fits stage (Some x)
  some_fits stage x after t e = let same : x ≡ t = cc in subst (After stage) same after

  either : (stage : Stage) (b : Bool) (x y : Option AckTurn) → Fits stage x → Fits stage y → Fits stage (cond b x y)
  either stage true x y p q = p
  either stage false x y p q = q

  registers : (address : ℕ) (stage : Stage) (found : Option ℕ) → Fits stage (if_registered a c address stage found)
  unfolding registered
  registers address (Waiting number (Registering own key)) (Some n) =
      let stage : Stage = Waiting number (Registering own key) in
      either stage ((nat_eq n (length a.boxes)) && (is_none (place_of address a.boxes) && not (nat_le a.settings.boxes (length a.boxes)))) _ _
      (some_fits stage _ (refl, (Done _ _, refl, tt))) (none_fits stage)
  registers address stage (Some n) = none_fits stage
  registers address stage None = none_fits stage

  begins : (stage : Stage) (count : ℕ) (drawn : List ℕ) → Fits stage (began a c stage count drawn)
  unfolding began
  begins (Waiting number (Writing root part own)) count drawn =
      let stage : Stage = Waiting number (Writing root part own) in
      let w : Write = replies.begun root part (ckey_of own drawn) count in
      let on : After stage (replies.challenges a c w) = (refl, (Challenged w (frame.Challenge w.ckey), refl, (refl, refl))) in
      either stage (nat_eq count (length a.boxes)) _ _ (some_fits stage (replies.challenges a c w) on) (none_fits stage)
  begins stage count drawn = none_fits stage

  audits_it : (stage : Stage) (opened : Openings) (closed : Closing) → Fits stage (audited a c stage opened closed)
  unfolding audited
  audits_it (Auditing number w share sigma own) opened closed =
      let mine = replies.own_closing share sigma own opened in
      let next : Stage = Settling a.next w mine closed in
      let turn : AckTurn = replies.settles a c (frame.LinkSettle mine) next in
      let on : After (Auditing number w share sigma own) turn = (refl, (next, refl, (refl, (opened, refl)))) in
      some_fits (Auditing number w share sigma own) turn on
  audits_it stage opened closed = none_fits stage

  accepts_it : (stage : Stage) → Fits stage (accepted a c stage)
  unfolding accepted
  accepts_it (Settling number w own other) =
      either (Settling number w own other) (accepts own other) _ _ (some_fits (Settling number w own other) _ (refl, (Done _ _, refl, tt))) (none_fits (Settling number w own other))
  accepts_it stage = none_fits stage

  rejects_it : (stage : Stage) → Fits stage (rejected a c stage)
  unfolding rejected
  rejects_it (Settling number w own other) =
      either (Settling number w own other) (accepts own other) _ _ (none_fits (Settling number w own other)) (some_fits (Settling number w own other) _ (refl, (Done _ _, refl, tt)))
  rejects_it stage = none_fits stage

  reads_it : (stage : Stage) (stays : Bool) (number : ℕ) (found : Option Box) (share : List ℕ) → Fits stage (read a c stays number found share)
  unfolding read
  reads_it stage stays number None share = none_fits stage
  reads_it stage stays number (Some box) share = some_fits stage _ (refl, (Done _ _, refl, tt))

  begun_fits : (stage : Stage) (body : PlainBody) → Fits stage (if_begun a c stage body)
  begun_fits stage (frame.LinkBegun count drawn) = begins stage count drawn
  begun_fits stage body = none_fits stage

  audited_fits : (stage : Stage) (body : PlainBody) → Fits stage (if_audited a c stage body)
  audited_fits stage (frame.LinkReply (frame.ReplyAudited opened closed)) = audits_it stage opened closed
  audited_fits stage body = none_fits stage

  settled_fits : (stage : Stage) (body : PlainBody) → Fits stage (if_settled a c stage body)
  settled_fits stage (frame.LinkReply frame.ReplyAccepted) = accepts_it stage
  settled_fits stage (frame.LinkReply frame.ReplyRejected) = rejects_it stage
  settled_fits stage body = none_fits stage

  read_fits : (stage : Stage) (stays : Bool) (number : ℕ) (body : PlainBody) → Fits stage (if_read a c stays number body)
  read_fits stage stays number (frame.LinkReply (frame.ReplyMasked share)) = reads_it stage stays number (slice_get a.boxes number) share
  read_fits stage stays number body = none_fits stage

  commands : (command : PlainBody) (stage : Stage) (body : PlainBody) → Fits stage (by_command a c command stage body)
  unfolding by_command
  commands (frame.LinkRegister address) stage body = registers address stage (registered_in body)
  commands (frame.LinkBegin drawn part) stage body = begun_fits stage body
  commands (frame.LinkAudit sigma opened) stage body = audited_fits stage body
  commands (frame.LinkSettle own) stage body = settled_fits stage body
  commands (frame.LinkRead number) stage body = read_fits stage true number body
  commands (frame.LinkRetire number) stage body = read_fits stage false number body
  commands command stage body = none_fits stage

  all_fits : (body : PlainBody) (why : Option Refusal) → Fits (row_at a c.lane).stage (fits a c body why)
  unfolding fits
  all_fits body (Some why) = some_fits (row_at a c.lane).stage _ (refl, (Done _ _, refl, tt))
  all_fits body None = commands c.body (row_at a c.lane).stage body

-- ---- what fits, and what is ignored

module _ (a : Leader) (d : ℕ) where
  abbrev Goes : Leader → Type 0
  Goes after =
      (after.draws ≡ a.draws) × ((row_at after d ≡ row_at a d) ⊎ LeaderWentOn a d (row_at a d) (row_at after d))

  stays : Goes a
  stays = (refl, inl refl)

  fitted : (c : PlainFrame) → slice_get a.outstanding 0 ≡ Some c → (found : Option AckTurn) → Fits a c (row_at a c.lane).stage found → Goes (if_fits a found).leader
  fitted c oldest None fit = stays
  fitted c oldest (Some t) fit =
      let after = fit t refl in
      let on = after.1 in (
        after.0,
        elim (set_row a.rows d c.lane (row c.serial on.0)) [
          | inl same ↦ inl (ap (λ rows. slice_index_or rows d idle) on.1 ∙ same)
          | inr set ↦
              let at : row_at a c.lane ≡ row_at a d = ap (row_at a) set.0 in
              inr (record {
                command = c;
                oldest = oldest;
                lane = set.0;
                stage = on.0;
                is = ap (λ rows. slice_index_or rows d idle) on.1 ∙ set.1;
                goes = subst (λ (r : Row). LeaderGoesTo r.stage on.0) at on.2;
              })
        ],
      )

  goes_either : (b : Bool) (x y : AckTurn) → Goes x.leader → Goes y.leader → Goes (cond b x y).leader
  goes_either true x y p q = p
  goes_either false x y p q = q

  oldest_goes : (f : PlainFrame) (oldest : Option PlainFrame) → slice_get a.outstanding 0 ≡ oldest → Goes (answers a f oldest).leader
  unfolding answers
  oldest_goes f None is = stays
  oldest_goes f (Some c) is =
      goes_either ((nat_eq f.link c.link) && ((nat_eq f.lane c.lane) && (nat_eq f.serial c.serial))) _ _
      (fitted c is (fits a c f.body (refusal_in f.body)) (all_fits a c f.body (refusal_in f.body))) stays

  found_goes : (found : Option PlainFrame) → Goes (if_reply a found).leader
  unfolding if_reply
  found_goes (Some f) = oldest_goes f (slice_get a.outstanding 0) refl
  found_goes None = stays

pub leader_goes_on : LeaderGoesOn
leader_goes_on a bytes c = found_goes a c (linked is_reply a.settings.width bytes)
