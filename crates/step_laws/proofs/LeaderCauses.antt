-- Each answer of the leader to a client has its cause.
use Rattle.std.specs.Prelude.{◌≡◌, ◌⊎◌, ℕ, ◌<◌, ◌≤◌, ◌-◌, ◌^◌, Bool, true, false, cond, nat_le, nat_lt, nat_eq, refl, List, length, Option, Some, None, Result, Ok, Err, slice_get}
use Rattle.std.proofs.Common.{sym, subst, ap, inl, inr, ◌∙◌, arith}
use Rattle.std.proofs.lemmas.Bool.{cond_both, eqb-true, eqb-false, leb-true, leb-false, ltb-true, ltb-false}
use Rattle.express_words.specs.declared.audit.ProofShare.{ProofShare}
use Rattle.express_words.specs.declared.refusal.Refusal.{Refusal}
use Rattle.express_words.specs.declared.refusal.Refusal.TheVariants as refusal
use Rattle.frame_rules.specs.Frames as frame
use Rattle.frame_rules.specs.Frames.{PlainFrame, PlainBody}
use Rattle.frame_rules.specs.Whole.{answer, has_width, refused_bytes, whole}
use Rattle.lane_table.specs.Gates.{opening_gate, closing_gate, same_want}
use Rattle.lane_table.specs.declared.row.Want.TheVariants as want
use Rattle.lane_table.specs.declared.gate.Gate.TheVariants.{New, Same, Stale, Phase}
use Rattle.dpf_rules.specs.Expansion.{token}
use Rattle.step_rules.specs.Boxes.{Box}
use Rattle.step_rules.specs.Leader.{Leader, Asked, Registering, Writing, Reading, Retiring, Row, Stage, Idle, Waiting, Challenged, Auditing, Settling, Done, Reply, row_at, phase_of, want_in, want_of, Turn, refuses, says}
use Rattle.step_rules.specs.LeaderClients.{Named, draw, if_room, issued_for, if_token, if_named, new_at, again_at, submission_at, on_submission, audits, proof_in, proof_at, on_proof, by_kind, on_whole, oldest}
use Rattle.step_laws.specs.Causes as cause
use Rattle.step_laws.specs.Causes.{AnswersBytes, AnswersIf, AnswersTaken, IsCause, IsEarly, IsStale, Keeps, LeaderAnswers, Names, WaitsFor, is_busy, is_taken, wrong_at}

module _ (a : Leader) (f : PlainFrame) where
  abbrev r : Row
  r = row_at a f.lane

  abbrev Good : Turn → Type 0
  Good t = AnswersTaken a f t.answer

  refused : (why : Refusal) → IsCause a f why → Good (refuses a f why)
  refused why because = (refl, inr (why, refl, because))

  kept : (body : PlainBody) → f.serial ≡ r.serial → Keeps r.stage body → Good (says a f body)
  kept body same h = (refl, inl (same, h))

  roomed : (issued : Turn) → (a.next ≤ 2 ^ 64 - 65 → length a.outstanding < a.settings.window → Good issued) → Good (if_room a f issued)
  roomed issued good =
      cond_both {A = Turn} (nat_lt (2 ^ 64 - 65) a.next) _ _ Good (λ e. refused (refusal.Again 0) (inl (ltb-true _ _ e, refl)))
      (λ e. cond_both {A = Turn} (nat_le a.settings.window (length a.outstanding)) _ _ Good
      (λ u. refused (refusal.Again (oldest a)) (inr (leb-true _ _ u, refl))) (λ u. good (ltb-false _ _ e) (leb-false _ _ u)))

  -- ---- submissions

  issued : (asked : Asked) → a.next ≤ 2 ^ 64 - 65 → length a.outstanding < a.settings.window → Good (issued_for a f asked)
  unfolding issued_for
  issued (Registering address key) few room = (refl, few, room)
  issued (Writing root part drawn) few room = (refl, few, room)
  issued (Reading number) few room = (refl, few, room)
  issued (Retiring number) few room = (refl, few, room)

  NamedBy : Option Named → Type 0
  NamedBy None = Unit {0}
  NamedBy (Some n) = Names f.body n.number n.held

  tokened : (n : Named) (found : Option Box) (t : Turn) → Names f.body n.number n.held → slice_get a.boxes n.number ≡ found → Good t
      → Good (if_token a f n.number n.held found t)
  unfolding if_token
  tokened n None t named is good = refused (refusal.NoBox n.number) (n.held, named, is)
  tokened n (Some box) t named is good =
      cond_both {A = Turn} (nat_eq n.held (token box.key f.lane f.serial)) _ _ Good (λ e. good)
      (λ e. refused (refusal.BadToken n.number) (record { held = n.held; named = named; box = box; is = is; other = eqb-false _ _ e }))

  named_good : (named : Option Named) (t : Turn) → NamedBy named → Good t → Good (if_named a f named t)
  unfolding if_named NamedBy
  named_good None t named good = good
  named_good (Some n) t named good = tokened n (slice_get a.boxes n.number) t named refl good

  -- a later request meets a busy row
  is_out : (stage : Stage) → r.stage ≡ stage → r.serial < f.serial → is_busy stage ≡ true → Good (refuses a f (refusal.Phase (phase_of stage)))
  is_out stage is later busy =
      refused (refusal.Phase (phase_of stage)) (ap phase_of (sym is), inr (later, ap is_busy is ∙ busy))

  new_good : (asked : Asked) (named : Option Named) (stage : Stage) → r.stage ≡ stage → NamedBy named → r.serial < f.serial → Good (new_at a f asked named stage)
  unfolding new_at
  new_good asked named (Waiting number other) is box later = is_out (Waiting number other) is later refl
  new_good asked named (Auditing number w share sigma opened) is box later = is_out (Auditing number w share sigma opened) is later refl
  new_good asked named (Settling number w own other) is box later = is_out (Settling number w own other) is later refl
  new_good asked named Idle is box later = named_good named _ box (roomed _ (issued asked))
  new_good asked named (Challenged w kept) is box later = named_good named _ box (roomed _ (issued asked))
  new_good asked named (Done want kept) is box later = named_good named _ box (roomed _ (issued asked))

  is_early : (stage : Stage) → r.stage ≡ stage → f.serial ≡ r.serial → IsEarly stage f.body → Good (refuses a f (refusal.Phase (phase_of stage)))
  is_early stage is same early =
      refused (refusal.Phase (phase_of stage)) (ap phase_of (sym is), inl (same, inr (subst (λ s. IsEarly s f.body) (sym is) early)))

  waits : (stage : Stage) (number : ℕ) → r.stage ≡ stage → WaitsFor stage number → WaitsFor r.stage number
  waits stage number is h = subst (λ s. WaitsFor s number) (sym is) h

  keeps : (stage : Stage) (body : PlainBody) → r.stage ≡ stage → Keeps stage body → Keeps r.stage body
  keeps stage body is h = subst (λ s. Keeps s body) (sym is) h

  again_good : (stage : Stage) → r.stage ≡ stage → f.serial ≡ r.serial → Good (again_at a f stage)
  unfolding again_at
  again_good Idle is same = is_early Idle is same tt
  again_good (Waiting number asked) is same = (same, waits (Waiting number asked) number is refl)
  again_good (Auditing number w share sigma opened) is same = (same, waits (Auditing number w share sigma opened) number is refl)
  again_good (Settling number w own other) is same = (same, waits (Settling number w own other) number is refl)
  again_good (Challenged w kept_body) is same = kept kept_body same (keeps (Challenged w kept_body) kept_body is refl)
  again_good (Done want kept_body) is same = kept kept_body same (keeps (Done want kept_body) kept_body is refl)

  -- what a frame's body says of its kind
  record Fits (asked : Asked) (named : Option Named) : Type 0 where
    wants : cause.want_of f.body ≡ want_in asked
    stale : f.serial < r.serial → IsStale f.body f.serial r.serial
    box : NamedBy named

  gated : (asked : Asked) (named : Option Named) → Fits asked named → (less same wanted : Bool) → (less ≡ true → f.serial < r.serial)
      → (same ≡ true → f.serial ≡ r.serial) → (wanted ≡ false → same_want (want_in asked) (want_of r.stage) ≡ false) → (less ≡ false → same ≡ false → r.serial < f.serial)
      → Good (submission_at a f asked named (cond less (Stale r.serial) (cond same (cond wanted Same (Phase (phase_of r.stage))) New)))
  unfolding submission_at
  gated asked named fits true same wanted old own other later = refused (refusal.Stale r.serial) (refl, fits.stale (old refl))
  gated asked named fits false true true old own other later = again_good r.stage refl (own refl)
  gated asked named fits false true false old own other later =
      refused (refusal.Phase (phase_of r.stage)) (refl, inl (own refl, inl (ap (λ w. same_want w (want_of r.stage)) fits.wants ∙ other refl)))
  gated asked named fits false false wanted old own other later = new_good asked named r.stage refl fits.box (later refl refl)

  submitted : (asked : Asked) (named : Option Named) → Fits asked named → Good (on_submission a f asked named)
  unfolding on_submission opening_gate
  submitted asked named fits =
      cond_both {A = Turn} (nat_le a.settings.lanes f.lane) _ _ Good (λ e. refused (refusal.Lane a.settings.lanes) (refl, leb-true _ _ e))
      (λ e. gated asked named fits (nat_lt f.serial r.serial) (nat_eq f.serial r.serial) (same_want (want_in asked) (want_of r.stage))
      (λ x. ltb-true _ _ x) (λ x. eqb-true _ _ x) (λ x. x)
      (λ x y. let l = ltb-false _ _ x in let n = eqb-false _ _ y in omega (arith, l, n)))

  -- ---- proofs

  proof_stage : (share : ProofShare) (stage : Stage) → f.body ≡ frame.Proof share → r.stage ≡ stage → f.serial ≡ r.serial → Good (proof_in a f share stage)
  unfolding proof_in
  proof_stage share Idle body is same = is_early Idle is same tt
  proof_stage share (Waiting number asked) body is same =
      is_early (Waiting number asked) is same (subst (IsEarly (Waiting number asked)) (sym body) tt)
  proof_stage share (Auditing number w before sigma opened) body is same = (same, waits (Auditing number w before sigma opened) number is refl)
  proof_stage share (Settling number w own other) body is same = (same, waits (Settling number w own other) number is refl)
  proof_stage share (Done want kept_body) body is same = kept kept_body same (keeps (Done want kept_body) kept_body is refl)
  proof_stage share (Challenged w kept_body) body is same = roomed (audits a f w share) (λ few room. (refl, few, room))

  proof_gated : (share : ProofShare) → f.body ≡ frame.Proof share → (same wanted : Bool) → (same ≡ true → f.serial ≡ r.serial)
      → (same ≡ false → f.serial ≡ r.serial → ⊥) → (wanted ≡ false → same_want want.Write (want_of r.stage) ≡ false)
      → Good (proof_at a f share (cond same (cond wanted Same (Phase (phase_of r.stage))) (Stale r.serial)))
  unfolding proof_at
  proof_gated share body false wanted own stale other =
      refused (refusal.Stale r.serial) (refl, subst (λ b. IsStale b f.serial r.serial) (sym body) (stale refl))
  proof_gated share body true false own stale other =
      refused (refusal.Phase (phase_of r.stage)) (refl, inl (own refl, inl (ap (λ b. same_want (cause.want_of b) (want_of r.stage)) body ∙ other refl)))
  proof_gated share body true true own stale other = proof_stage share r.stage body refl (own refl)

  proved : (share : ProofShare) → f.body ≡ frame.Proof share → Good (on_proof a f share)
  unfolding on_proof closing_gate
  proved share body =
      cond_both {A = Turn} (nat_le a.settings.lanes f.lane) _ _ Good (λ e. refused (refusal.Lane a.settings.lanes) (refl, leb-true _ _ e))
      (λ e. proof_gated share body (nat_eq f.serial r.serial) (same_want want.Write (want_of r.stage)) (λ x. eqb-true _ _ x) (λ x. eqb-false _ _ x) (λ x. x))

  -- ---- any frame

  abbrev Answered : PlainBody → Turn → Type 0
  Answered body t = AnswersIf (is_taken a.settings.width body) (wrong_at body) a f t.answer

  -- a write's public part has the width, or not
  by_width : (wide : Bool) (x y : Turn) → Good x → y.answer ≡ Reply (refused_bytes (refusal.Malformed 0)) → AnswersIf wide 0 a f (cond wide x y).answer
  by_width true x y good bad = good
  by_width false x y good bad = bad

  fits : (asked : Asked) (named : Option Named) (body : PlainBody) → f.body ≡ body → cause.want_of body ≡ want_in asked
      → (f.serial < r.serial → IsStale body f.serial r.serial) → NamedBy named → Fits asked named
  fits asked named body is wants stale box = record {
    wants = ap cause.want_of is ∙ wants;
    stale = λ less. subst (λ b. IsStale b f.serial r.serial) (sym is) (stale less);
    box = box;
  }

  kinds : (body : PlainBody) → f.body ≡ body → Answered body (by_kind a f body)
  unfolding by_kind NamedBy
  kinds (frame.Register address key) is = submitted (Registering address key) None (fits _ None (frame.Register address key) is refl (λ less. less) tt)
  kinds (frame.Write root part) is =
      by_width (has_width a.settings.width (frame.Write root part)) _ _
      (submitted (Writing root part (draw a)) None (fits _ None (frame.Write root part) is refl (λ less. less) tt)) refl
  kinds (frame.Read number held) is =
      submitted (Reading number) (Some (record { number = number; held = held }))
      (fits _ _ (frame.Read number held) is refl (λ less. less) (subst (λ b. Names b number held) (sym is) (refl, refl)))
  kinds (frame.Retire number held) is =
      submitted (Retiring number) (Some (record { number = number; held = held }))
      (fits _ _ (frame.Retire number held) is refl (λ less. less) (subst (λ b. Names b number held) (sym is) (refl, refl)))
  kinds (frame.Proof share) is = proved share is
  kinds body is = refl

wholes : (a : Leader) (found : Result PlainFrame Refusal) → AnswersBytes a found (on_whole a found).answer
unfolding on_whole
wholes a (Err why) = refl
wholes a (Ok f) = kinds a f f.body refl

pub leader_answers : LeaderAnswers
leader_answers a bytes = wholes a (whole bytes)
