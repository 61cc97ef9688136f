-- What the leader issues a command for; at all other bytes of clients it stays as it was.
use Rattle.std.specs.Prelude.{◌≡◌, ℕ, ◌<◌, ◌-◌, ◌^◌, Bool, true, false, cond, nat_le, nat_lt, nat_eq, refl, List, length, Option, Some, None, Result, Ok, Err, slice_get}
use Rattle.std.proofs.Common.{sym, subst, arith}
use Rattle.std.proofs.lemmas.Bool.{eqb-true, eqb-false, ltb-false}
use Rattle.express_words.specs.declared.audit.ProofShare.{ProofShare}
use Rattle.express_words.specs.declared.refusal.Refusal.{Refusal}
use Rattle.express_words.specs.declared.refusal.Refusal.TheVariants as refusal
use Rattle.frame_rules.specs.Frames as frame
use Rattle.frame_rules.specs.Frames.{PlainFrame, PlainBody}
use Rattle.frame_rules.specs.Whole.{whole, has_width}
use Rattle.lane_table.specs.Gates.{opening_gate, closing_gate, same_want}
use Rattle.lane_table.specs.declared.row.Want.TheVariants as want
use Rattle.lane_table.specs.declared.gate.Gate.TheVariants.{New, Same, Stale, Phase}
use Rattle.dpf_rules.specs.Expansion.{token}
use Rattle.step_rules.specs.Boxes.{Box}
use Rattle.step_rules.specs.Leader.{Leader, Asked, Registering, Writing, Reading, Retiring, Row, Stage, Idle, Waiting, Challenged, Auditing, Settling, Done, row_at, phase_of, want_in, want_of, Turn, refuses}
use Rattle.step_rules.specs.LeaderClients.{Named, draw, if_room, issued_for, if_token, if_named, new_at, again_at, submission_at, on_submission, audits, proof_in, proof_at, on_proof, by_kind, on_whole}
use Rattle.step_rules.specs.Needs.{IsFor, IssuedFor, IsChallenged, LeaderNeeds, NamesBox}

module _ (a : Leader) (bytes : List ℕ) (f : PlainFrame) (read : whole bytes ≡ Ok f) where
  abbrev Good : Turn → Type 0
  Good t = IssuedFor t.answer a bytes t.leader

  either : (b : Bool) (x y : Turn) → Good x → Good y → Good (cond b x y)
  either true x y p q = p
  either false x y p q = q

  abbrev r : Row
  r = row_at a f.lane

  roomed : (issued : Turn) → Good issued → Good (if_room a f issued)
  roomed issued good =
      either (nat_lt (2 ^ 64 - 65) a.next) _ _ refl
      (either (nat_le a.settings.window (length a.outstanding)) _ _ refl good)

  -- ---- submissions

  -- what a submission brings
  abbrev Brings : Asked → Option Named → PlainBody → Type 0
  Brings (Registering address key) named body = body ≡ frame.Register address key
  Brings (Writing root part drawn) named body = (body ≡ frame.Write root part) × (drawn ≡ draw a)
  Brings (Reading number) named body = (held : ℕ) × (body ≡ frame.Read number held) × (named ≡ Some (record { number = number; held = held }))
  Brings (Retiring number) named body = (held : ℕ) × (body ≡ frame.Retire number held) × (named ≡ Some (record { number = number; held = held }))

  -- the box that it names is there, by its token
  abbrev NamedBox : Option Named → Type 0
  NamedBox None = Unit {0}
  NamedBox (Some n) = NamesBox a f n.number n.held

  issued : (asked : Asked) (named : Option Named) → Brings asked named f.body → NamedBox named → r.serial < f.serial → Good (issued_for a f asked)
  unfolding issued_for
  issued (Registering address key) named brings box later = (
    f,
    read,
    record {
      lane = refl;
      serial = refl;
      may = rw brings later;
      brings = rw brings refl;
      stage = Waiting a.next (Registering address key);
      rows = refl;
      keeps = rw brings (a.next, refl);
      draws = omega arith;
    },
  )
  issued (Writing root part drawn) named brings box later = (
    f,
    read,
    record {
      lane = refl;
      serial = refl;
      may = rw brings.0 later;
      brings = rw brings.0 (brings.1, refl);
      stage = Waiting a.next (Writing root part drawn);
      rows = refl;
      keeps = rw brings.0 (a.next, drawn, refl);
      draws = refl;
    },
  )
  issued (Reading number) named brings box later = (
    f,
    read,
    record {
      lane = refl;
      serial = refl;
      may = rw brings.1 later;
      brings = subst (λ body. IsFor a f body (frame.LinkRead number)) (sym brings.1) (refl, subst NamedBox brings.2 box);
      stage = Waiting a.next (Reading number);
      rows = refl;
      keeps = rw brings.1 (a.next, refl);
      draws = omega arith;
    },
  )
  issued (Retiring number) named brings box later = (
    f,
    read,
    record {
      lane = refl;
      serial = refl;
      may = rw brings.1 later;
      brings = subst (λ body. IsFor a f body (frame.LinkRetire number)) (sym brings.1) (refl, subst NamedBox brings.2 box);
      stage = Waiting a.next (Retiring number);
      rows = refl;
      keeps = rw brings.1 (a.next, refl);
      draws = omega arith;
    },
  )

  tokened : (n : Named) (found : Option Box) (t : Turn) → slice_get a.boxes n.number ≡ found → (NamesBox a f n.number n.held → Good t)
      → Good (if_token a f n.number n.held found t)
  unfolding if_token
  tokened n None t is good = refl
  tokened n (Some box) t is good = at_test (nat_eq n.held (token box.key f.lane f.serial)) refl
    where
      at_test : (b : Bool) → nat_eq n.held (token box.key f.lane f.serial) ≡ b → Good (cond b t (refuses a f (refusal.BadToken n.number)))
      at_test true e = good (record { box = box; is = is; token = eqb-true _ _ e })
      at_test false e = refl

  named_good : (named : Option Named) (t : Turn) → (NamedBox named → Good t) → Good (if_named a f named t)
  unfolding if_named
  named_good None t good = good tt
  named_good (Some n) t good = tokened n (slice_get a.boxes n.number) t refl good

  new_good : (asked : Asked) (named : Option Named) (stage : Stage) → Brings asked named f.body → r.serial < f.serial → Good (new_at a f asked named stage)
  unfolding new_at
  new_good asked named (Waiting number other) brings later = refl
  new_good asked named (Auditing number w share sigma opened) brings later = refl
  new_good asked named (Settling number w own other) brings later = refl
  new_good asked named Idle brings later = named_good named _ (λ box. roomed _ (issued asked named brings box later))
  new_good asked named (Challenged w kept) brings later = named_good named _ (λ box. roomed _ (issued asked named brings box later))
  new_good asked named (Done want kept) brings later = named_good named _ (λ box. roomed _ (issued asked named brings box later))

  again_good : (stage : Stage) → Good (again_at a f stage)
  unfolding again_at
  again_good Idle = refl
  again_good (Waiting number asked) = refl
  again_good (Auditing number w share sigma opened) = refl
  again_good (Settling number w own other) = refl
  again_good (Challenged w kept) = refl
  again_good (Done want kept) = refl

  gated : (asked : Asked) (named : Option Named) → Brings asked named f.body → (less same wanted : Bool) → (less ≡ false → same ≡ false → r.serial < f.serial)
      → Good (submission_at a f asked named (cond less (Stale r.serial) (cond same (cond wanted Same (Phase (phase_of r.stage))) New)))
  unfolding submission_at
  gated asked named brings true same wanted later = refl
  gated asked named brings false true true later = again_good r.stage
  gated asked named brings false true false later = refl
  gated asked named brings false false wanted later = new_good asked named r.stage brings (later refl refl)

  submitted : (asked : Asked) (named : Option Named) → Brings asked named f.body → Good (on_submission a f asked named)
  unfolding on_submission opening_gate
  submitted asked named brings =
      either (nat_le a.settings.lanes f.lane) _ _ refl
      (gated asked named brings (nat_lt f.serial r.serial) (nat_eq f.serial r.serial) (same_want (want_in asked) (want_of r.stage))
      (λ x y. let l = ltb-false _ _ x in let n = eqb-false _ _ y in omega (arith, l, n)))

  -- ---- proofs

  proof_stage : (share : ProofShare) (stage : Stage) → f.body ≡ frame.Proof share → r.stage ≡ stage → f.serial ≡ r.serial → Good (proof_in a f share stage)
  unfolding proof_in
  proof_stage share Idle body is same = refl
  proof_stage share (Waiting number asked) body is same = refl
  proof_stage share (Auditing number w before sigma opened) body is same = refl
  proof_stage share (Settling number w own other) body is same = refl
  proof_stage share (Done want kept) body is same = refl
  proof_stage share (Challenged w kept) body is same = roomed (audits a f w share) (
    f,
    read,
    record {
      lane = refl;
      serial = refl;
      may = rw body (same, subst IsChallenged (sym is) tt);
      brings = rw body refl;
      stage = _;
      rows = refl;
      keeps = rw body refl;
      draws = refl;
    },
  )

  proof_gated : (share : ProofShare) → f.body ≡ frame.Proof share → (same wanted : Bool) → (same ≡ true → f.serial ≡ r.serial)
      → Good (proof_at a f share (cond same (cond wanted Same (Phase (phase_of r.stage))) (Stale r.serial)))
  unfolding proof_at
  proof_gated share body false wanted at = refl
  proof_gated share body true false at = refl
  proof_gated share body true true at = proof_stage share r.stage body refl (at refl)

  proved : (share : ProofShare) → f.body ≡ frame.Proof share → Good (on_proof a f share)
  unfolding on_proof closing_gate
  proved share body =
      either (nat_le a.settings.lanes f.lane) _ _ refl
      (proof_gated share body (nat_eq f.serial r.serial) (same_want want.Write (want_of r.stage)) (λ e. eqb-true _ _ e))

  -- ---- any frame

  kinds : (body : PlainBody) → f.body ≡ body → Good (by_kind a f body)
  unfolding by_kind
  kinds (frame.Register address key) is = submitted (Registering address key) None is
  kinds (frame.Write root part) is =
      either (has_width a.settings.width (frame.Write root part)) _ _ (submitted (Writing root part (draw a)) None (is, refl)) refl
  kinds (frame.Read number held) is = submitted (Reading number) (Some (record { number = number; held = held })) (held, is, refl)
  kinds (frame.Retire number held) is = submitted (Retiring number) (Some (record { number = number; held = held })) (held, is, refl)
  kinds (frame.Proof share) is = proved share is
  kinds body is = refl

wholes : (a : Leader) (bytes : List ℕ) (found : Result PlainFrame Refusal) → whole bytes ≡ found
    → IssuedFor (on_whole a found).answer a bytes (on_whole a found).leader
unfolding on_whole
wholes a bytes (Err why) read = refl
wholes a bytes (Ok f) read = kinds a bytes f read f.body refl

pub leader_needs : LeaderNeeds
leader_needs a bytes = wholes a bytes (whole bytes) refl
