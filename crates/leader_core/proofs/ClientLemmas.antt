-- What a frame of a client finds at the leader.
use Rattle.std.proofs.Common.{◌≡◌, ◌≢◌, ◌<◌, ◌≤◌, ℕ, List, length, get_or, Option, Some, None, refl, sym, ap, ◌∙◌}
use Rattle.std.specs.Prelude.{option_map}
use Rattle.std.proofs.lemmas.Bool.{eq-eqb, ne_eqb, le-leb, lt-leb}
use Rattle.std.proofs.lemmas.List.{get_or-map}
use Rattle.dpf_rules.specs.Expansion.{token}
use Rattle.express_words.specs.declared.refusal.Refusal.TheVariants as refusal
use Rattle.frame_rules.specs.Frames.{PlainFrame}
use Rattle.lane_table.specs.Gates.{opening_gate, closing_gate}
use Rattle.lane_table.specs.declared.row.Want.{Want}
use Rattle.express_words.specs.declared.audit.ProofShare.{ProofShare}
use Rattle.step_rules.specs.Boxes.{Box}
use Rattle.step_rules.specs.Leader.{Leader, Asked, Row, Turn, row_at, refuses, door, want_in, idle}
use Rattle.step_rules.specs.LeaderClients.{Named, if_token, on_submission, submission_at, on_proof, proof_at}
use Rattle.leader_core.specs.declared.slot.LeaderSlot.{LeaderSlot}
use Rattle.leader_core.specs.Slots.{row_in, rows_in}

-- ---- the token of a box

module _ (a : Leader) (f : PlainFrame) (n held : ℕ) (issued : Turn) where
  pub no_box : (o : Option Box) → option_map (λ (b : Box). b.key) o ≡ None → if_token a f n held o issued ≡ refuses a f (refusal.NoBox n)
  unfolding if_token
  no_box None none = refl
  no_box (Some b) none = absurd (cc none)

  pub its_token : (o : Option Box) (k : List ℕ) → option_map (λ (b : Box). b.key) o ≡ Some k → held ≡ token k f.lane f.serial → if_token a f n held o issued ≡ issued
  unfolding if_token
  its_token (Some b) k some right = let key : b.key ≡ k = cc in rw (key, eq-eqb held (token k f.lane f.serial) right) refl
  its_token None k some right = absurd (cc some)

  pub other_token : (o : Option Box) (k : List ℕ) → option_map (λ (b : Box). b.key) o ≡ Some k → held ≢ token k f.lane f.serial → if_token a f n held o issued ≡ refuses a f (refusal.BadToken n)
  unfolding if_token
  other_token (Some b) k some wrong = let key : b.key ≡ k = cc in rw (key, ne_eqb held (token k f.lane f.serial) wrong) refl
  other_token None k some wrong = absurd (cc some)

-- ---- the lane is there, or it isn't

pub lane_refused : (a : Leader) (f : PlainFrame) (asked : Asked) (named : Option Named) → a.settings.lanes ≤ f.lane → on_submission a f asked named ≡ refuses a f (refusal.Lane a.settings.lanes)
unfolding on_submission
lane_refused a f asked named above = rw (le-leb a.settings.lanes f.lane above) refl

pub lane_there : (a : Leader) (f : PlainFrame) (asked : Asked) (named : Option Named) (r : Row) (want : Want) → f.lane < a.settings.lanes → row_at a f.lane ≡ r → want ≡ want_in asked →
    on_submission a f asked named ≡ submission_at a f asked named (opening_gate (door r) f.serial want)
unfolding on_submission
lane_there a f asked named r want below row_is want_is =
    rw (lt-leb a.settings.lanes f.lane below)
    (ap (λ (x : Row). submission_at a f asked named (opening_gate (door x) f.serial (want_in asked))) row_is
    ∙ ap (λ (w : Want). submission_at a f asked named (opening_gate (door r) f.serial w)) (sym want_is))

pub proof_refused : (a : Leader) (f : PlainFrame) (share : ProofShare) → a.settings.lanes ≤ f.lane → on_proof a f share ≡ refuses a f (refusal.Lane a.settings.lanes)
unfolding on_proof
proof_refused a f share above = rw (le-leb a.settings.lanes f.lane above) refl

pub proof_there : (a : Leader) (f : PlainFrame) (share : ProofShare) (r : Row) → f.lane < a.settings.lanes → row_at a f.lane ≡ r →
    on_proof a f share ≡ proof_at a f share (closing_gate (door r) f.serial)
unfolding on_proof
proof_there a f share r below row_is =
    rw (lt-leb a.settings.lanes f.lane below) (ap (λ (x : Row). proof_at a f share (closing_gate (door x) f.serial)) row_is)

-- the row of a lane is that of its slot
pub row_of : (slots : List LeaderSlot) (i lane : ℕ) (d : LeaderSlot) → i < length slots → i ≡ lane → get_or (rows_in slots) lane idle ≡ row_in (get_or slots i d)
row_of slots i lane d inside at = ap (λ k. get_or (rows_in slots) k idle) (sym at) ∙ get_or-map row_in slots i d idle inside
