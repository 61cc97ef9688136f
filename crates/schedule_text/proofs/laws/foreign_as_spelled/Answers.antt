use Rattle.std.proofs.Common.{◌≡◌, ℕ, Bool, true, false, cond, List, Some, None, Result, Ok, Err, refl, ap}
use Rattle.dpf_rules.specs.Bytes.{AreBytes}
use Rattle.express_words.specs.declared.refusal.Refusal.{Refusal}
use Rattle.frame_rules.specs.Frames.{PlainFrame}
use Rattle.frame_rules.specs.Whole.{whole, is_from_client}
use Rattle.frame_rules.proofs.WholeLaws.{whole_found, whole_only}
use Rattle.schedule_text.specs.Lanes.{lane_from_client, lane_in, IsFrameOf}
use Rattle.schedule_text.proofs.laws.foreign_as_spelled.Goals as goal

at_class : (bytes : List ℕ) (lane : ℕ) (f : PlainFrame) → AreBytes bytes → whole bytes ≡ Ok f → (t : Bool)
    → is_from_client f.body ≡ t → cond t (Some f.lane) None ≡ Some lane → IsFrameOf lane bytes
at_class bytes lane f small is true class h =
    record { frame = f; spelled = whole_found bytes f small is; class = class; of_lane = cc }
at_class bytes lane f small is false class h = cc

at_whole : (bytes : List ℕ) (lane : ℕ) (r : Result PlainFrame Refusal) → AreBytes bytes → whole bytes ≡ r
    → lane_from_client r ≡ Some lane → IsFrameOf lane bytes
at_whole bytes lane (Ok f) small is h = at_class bytes lane f small is (is_from_client f.body) refl h
at_whole bytes lane (Err r) small is h = cc

pub returns-clause-found : goal.returns-clause-found
unfolding lane_in
returns-clause-found c = λ bytes lane small h. at_whole bytes lane (whole bytes) small refl h

pub returns-clause-only : goal.returns-clause-only
unfolding lane_in
returns-clause-only c = λ bytes lane h. rw (whole_only h.frame bytes h.spelled, h.class) (ap Some h.of_lane)
