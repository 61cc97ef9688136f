use Rattle.std.proofs.Common.{◌≡◌, ℕ, List, [], ◌∷◌, length, get_or, refl, ap, ◌∙◌, arith}
use Rattle.std.specs.Int.{w16, to_be_bytes, from_be_bytes}
use Rattle.frame_rules.specs.Frames.{PlainFrame}
use Rattle.frame_rules.specs.Spelling.{spelling}
use Rattle.frame_rules.proofs.Fields.{u16_field}
use Rattle.frame_rules.proofs.GrammarLaws.{length-spelling}
use Rattle.replay_world.proofs.lane.lane_in.Goals as goal

lane_bytes : (f : PlainFrame) → get_or (spelling f) 6 0 ∷ get_or (spelling f) 7 0 ∷ [] ≡ to_be_bytes w16 f.lane
unfolding spelling
lane_bytes f = refl

pub returns-then-frame-lt8 : goal.returns-then-frame-lt8
returns-then-frame-lt8 c f e small = absurd (omega (arith, ap length e, length-spelling f))

pub returns : goal.returns
returns c f e small =
    c.from_be_bytes.ensures
    ∙ (ap (λ (b : List ℕ). from_be_bytes w16 (get_or b 6 0 ∷ get_or b 7 0 ∷ [])) e
    ∙ (ap (from_be_bytes w16) (lane_bytes f) ∙ u16_field.again f.lane small))
