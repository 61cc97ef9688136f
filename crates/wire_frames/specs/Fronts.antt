-- Fronts of frames.
use Rattle.std.specs.Prelude.{◌≡◌, ◌<◌, List, ℕ, length, take}
use Rattle.frame_rules.specs.Frames.{PlainFrame}
use Rattle.frame_rules.specs.Spelling.{Spells}

-- P, where the bytes are a front of what spells some frame, and not the whole of it
abbrev pub OnFront : List ℕ → Type 0 → Type 0
OnFront bytes P =
    (f : PlainFrame) (whole : List ℕ) → Spells f whole → length bytes < length whole
    → bytes ≡ take (length bytes) whole → P
