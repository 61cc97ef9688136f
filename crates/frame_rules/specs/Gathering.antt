-- The bytes of one frame, from a stream that comes in pieces.
use Rattle.std.specs.Prelude.{◌≡◌, ◌≢◌, ℕ, ◌+◌, ◌-◌, ◌<◌, Bool, true, false, ◌⊎◌, List, [], ◌∷◌, ◌++◌, length}
use Rattle.std.specs.Prelude.{take, Result, Ok, Err, if◌then◌else◌}
use Rattle.std.specs.Int.{w32}
use Rattle.frame_rules.specs.declared.fault.FrameFault.{FrameFault}
use Rattle.frame_rules.specs.declared.fault.FrameFault.TheVariants.{Short, Malformed, Version}
use Rattle.frame_rules.specs.Frames.{PlainFrame}
use Rattle.frame_rules.specs.Forms.{number_at}
use Rattle.frame_rules.specs.Reading.{decoded}

abbrev pub is_short : {A : Type 0} → Result A FrameFault → Bool
is_short (Ok x) = false
is_short (Err Short) = true
is_short (Err (Malformed place)) = false
is_short (Err (Version v)) = false

-- what is held after more bytes: they are taken while what is held is short
unfoldable pub gathered : List ℕ → List ℕ → List ℕ
gathered held [] = held
gathered held (b ∷ bytes) = if is_short (decoded held) then gathered (held ++ b ∷ []) bytes else held

-- no front of the bytes but themselves has a fault or is a frame
abbrev pub IsHeld : List ℕ → Type 0
IsHeld held = (n : ℕ) → n < length held → decoded (take n held) ≡ Err Short

-- what is held of a stream: all of it, or the shortest front that has a fault or is a frame
pub record Gathers (stream held : List ℕ) : Type 0 where
  pub rest : List ℕ
  pub front : stream ≡ held ++ rest
  pub shortest : IsHeld held
  pub stops : (rest ≡ []) ⊎ (decoded held ≢ Err Short)

-- what feeding answers: the fault of what is held, else how many bytes were taken
abbrev pub fed : Result (PlainFrame × ℕ) FrameFault → ℕ → Result ℕ FrameFault
fed (Ok f) taken = Ok taken
fed (Err Short) taken = Ok taken
fed (Err (Malformed place)) taken = Err (Malformed place)
fed (Err (Version v)) taken = Err (Version v)

-- how many bytes are missing from the length, then from the frame
abbrev pub missing_from : Result ℕ FrameFault → ℕ → ℕ
missing_from (Err fault) held = 4 - held
missing_from (Ok len) held = 4 + len - held

-- 0 where what is held is a frame or has a fault
unfoldable pub missing : List ℕ → ℕ
missing held = if is_short (decoded held) then missing_from (number_at w32 0 held) (length held) else 0
