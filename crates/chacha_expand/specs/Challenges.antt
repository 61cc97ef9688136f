-- Both challenges at an address.
use Rattle.std.specs.Prelude.{ℕ, List}
use Rattle.dpf_rules.specs.Expansion.{challenge_r, challenge_s}

-- r and s under a key
abbrev pub challenge_at : List ℕ → ℕ → ℕ × ℕ
challenge_at ckey address = (challenge_r ckey address, challenge_s ckey address)
