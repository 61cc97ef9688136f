-- The two challenge vectors that a key draws at a list of addresses, and the sums under them.
use Rattle.std.specs.Prelude.{ℕ, List, map}
use Rattle.dpf_rules.specs.Expansion.{challenge_r, challenge_s}
use Rattle.audit_rules.specs.declared.sums.Sums.{Sums}
use Rattle.audit_rules.specs.Audit.{sums_of}

unfoldable pub challenge_rs : List ℕ → List ℕ → List ℕ
challenge_rs ckey addresses = map (challenge_r ckey) addresses

unfoldable pub challenge_ss : List ℕ → List ℕ → List ℕ
challenge_ss ckey addresses = map (challenge_s ckey) addresses

-- the sums of a vector under a key's challenges at a list of addresses
abbrev pub sums_under : List ℕ → List ℕ → List ℕ → Sums
sums_under ckey addresses w = sums_of w (challenge_rs ckey addresses) (challenge_ss ckey addresses)
