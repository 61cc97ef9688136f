-- A write's last proof, the one to the leader.
use Rattle.std.specs.Prelude.{Bool, true, false, Option, Some, None}
use Rattle.step_rules.specs.Client.{Current, Step, Deposits, Submits, ProvesToHelper, ProvesToLeader}

abbrev pub is_last_proof : Step → Bool
is_last_proof Deposits = false
is_last_proof Submits = false
is_last_proof (ProvesToHelper ckey) = false
is_last_proof (ProvesToLeader ckey) = true

-- the last proof is the present step
abbrev pub at_last_proof : Option Current → Bool
at_last_proof None = false
at_last_proof (Some now) = is_last_proof now.step
