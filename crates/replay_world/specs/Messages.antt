-- Which lines of outcomes have a message.
use Rattle.std.specs.Prelude.{◌≡◌, ◌≢◌, ℕ, List, []}
use Rattle.client_core.specs.declared.progress.Outcome.TheVariants.{Message}
use Rattle.replay_world.specs.declared.lines.Told.{Told}
use Rattle.replay_world.specs.declared.lines.Told.TheVariants.{Done}

-- an outcome that is no message has none
abbrev pub HasNoOther : Told → List ℕ → Type 0
HasNoOther told message = told ≢ Done Message → message ≡ []
