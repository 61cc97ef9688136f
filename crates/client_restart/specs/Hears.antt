-- What is kept: a request that the client takes, and a reply that makes a step.
use Rattle.std.specs.Prelude.{ℕ, List, Bool, true, false, IsOk}
use Rattle.mailbox_rules.specs.Requests.{Request}
use Rattle.step_rules.specs.ClientAsks as asks
use Rattle.step_rules.specs.ClientReplies.{on_reply}
use Rattle.client_core.specs.Answers.{progress_in}
use Rattle.client_core.specs.declared.progress.Progress.{Progress}
use Rattle.client_core.specs.declared.progress.Progress.TheVariants as progress
use Rattle.client_restart.specs.Steps.{CoreState}

abbrev pub IsTaken : CoreState → Request → Type 0
IsTaken k request = IsOk (asks.asked k.client request)

-- the request goes on or has ended; a reply that is ignored or comes too early leaves the client as it is
abbrev pub makes_step : Progress → Bool
makes_step progress.Ignored = false
makes_step (progress.Later refusal) = false
makes_step progress.Next = true
makes_step (progress.Finished outcome) = true

-- the same of a server's bytes
abbrev pub makes_step_at : CoreState → List ℕ → Bool
makes_step_at k frame = makes_step (progress_in (on_reply k.client frame).progress)
