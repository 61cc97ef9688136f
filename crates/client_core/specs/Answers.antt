-- What a client gives: its frame's server and length, and what it says of a reply.
use Rattle.std.specs.Prelude.{ℕ, List, [], length, Option, Some, None}
use Rattle.frame_rules.specs.Frames.{PlainFrame}
use Rattle.frame_rules.specs.Spelling.{spelling}
use Rattle.step_rules.specs.Client as steps
use Rattle.step_rules.specs.ClientAsks.{Sent}
use Rattle.client_core.specs.declared.progress.Outcome.{Outcome}
use Rattle.client_core.specs.declared.progress.Outcome.TheVariants as outcome
use Rattle.client_core.specs.declared.progress.Progress.{Progress}
use Rattle.client_core.specs.declared.progress.Progress.TheVariants as progress

-- this frame to this server
abbrev pub sent_to : (server : ℕ) → PlainFrame → Sent
sent_to server frame = record { server = server; frame = frame }

-- the server, the leader 0 and the helper 1, and the frame's length in bytes
abbrev pub addressed : Sent → ℕ × ℕ
addressed sent = (sent.server, length (spelling sent.frame))

-- the bytes that are sent, if any
abbrev pub bytes_of : Option Sent → List ℕ
bytes_of None = []
bytes_of (Some sent) = spelling sent.frame

abbrev pub outcome_in : steps.Outcome → Outcome
outcome_in (steps.Registered number) = outcome.Registered number
outcome_in steps.Accepted = outcome.Accepted
outcome_in (steps.Message bytes) = outcome.Message
outcome_in (steps.Refused refusal) = outcome.Refused refusal

abbrev pub progress_in : steps.Progress → Progress
progress_in steps.Ignored = progress.Ignored
progress_in (steps.Later refusal) = progress.Later refusal
progress_in steps.Next = progress.Next
progress_in (steps.Finished o) = progress.Finished (outcome_in o)

-- the message where one was read, and else what stood there
abbrev pub message_or : List ℕ → steps.Progress → List ℕ
message_or old (steps.Finished (steps.Message bytes)) = bytes
message_or old other = old
