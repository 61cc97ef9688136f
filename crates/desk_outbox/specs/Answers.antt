-- What came of a frame, as a letter's sending hears it.
use Rattle.std.specs.Prelude.{ℕ, List, Option, Some, None, Result, Ok, Err}
use Rattle.express_words.specs.declared.refusal.Refusal.TheVariants as refusal
use Rattle.step_rules.specs.Client.{Client}
use Rattle.step_rules.specs.ClientReplies.{on_reply}
use Rattle.client_core.specs.Answers.{progress_in}
use Rattle.client_core.specs.declared.progress.Outcome.TheVariants as outcome
use Rattle.client_core.specs.declared.progress.Progress.{Progress}
use Rattle.client_core.specs.declared.progress.Progress.TheVariants as progress
use Rattle.desk_tries.specs.declared.heard.Answer.{Answer}
use Rattle.desk_tries.specs.declared.heard.Answer.TheVariants as answer
use Rattle.node_client.specs.declared.stop.Stop.{Stop}
use Rattle.node_client.specs.declared.stop.Stop.TheVariants as stop
use Rattle.node_client.specs.Steps.{stop_at}
use Rattle.node_exchange.specs.declared.exchanging.Broken.{Broken}
use Rattle.node_exchange.specs.declared.exchanging.Broken.TheVariants as broken

-- a frame of which the client says this
abbrev pub answer_to : Progress → Answer
answer_to progress.Next = answer.Fits
answer_to (progress.Finished outcome.Accepted) = answer.Accepted
answer_to (progress.Finished (outcome.Refused r)) = answer.Refused r
answer_to (progress.Finished (outcome.Registered n)) = answer.Other
answer_to (progress.Finished outcome.Message) = answer.Other
answer_to (progress.Later r) = answer.Refused r
answer_to progress.Ignored = answer.Other

-- no frame: the server wasn't reached, or the connection broke off, or its bytes are none
abbrev pub answer_lost : Broken → Answer
answer_lost (broken.Fault count) = answer.Lost
answer_lost (broken.Early count) = answer.Lost
answer_lost (broken.Wrong fault) = answer.Other

-- what came of the frame of a client's present step
abbrev pub answered : Client → Result (List ℕ) Broken → Answer
answered c (Ok bytes) = answer_to (progress_in (on_reply c bytes).progress)
answered c (Err why) = answer_lost why

-- what halts the work, where the same frame is to be sent again
abbrev pub stop_to : Progress → Stop
stop_to (progress.Later r) = stop.Later r
stop_to progress.Next = stop.Answer
stop_to (progress.Finished o) = stop.Answer
stop_to progress.Ignored = stop.Answer

abbrev pub halts : Client → Result (List ℕ) Broken → Stop
halts c (Ok bytes) = stop_to (progress_in (on_reply c bytes).progress)
halts c (Err why) = stop_at why

-- the serial that an answer names
abbrev pub named_by : Answer → Option ℕ
named_by (answer.Refused (refusal.Stale serial)) = Some serial
named_by a = None
