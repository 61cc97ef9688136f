-- The words by which a client's outcomes are told.
use Rattle.std.specs.Prelude.{ℕ, List, ◌++◌, codes}
use Rattle.std.specs.Fmt.{decimal}
use Rattle.hex.specs.Hex.{encode_lower}
use Rattle.express_words.specs.Texts.{refusal_text}
use Rattle.express_words.specs.declared.refusal.Refusal.{Refusal}
use Rattle.express_words.specs.declared.refusal.Refusal.TheVariants.{Rejected}
use Rattle.step_rules.specs.Client as client
use Rattle.client_core.specs.declared.progress.Outcome.{Outcome}
use Rattle.client_core.specs.declared.progress.Outcome.TheVariants as outcome

-- where these are the bytes of a message that was read
abbrev pub with_message : Outcome → List ℕ → client.Outcome
with_message (outcome.Registered number) message = client.Registered number
with_message outcome.Accepted message = client.Accepted
with_message outcome.Message message = client.Message message
with_message (outcome.Refused refusal) message = client.Refused refusal

-- a rejected write is told by the one word
abbrev pub refused_text : Refusal → List ℕ
refused_text (Rejected o0 o1 tau0 tau1) = codes "rejected"
refused_text refusal = codes "refused " ++ refusal_text refusal

abbrev pub outcome_text : client.Outcome → List ℕ
outcome_text (client.Registered box) = codes "registered " ++ decimal box
outcome_text client.Accepted = codes "accepted"
outcome_text (client.Message bytes) = codes "message " ++ encode_lower bytes
outcome_text (client.Refused refusal) = refused_text refusal

-- where the client has no own box of this number
abbrev pub no_box_text : ℕ → List ℕ
no_box_text own = codes "no box " ++ decimal own
