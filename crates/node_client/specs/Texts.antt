-- The texts of what stops the work.
use Rattle.std.specs.Prelude.{ℕ, List, codes}
use Rattle.express_words.specs.Texts.{refusal_text}
use Rattle.node_client.specs.declared.stop.Stop.{Stop}
use Rattle.node_client.specs.declared.stop.Stop.TheVariants.{Answer, Later, Spent, Full, Fault}

abbrev pub stop_text : Stop → List ℕ
stop_text Answer = codes "answer"
stop_text (Later refusal) = refusal_text refusal
stop_text Spent = codes "spent"
stop_text Full = codes "full"
stop_text (Fault count) = codes "net fault"
