use Rattle.std.proofs.Common.{◌≡◌, ◌≤◌, ℕ, List, length, Result, Ok, Err}
use Rattle.std.specs.Prelude.{IfOk}
use Rattle.express_texts.specs.declared.fault.TextFault.{TextFault}
use Rattle.express_texts.specs.declared.fault.TextFault.TheVariants.{Wrong, WrongKey, NoMemory}
use Rattle.express_texts.specs.declared.batch.BatchPairs.{BatchPairs}
use Rattle.express_texts.specs.Batch.{batch_of, most_pairs}
use Rattle.express_texts.specs.Judging.{Gives, Judges, batch_in}
use Rattle.express_texts.proofs.BatchLaws.{batch_found, bad_found, as_many}
use Rattle.express_texts.proofs.batch.read_batch.Goals as goal

judged : (text : List ℕ) (r : Result BatchPairs TextFault) → Gives batch_in r (batch_of text) → Judges text r
judged text (Ok pairs) h = batch_found text (batch_in pairs) h
judged text (Err (Wrong n)) h = bad_found text n h
judged text (Err (WrongKey key)) h = absurd h
judged text (Err NoMemory) h = tt

few : (text : List ℕ) (r : Result BatchPairs TextFault) → Judges text r → IfOk r (λ pairs. length pairs.zero ≤ 20000)
unfolding most_pairs
few text (Ok pairs) h = h.few
few text (Err fault) h = tt

same : (text : List ℕ) (r : Result BatchPairs TextFault) → Judges text r → IfOk r (λ pairs. length pairs.one ≡ length pairs.zero)
same text (Ok pairs) h = as_many pairs.zero pairs.one h.lines h.pairs
same text (Err fault) h = tt

pub returns-clause-judges : goal.returns-clause-judges
returns-clause-judges c = judged _ _ c.read_text.ensures

pub returns-clause-few : goal.returns-clause-few
returns-clause-few c = few _ _ (judged _ _ c.read_text.ensures)

pub returns-clause-as_many : goal.returns-clause-as_many
returns-clause-as_many c = same _ _ (judged _ _ c.read_text.ensures)
