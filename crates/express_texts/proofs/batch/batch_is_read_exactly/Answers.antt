use Rattle.express_texts.proofs.BatchLaws.{batch_found, batch_only, bad_found, bad_is_first}
use Rattle.express_texts.proofs.batch.batch_is_read_exactly.Goals as goal

pub returns-clause-found : goal.returns-clause-found
returns-clause-found c = batch_found

pub returns-clause-only : goal.returns-clause-only
returns-clause-only c = batch_only

pub returns-clause-bad : goal.returns-clause-bad
returns-clause-bad c = bad_found

pub returns-clause-only_bad : goal.returns-clause-only_bad
returns-clause-only_bad c = bad_is_first
