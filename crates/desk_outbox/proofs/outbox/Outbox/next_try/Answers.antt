use Rattle.std.proofs.Common.{rules}
use Rattle.desk_outbox.proofs.outbox.Outbox.next_try.Goals as goal

pub returns-in-Ok-clause-retries : goal.returns-in-Ok-clause-retries
returns-in-Ok-clause-retries g c h is = record { begins = search rules; seed = search rules; follows = search rules; drawn = search rules }
