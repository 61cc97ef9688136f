use Rattle.store_tests.proofs.EntryLemmas.{differ-now}
use Rattle.store_tests.proofs.plain.PlainRegistry.count.Goals as goal

pub returns-clause-differ : goal.returns-clause-differ
returns-clause-differ c = differ-now _ _ _ _ c.self.view_is c.self.invariant.same c.self.invariant.differ
