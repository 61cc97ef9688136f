use Rattle.std.proofs.Common.{lit<, refl}
use Rattle.audit_tests.proofs.views.moved_choice.Goals as goal

pub moved-requires-clause-to_registered : goal.moved-requires-clause-to_registered
moved-requires-clause-to_registered c = (1, lit< tt, refl)
