use Rattle.std.proofs.Common.{List, ℕ, subst}
use Rattle.kept_machine.specs.Machines.{IsForeign}
use Rattle.kept_machine.proofs.FaultLaws.{on_foreign}
use Rattle.kept_machine.proofs.FormLaws.{never_foreign}
use Rattle.kept_machine.proofs.kept.Kept.reopen.Goals as goal

pub returns-in-Err-clause-never_foreign : goal.returns-in-Err-clause-never_foreign
returns-in-Err-clause-never_foreign g c =
    on_foreign c.in-Err.fault _ _
    (λ n here records d read form held. never_foreign g.M.Machine.rules n records form (subst (λ (l : List (List ℕ)). IsForeign g.M.Machine.rules n l) (held d read) (here d read)))
    c.in-Err.ensures.foreign
