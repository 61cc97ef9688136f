use Rattle.std.proofs.Common.{sym, inl, ◌∙◌}
use Rattle.express_cli.specs.Keeping.{KeepFaultMay, fault_line}
use Rattle.express_cli.proofs.CountLaws.{disk_line, fault_counts, line_counts, told_counts, unfailed}
use Rattle.express_cli.proofs.Writing.{said}
use Rattle.express_cli.proofs.keep_faults.tell_fault.Goals as goal

pub returns-in-DiskFault-clause-tells : goal.returns-in-DiskFault-clause-tells
returns-in-DiskFault-clause-tells g c =
    let line = disk_line c.args.fault c.requires.first (sym c.end_by-end.ensures.by ∙ c.in-DiskFault.is) in
    said (KeepFaultMay c.args.fault) _ _ _ _ c.end_by-end.result _ _ (inl (c.end_by-end.ensures.by, line)) c.say.ensures.says

pub returns-in-DiskFault-clause-counts : goal.returns-in-DiskFault-clause-counts
returns-in-DiskFault-clause-counts g c before now h =
    told_counts _ c.say.result before now c.say.ensures.only (rw c.end_by-end.ensures.by (fault_counts c.args.fault before now c.requires.first h))

pub returns-in_default-clause-tells : goal.returns-in_default-clause-tells
returns-in_default-clause-tells g c = rw c.end_by-end.ensures.by at (c.say_line.ensures.says (fault_line c.args.fault) c.fault_line.ensures)

pub returns-in_default-clause-counts : goal.returns-in_default-clause-counts
returns-in_default-clause-counts g c before now h =
    line_counts _ c.say_line.result before now c.say_line.ensures.only (unfailed c.args.fault before now (λ is. c.in_default.not-DiskFault (c.end_by-end.ensures.by ∙ is)) h)
    (rw c.end_by-end.ensures.by (fault_counts c.args.fault before now c.requires.first h))
