use Rattle.std.proofs.Common.{inl}
use Rattle.desk_run.proofs.StatusLaws.{in_use_of, not_four, quiet_ends}
use Rattle.desk_run.proofs.WordLaws.{help_word, word_alone}
use Rattle.desk_run.proofs.top.do_task.Goals as goal

pub returns-in-Help-clause-ends : goal.returns-in-Help-clause-ends
returns-in-Help-clause-ends g c =
    inl (quiet_ends c.args.asked.task c.help.result c.help.ensures.undone c.help.ensures.not_met)

pub returns-in-Help-clause-in_use : goal.returns-in-Help-clause-in_use
returns-in-Help-clause-in_use g c four =
    absurd (not_four c.args.asked.task _ (quiet_ends c.args.asked.task c.help.result c.help.ensures.undone c.help.ensures.not_met) four)

pub returns-in-Help-clause-held : goal.returns-in-Help-clause-held
returns-in-Help-clause-held g c four =
    absurd (not_four c.args.asked.task _ (quiet_ends c.args.asked.task c.help.result c.help.ensures.undone c.help.ensures.not_met) four)

pub returns-in-Help-clause-does : goal.returns-in-Help-clause-does
returns-in-Help-clause-does g c =
    help_word g.F.File.Disk.disk g.F.File.Counted.seen c.args.asked.task c.help.result _ _ c.in-Help.is

pub returns-in-Help-clause-met : goal.returns-in-Help-clause-met
returns-in-Help-clause-met g c is = absurd (c.help.ensures.not_met is)

pub returns-in_default-clause-ends : goal.returns-in_default-clause-ends
returns-in_default-clause-ends g c = in_use_of c.args.asked.task _ c.in_default.not-Help c.with_folder.ensures.ends

pub returns-in_default-clause-does : goal.returns-in_default-clause-does
returns-in_default-clause-does g c =
    word_alone g.F.File.Disk.disk g.F.File.Counted.seen c.args.asked.task c.with_folder.result _ _ c.in_default.not-Help
    c.with_folder.ensures.done
