use Rattle.std.proofs.Common.{refl}
use Rattle.desk_run.proofs.Asked.{closes, loud}
use Rattle.desk_run.proofs.StatusLaws.{box_ends, discard_ends, ends_as, forget_ends, letters_ends, open_ends, quiet_ends, retire_ends, send_ends}
use Rattle.desk_run.proofs.WordLaws.{does_as, says_nothing}
use Rattle.desk_run.proofs.top.in_folder.Goals as goal

pub returns-in-Open-clause-done : goal.returns-in-Open-clause-done
returns-in-Open-clause-done g c =
    does_as g.F.File.Disk.disk g.F.File.Counted.seen c.args.task _ _ _ _ c.in-Open.is c.open.ensures.checks

pub returns-in-Box-clause-done : goal.returns-in-Box-clause-done
returns-in-Box-clause-done g c =
    does_as g.F.File.Disk.disk g.F.File.Counted.seen c.args.task _ _ _ _ c.in-Box.is c.open_boxes.ensures.done

pub returns-in-Card-clause-done : goal.returns-in-Card-clause-done
returns-in-Card-clause-done g c =
    does_as g.F.File.Disk.disk g.F.File.Counted.seen c.args.task _ _ _ _ c.in-Card.is c.card.ensures.done

pub returns-in-Letters-clause-done : goal.returns-in-Letters-clause-done
returns-in-Letters-clause-done g c =
    does_as g.F.File.Disk.disk g.F.File.Counted.seen c.args.task _ _ _ _ c.in-Letters.is c.letters.ensures.done

pub returns-in-Send-clause-done : goal.returns-in-Send-clause-done
returns-in-Send-clause-done g c =
    does_as g.F.File.Disk.disk g.F.File.Counted.seen c.args.task _ _ _ _ c.in-Send.is c.send.ensures.done

pub returns-in-Resume-clause-done : goal.returns-in-Resume-clause-done
returns-in-Resume-clause-done g c =
    does_as g.F.File.Disk.disk g.F.File.Counted.seen c.args.task _ _ _ _ c.in-Resume.is c.resume.ensures.done

pub returns-in-Retire-clause-done : goal.returns-in-Retire-clause-done
returns-in-Retire-clause-done g c =
    does_as g.F.File.Disk.disk g.F.File.Counted.seen c.args.task _ _ _ _ c.in-Retire.is c.give_up.ensures.done

pub returns-in-Forget-clause-done : goal.returns-in-Forget-clause-done
returns-in-Forget-clause-done g c =
    does_as g.F.File.Disk.disk g.F.File.Counted.seen c.args.task _ _ _ _ c.in-Forget.is c.forget.ensures.done

pub returns-in-Status-clause-done : goal.returns-in-Status-clause-done
returns-in-Status-clause-done g c =
    does_as g.F.File.Disk.disk g.F.File.Counted.seen c.args.task _ _ _ _ c.in-Status.is c.status.ensures.done

pub returns-in-Help-clause-done : goal.returns-in-Help-clause-done
returns-in-Help-clause-done g c =
    does_as g.F.File.Disk.disk g.F.File.Counted.seen c.args.task _ _ _ _ c.in-Help.is (says_nothing c.help.result)

pub returns-in-Open-clause-ends : goal.returns-in-Open-clause-ends
returns-in-Open-clause-ends g c =
    ends_as c.args.task _ _ c.in-Open.is (open_ends _ c.open.result c.open.ensures.trouble c.open.ensures.not_met)

pub returns-in-Box-clause-ends : goal.returns-in-Box-clause-ends
returns-in-Box-clause-ends g c =
    ends_as c.args.task _ _ c.in-Box.is (box_ends _ _ _ c.open_boxes.result c.open_boxes.ensures.trouble c.open_boxes.ensures.not_met)

pub returns-in-Card-clause-ends : goal.returns-in-Card-clause-ends
returns-in-Card-clause-ends g c = quiet_ends c.args.task c.card.result c.card.ensures.undone c.card.ensures.not_met

pub returns-in-Letters-clause-ends : goal.returns-in-Letters-clause-ends
returns-in-Letters-clause-ends g c =
    ends_as c.args.task _ _ c.in-Letters.is (letters_ends _ c.letters.result c.letters.ensures.undone)

pub returns-in-Send-clause-ends : goal.returns-in-Send-clause-ends
returns-in-Send-clause-ends g c =
    ends_as c.args.task _ _ c.in-Send.is (send_ends _ _ c.send.result c.send.ensures.trouble c.send.ensures.not_met)

pub returns-in-Resume-clause-ends : goal.returns-in-Resume-clause-ends
returns-in-Resume-clause-ends g c = quiet_ends c.args.task c.resume.result c.resume.ensures.undone c.resume.ensures.not_met

pub returns-in-Retire-clause-ends : goal.returns-in-Retire-clause-ends
returns-in-Retire-clause-ends g c =
    ends_as c.args.task _ _ c.in-Retire.is (retire_ends _ _ c.give_up.result c.give_up.ensures.undone)

pub returns-in-Forget-clause-ends : goal.returns-in-Forget-clause-ends
returns-in-Forget-clause-ends g c =
    ends_as c.args.task _ _ c.in-Forget.is (forget_ends c.forget.result c.forget.ensures.undone)

pub returns-in-Status-clause-ends : goal.returns-in-Status-clause-ends
returns-in-Status-clause-ends g c = quiet_ends c.args.task c.status.result c.status.ensures.undone c.status.ensures.not_met

pub returns-in-Help-clause-ends : goal.returns-in-Help-clause-ends
returns-in-Help-clause-ends g c = quiet_ends c.args.task c.help.result c.help.ensures.undone c.help.ensures.not_met

pub returns-in-Open-clause-quiet : goal.returns-in-Open-clause-quiet
returns-in-Open-clause-quiet g c so = loud c.args.task _ c.in-Open.is refl so

pub returns-in-Box-clause-quiet : goal.returns-in-Box-clause-quiet
returns-in-Box-clause-quiet g c so = loud c.args.task _ c.in-Box.is refl so

pub returns-in-Letters-clause-quiet : goal.returns-in-Letters-clause-quiet
returns-in-Letters-clause-quiet g c so = loud c.args.task _ c.in-Letters.is refl so

pub returns-in-Send-clause-quiet : goal.returns-in-Send-clause-quiet
returns-in-Send-clause-quiet g c so = loud c.args.task _ c.in-Send.is refl so

pub returns-in-Resume-clause-quiet : goal.returns-in-Resume-clause-quiet
returns-in-Resume-clause-quiet g c so = loud c.args.task _ c.in-Resume.is refl so

pub returns-in-Retire-clause-quiet : goal.returns-in-Retire-clause-quiet
returns-in-Retire-clause-quiet g c so = c.give_up.ensures.quiet (closes c.args.task _ _ c.in-Retire.is so)

pub returns-in-Forget-clause-quiet : goal.returns-in-Forget-clause-quiet
returns-in-Forget-clause-quiet g c so = loud c.args.task _ c.in-Forget.is refl so

pub returns-in-Open-clause-met : goal.returns-in-Open-clause-met
returns-in-Open-clause-met g c is = absurd (c.open.ensures.not_met is)

pub returns-in-Box-clause-met : goal.returns-in-Box-clause-met
returns-in-Box-clause-met g c is = absurd (c.open_boxes.ensures.not_met is)

pub returns-in-Card-clause-met : goal.returns-in-Card-clause-met
returns-in-Card-clause-met g c is = absurd (c.card.ensures.not_met is)

pub returns-in-Send-clause-met : goal.returns-in-Send-clause-met
returns-in-Send-clause-met g c is = absurd (c.send.ensures.not_met is)

pub returns-in-Resume-clause-met : goal.returns-in-Resume-clause-met
returns-in-Resume-clause-met g c is = absurd (c.resume.ensures.not_met is)

pub returns-in-Status-clause-met : goal.returns-in-Status-clause-met
returns-in-Status-clause-met g c is = absurd (c.status.ensures.not_met is)

pub returns-in-Help-clause-met : goal.returns-in-Help-clause-met
returns-in-Help-clause-met g c is = absurd (c.help.ensures.not_met is)

pub returns-in-Discard-clause-done : goal.returns-in-Discard-clause-done
returns-in-Discard-clause-done g c =
    does_as g.F.File.Disk.disk g.F.File.Counted.seen c.args.task _ _ _ _ c.in-Discard.is c.discard.ensures.done

pub returns-in-Adopt-clause-done : goal.returns-in-Adopt-clause-done
returns-in-Adopt-clause-done g c =
    does_as g.F.File.Disk.disk g.F.File.Counted.seen c.args.task _ _ _ _ c.in-Adopt.is (says_nothing c.adopt.result)

pub returns-in-Discard-clause-ends : goal.returns-in-Discard-clause-ends
returns-in-Discard-clause-ends g c =
    ends_as c.args.task _ _ c.in-Discard.is (discard_ends _ c.discard.result c.discard.ensures.trouble c.discard.ensures.not_met)

pub returns-in-Adopt-clause-ends : goal.returns-in-Adopt-clause-ends
returns-in-Adopt-clause-ends g c = quiet_ends c.args.task c.adopt.result c.adopt.ensures.undone c.adopt.ensures.not_met

pub returns-in-Adopt-clause-quiet : goal.returns-in-Adopt-clause-quiet
returns-in-Adopt-clause-quiet g c so = loud c.args.task _ c.in-Adopt.is refl so

pub returns-in-Discard-clause-met : goal.returns-in-Discard-clause-met
returns-in-Discard-clause-met g c is = absurd (c.discard.ensures.not_met is)

pub returns-in-Adopt-clause-met : goal.returns-in-Adopt-clause-met
returns-in-Adopt-clause-met g c is = absurd (c.adopt.ensures.not_met is)
