use Rattle.std.proofs.Common.{Some, None}
use Rattle.owner_mail.proofs.MailLaws.{newest_lent}
use Rattle.owner_mail.proofs.mail.seconds_of.Goals as goal

pub returns-in-Some : goal.returns-in-Some
returns-in-Some c = newest_lent c.args.readings.now (Some c.in-Some.newest.now) c.in-Some.ensures.value

pub returns-in-None : goal.returns-in-None
returns-in-None c = newest_lent c.args.readings.now None c.in-None.ensures.value
