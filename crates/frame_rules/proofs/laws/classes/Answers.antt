use Rattle.frame_rules.proofs.ClassLaws as law
use Rattle.frame_rules.proofs.laws.classes.Goals as goal

pub returns-clause-from_client : goal.returns-clause-from_client
returns-clause-from_client c b = law.from_client_is b

pub returns-clause-command : goal.returns-clause-command
returns-clause-command c b = law.command_is b

pub returns-clause-reply : goal.returns-clause-reply
returns-clause-reply c b = law.reply_is b
