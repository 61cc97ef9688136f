use Rattle.std.proofs.Common.{sym}
use Rattle.express_words.proofs.SettledLaws.{settings_settle}
use Rattle.express_words.proofs.settings.Settings.new.Goals as goal

pub returns-then-are_in_limits-clause-value : goal.returns-then-are_in_limits-clause-value
returns-then-are_in_limits-clause-value c = sym (settings_settle _)
