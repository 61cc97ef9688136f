use Rattle.settings_text.proofs.TextExact.{client_text}
use Rattle.settings_text.proofs.laws.client_is_read_exactly.Goals as goal

pub returns-clause-found : goal.returns-clause-found
returns-clause-found c text s h = (client_text text).found s h

pub returns-clause-only : goal.returns-clause-only
returns-clause-only c text s h = (client_text text).only s h

pub returns-clause-bad : goal.returns-clause-bad
returns-clause-bad c text key h = (client_text text).bad key h

pub returns-clause-only_bad : goal.returns-clause-only_bad
returns-clause-only_bad c text key h = (client_text text).only_bad key h
