use Rattle.leader_core.proofs.AwaitLemmas.{opened_awaits}
use Rattle.leader_core.proofs.ClientAwaits.{client_awaits, client_tells}
use Rattle.leader_core.proofs.ReplyAwaits.{reply_awaits}
use Rattle.leader_core.proofs.laws.rows_await.Goals as goal

pub returns-clause-opened : goal.returns-clause-opened
returns-clause-opened c = opened_awaits

pub returns-clause-clients : goal.returns-clause-clients
returns-clause-clients c = client_awaits

pub returns-clause-replies : goal.returns-clause-replies
returns-clause-replies c = reply_awaits

pub returns-clause-told : goal.returns-clause-told
returns-clause-told c = client_tells
