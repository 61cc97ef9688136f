use Rattle.std.proofs.Common.{◌≡◌, take, None}
use Rattle.client_run.specs.Accounts.{account_in, opened}
use Rattle.client_run.proofs.OwnLaws.{with_boxes}
use Rattle.client_run.proofs.account.open.Given as goal

abbrev pub invariant-loop-owned : goal.invariant-loop-owned
invariant-loop-owned l = record {
  opened : l.client ≡ opened (with_boxes (account_in l.account) (take l.owned-index l.account.owned.now));
  width : l.client.width ≡ l.account.width;
  idle : l.client.current ≡ None;
}
