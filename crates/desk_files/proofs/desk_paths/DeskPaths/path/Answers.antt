use Rattle.std.proofs.Common.{rules}
use Rattle.desk_files.proofs.PathLaws.{one_path}
use Rattle.desk_files.proofs.desk_paths.DeskPaths.path.Goals as goal

pub returns-in-Ledger-clause-alone : goal.returns-in-Ledger-clause-alone
returns-in-Ledger-clause-alone c =
    one_path c.args.file c.args.self.now c.as_str.result.now (search rules)

pub returns-in-NextLedger-clause-alone : goal.returns-in-NextLedger-clause-alone
returns-in-NextLedger-clause-alone c =
    one_path c.args.file c.args.self.now c.as_str-in-NextLedger.result.now (search rules)

pub returns-in-Outbox-clause-alone : goal.returns-in-Outbox-clause-alone
returns-in-Outbox-clause-alone c =
    one_path c.args.file c.args.self.now c.path_at.result.now (search rules)

pub returns-in-NextOutbox-clause-alone : goal.returns-in-NextOutbox-clause-alone
returns-in-NextOutbox-clause-alone c =
    one_path c.args.file c.args.self.now c.path_at-in-NextOutbox.result.now (search rules)
