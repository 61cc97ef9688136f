use Rattle.kept_ledger.proofs.NameLaws.{no_address_twice}
use Rattle.kept_ledger.proofs.laws.no_address_stands_twice.Goals as goal

pub returns : goal.returns
returns c = no_address_twice
