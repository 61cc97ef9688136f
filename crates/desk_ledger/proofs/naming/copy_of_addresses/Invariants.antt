use Rattle.std.proofs.Common.{◌≡◌, ◌++◌, length}
use Rattle.desk_entries.specs.Entries.{AreAddresses}
use Rattle.desk_ledger.proofs.naming.copy_of_addresses.Given as goal

abbrev pub invariant-loop-rest : goal.invariant-loop-rest
invariant-loop-rest l =
    record {
      same : l.copy.items ++ l.rest ≡ l.addresses;
      are : AreAddresses l.copy.items;
    }

abbrev pub decreases-loop-rest : goal.decreases-loop-rest
decreases-loop-rest l = length l.rest
