use Rattle.std.proofs.Common.{◌≡◌, ◌≤◌, ◌+◌, ◌*◌, ◌++◌, length, take}
use Rattle.std.specs.List.{flat_map}
use Rattle.kept_ledger.specs.Written.{written}
use Rattle.kept_ledger.proofs.digits.write_addresses.Given as goal

abbrev pub invariant-loop-rest : goal.invariant-loop-rest
invariant-loop-rest l =
    record {
      spelled : take l.used l.room ++ flat_map written l.rest ≡ flat_map written l.addresses;
      within : l.used + 16 * length l.rest ≤ length l.room;
    }

abbrev pub decreases-loop-rest : goal.decreases-loop-rest
decreases-loop-rest l = length l.rest
