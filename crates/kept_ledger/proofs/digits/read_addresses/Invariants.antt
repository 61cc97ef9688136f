use Rattle.std.proofs.Common.{◌≡◌, ◌≤◌, ◌+◌, ◌*◌, ◌%◌, ◌++◌, length, take}
use Rattle.kept_ledger.specs.Notes.{AreAddresses, address_bytes}
use Rattle.kept_ledger.proofs.digits.read_addresses.Given as goal

abbrev pub invariant-loop-rest : goal.invariant-loop-rest
invariant-loop-rest l =
    record {
      spelled : address_bytes (take l.used l.room) ++ l.rest ≡ l.bytes;
      fits : AreAddresses (take l.used l.room);
      whole : length l.rest % 16 ≡ 0;
      within : 16 * l.used + length l.rest ≤ 16 * length l.room;
    }

abbrev pub decreases-loop-rest : goal.decreases-loop-rest
decreases-loop-rest l = length l.rest
