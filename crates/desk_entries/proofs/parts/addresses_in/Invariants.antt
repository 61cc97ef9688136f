use Rattle.std.proofs.Common.{◌≡◌, ◌++◌, ◌%◌, length}
use Rattle.std.specs.Int.{w128, to_be_bytes}
use Rattle.std.specs.List.{flat_map}
use Rattle.desk_entries.specs.Entries.{AreAddresses}
use Rattle.desk_entries.proofs.parts.addresses_in.Given as goal

abbrev pub invariant-loop-rest : goal.invariant-loop-rest
invariant-loop-rest l =
    record {
      spelled : flat_map (to_be_bytes w128) l.addresses.items ++ l.rest ≡ l.bytes;
      fits : AreAddresses l.addresses.items;
      whole : length l.rest % 16 ≡ 0;
    }

abbrev pub decreases-loop-rest : goal.decreases-loop-rest
decreases-loop-rest l = length l.rest
