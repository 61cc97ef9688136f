use Rattle.std.proofs.Common.{◌≡◌, ◌+◌, ◌++◌, None, false, length, map}
use Rattle.std.specs.List.{sum_by}
use Rattle.desk_entries.specs.Records.{AreEntries, entry_record}
use Rattle.desk_ledger.specs.Forgetting.{GoesOn}
use Rattle.desk_ledger.specs.Handing.{entry_bytes}
use Rattle.desk_ledger.proofs.handing.note_all.Given as goal

abbrev pub invariant-loop-rest : goal.invariant-loop-rest
invariant-loop-rest g l =
    record {
      idle : l.client.core.client.current ≡ None;
      is_open : l.client.journal.closed ≡ false;
      are : AreEntries l.rest;
      goes_on : GoesOn g.D.Disk.disk l.fn.client l.client;
      capacity : l.client.core.client.capacity ≡ l.fn.client.core.client.capacity;
      owned : length l.client.core.client.owned ≡ length l.fn.client.core.client.owned;
      limit : l.client.journal.limit ≡ l.fn.client.journal.limit;
      end : l.client.journal.end + sum_by entry_bytes l.rest ≡ l.fn.client.journal.end + sum_by entry_bytes l.entries;
      boxes : l.client.core.boxes ≡ l.fn.client.core.boxes;
      remarks : l.client.core.remarks ++ map entry_record l.rest
          ≡ l.fn.client.core.remarks ++ map entry_record l.entries;
    }

abbrev pub decreases-loop-rest : goal.decreases-loop-rest
decreases-loop-rest g l = length l.rest
