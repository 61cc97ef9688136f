use Rattle.std.proofs.Common.{◌≡◌, ◌+◌, ◌++◌, None, false, length}
use Rattle.std.specs.List.{filter, sum_by}
use Rattle.desk_ledger.specs.Forgetting.{GoesOn}
use Rattle.desk_ledger.specs.Handing.{box_bytes}
use Rattle.desk_ledger.specs.Tasks.{is_live}
use Rattle.desk_ledger.proofs.handing.own_live.Given as goal

abbrev pub invariant-loop-rest : goal.invariant-loop-rest
invariant-loop-rest g l =
    record {
      idle : l.client.core.client.current ≡ None;
      is_open : l.client.journal.closed ≡ false;
      goes_on : GoesOn g.D.Disk.disk l.fn.client l.client;
      capacity : l.client.core.client.capacity ≡ l.fn.client.core.client.capacity;
      owned : length l.client.core.client.owned + length (filter (is_live l.entries) l.rest)
          ≡ length l.fn.client.core.client.owned + length (filter (is_live l.entries) l.boxes);
      limit : l.client.journal.limit ≡ l.fn.client.journal.limit;
      end : l.client.journal.end + sum_by box_bytes (filter (is_live l.entries) l.rest)
          ≡ l.fn.client.journal.end + sum_by box_bytes (filter (is_live l.entries) l.boxes);
      boxes : l.client.core.boxes ++ filter (is_live l.entries) l.rest
          ≡ l.fn.client.core.boxes ++ filter (is_live l.entries) l.boxes;
      remarks : l.client.core.remarks ≡ l.fn.client.core.remarks;
    }

abbrev pub decreases-loop-rest : goal.decreases-loop-rest
decreases-loop-rest g l = length l.rest
