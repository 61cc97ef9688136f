use Rattle.std.proofs.Common.{◌≡◌, ◌++◌, length, map}
use Rattle.desk_entries.specs.Records.{AreEntries, entry_record}
use Rattle.desk_ledger.proofs.opening.all_in.Given as goal

abbrev pub invariant-loop-rest : goal.invariant-loop-rest
invariant-loop-rest l =
    record {
      are : AreEntries l.entries.items;
      told : map (λ words. words.items) l.remarks
          ≡ map entry_record l.entries.items ++ map (λ words. words.items) l.rest;
    }

abbrev pub decreases-loop-rest : goal.decreases-loop-rest
decreases-loop-rest l = length l.rest
