use Rattle.std.proofs.Common.{List, ap, ◌∙◌, arith}
use Rattle.std.specs.Prelude.{get_or}
use Rattle.desk_entries.specs.declared.entry.Entry.{Entry}
use Rattle.desk_ledger.specs.Ledgers.{LedgerState}
use Rattle.desk_ledger.specs.Tasks.{is_live}
use Rattle.desk_ledger.proofs.TaskLaws.{one_more_place, counted_on}
use Rattle.desk_ledger.proofs.ledger.Ledger.live.Goals as goal

pub loop-rest-preserved : goal.loop-rest-preserved
loop-rest-preserved g c =
    let some = c.in-len1-up.len_at_least in
    let entries = c.deref.ensures.value ∙ ap (λ (l : LedgerState g.row.D.Denot). l.entries) c.self.view_is in
    let hit = c.is_live.ensures ∙ ap (λ (l : List Entry). is_live l (get_or c.loop-rest.rest.now 0 (record { number = 0; serial = 0 }))) entries in
    record {
      all = counted_on c.loop-rest.own _ c.loop-rest.rest.now some c.loop-rest.invariant.all;
      same = λ few.
          one_more_place (is_live c.args.self.now.entries) c.loop-rest.own _ _ _ c.loop-rest.rest.now c.is_live.result some hit
          (c.loop-rest.invariant.same few) (c.in_ok-add_place.ensures (omega (arith, few, some, c.loop-rest.invariant.all)));
    }
