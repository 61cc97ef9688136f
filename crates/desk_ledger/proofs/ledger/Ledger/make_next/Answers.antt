use Rattle.std.proofs.Common.{◌+◌, ◌++◌, List, length, map, sym, ◌∙◌, ap, subst}
use Rattle.std.specs.List.{sum_by}
use Rattle.node_journal.specs.Journal.{JournalState}
use Rattle.client_restart.specs.Steps.{CoreState}
use Rattle.desk_entries.specs.declared.entry.Entry.{Entry}
use Rattle.desk_entries.specs.Records.{AreEntries, entry_record}
use Rattle.desk_ledger.specs.declared.pair.Pair.{Pair}
use Rattle.desk_ledger.specs.Forgetting.{live_boxes}
use Rattle.desk_ledger.specs.Handing.{LacksRoom, box_bytes, entry_bytes}
use Rattle.desk_ledger.specs.Ledgers.{IsOfPair, LedgerState}
use Rattle.desk_ledger.proofs.ForgetLaws.{first_client, first_room, new_desk, new_serial, new_stands}
use Rattle.desk_ledger.proofs.HandLaws.{lacks_making}
use Rattle.desk_ledger.proofs.ledger.Ledger.make_next.Goals as goal

pub hand_over-requires-clause-idle : goal.hand_over-requires-clause-idle
hand_over-requires-clause-idle g c = ap (λ (k : CoreState). k.client.current) c.in-Ok-create.ensures.core ∙ (first_client c.args.opening.now).1

pub hand_over-requires-clause-are : goal.hand_over-requires-clause-are
hand_over-requires-clause-are g c =
    subst (λ (l : List Entry). AreEntries l) (sym c.deref.ensures.value) c.requires.are

pub invariant_of-result : goal.invariant_of-result
invariant_of-result g c =
    let now = c.hand_over.new.client in
    let told = c.in-Ok-hand_over.ensures.remarks
    ∙ ap (λ (l : List Entry). c.in-Ok-create.client.core.remarks ++ map entry_record l) c.deref.ensures.value in
    let same = c.in-Ok.ensures ∙ ap (λ (l : LedgerState g.row.D.Denot). l.pair) c.self.view_is in
    let pair = subst (λ (p : Pair). IsOfPair p c.args.entries.items) (sym same) c.requires.pair in (
      new_desk c.in-Ok.pair c.args.entries.items c.args.opening.now c.in-Ok-create.client.core now.core c.requires.are pair
          c.in-Ok-create.ensures.core told,
      λ still. new_stands g.E.Disk.disk c.args.opening.now c.in-Ok-create.client now c.in-Ok-create.ensures.opening c.in-Ok-create.ensures.core
          c.in-Ok-create.ensures.held c.in-Ok-hand_over.ensures.goes_on still,
    )

pub returns-in-Ok-hand_over-clause-serial : goal.returns-in-Ok-hand_over-clause-serial
returns-in-Ok-hand_over-clause-serial g c =
    (new_serial g.E.Disk.disk c.args.opening.now c.in-Ok-create.client c.hand_over.new.client c.in-Ok-create.ensures.core
    c.in-Ok-hand_over.ensures.goes_on).0

pub returns-in-Err-hand_over-clause-making : goal.returns-in-Err-hand_over-clause-making
returns-in-Err-hand_over-clause-making g c =
    let made = c.in-Ok-create.client in
    let room = first_room c.args.opening.now in
    let lacks = subst (λ (l : List Entry). LacksRoom (length (live_boxes c.args.self.now))
    (sum_by box_bytes (live_boxes c.args.self.now) + sum_by entry_bytes l) made c.in-Err-hand_over.fault)
    c.deref.ensures.value c.in-Err-hand_over.ensures.fault in
    lacks_making c.args.opening.now.capacity c.args.limit _ (live_boxes c.args.self.now) c.args.entries.items made c.in-Err-hand_over.fault lacks
    (ap (λ (k : CoreState). k.client.capacity) c.in-Ok-create.ensures.core ∙ room.0)
    (ap (λ (k : CoreState). length k.client.owned) c.in-Ok-create.ensures.core ∙ room.1)
    (ap (λ (j : JournalState). j.limit) c.in-Ok-create.ensures.journal) (ap (λ (j : JournalState). j.end) c.in-Ok-create.ensures.journal)
