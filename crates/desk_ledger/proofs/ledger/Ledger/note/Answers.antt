use Rattle.std.proofs.Common.{◌≡◌, ◌∷◌, [], ◌++◌, List, ◌∙◌, sym, ap, subst}
use Rattle.desk_entries.specs.declared.entry.Entry.{Entry}
use Rattle.desk_ledger.specs.Ledgers.{IsDesk}
use Rattle.desk_ledger.proofs.KeepLaws.{desk_noted, not_noted, not_stayed, stands_on}
use Rattle.desk_ledger.proofs.ledger.Ledger.note.Goals.{in-Pair-3, in-Named-3, in-Read+in-Letter-3, in-Read+in-Nothing-3, in-Retiring-3, in-Registered-3, in-Closed-3}
use Rattle.desk_ledger.proofs.ledger.Ledger.note.Goals as goal

pub invariant_of-self-in-Ok-remark : goal.invariant_of-self-in-Ok-remark
invariant_of-self-in-Ok-remark g c =
    let more : c.push_reserved.new.self.items ≡ c.self.inside.entries.items ++ c.args.entry ∷ [] =
    c.push_reserved.ensures.items ∙ ap (λ (l : List Entry). l ++ c.args.entry ∷ []) c.reserve.ensures.items in (
      subst (λ (l : List Entry). IsDesk c.self.inside.pair l c.remark.new.self.core.remarks) (sym more)
          (desk_noted g.D.Disk.disk g.D.Counted.seen c.self.inside.pair c.self.inside.entries.items c.args.entry c.deref.result.now
          c.self.inside.client c.remark.new.self (c.deref.ensures.value ∙ c.in-Ok.ensures) c.requires.is c.self.invariant.0 c.in-Ok-remark.ensures.keeps),
      λ still. stands_on g.D.Disk.disk g.D.Counted.seen _ _ _ _ c.in-Ok-remark.ensures.keeps still,
    )

pub returns-in-Err-clause-notes : goal.returns-in-Err-clause-notes
returns-in-Err-clause-notes g c =
    let said = not_noted g.D.Disk.disk g.D.Counted.seen c.args.entry c.deref.result.now c.self.inside.pair c.self.inside.entries.items c.reserve.new.self.items
    c.self.inside.client c.remark.new.self c.args.self.now c.match-entry-5.self c.in-Err.fault c.self.view_is in
    let keeps = c.in-Err.ensures.keeps in
    let record_is = c.deref.ensures.value ∙ c.in-Ok.ensures in
    elim c.match-entry-5.branch [
      | in-Pair-3 w ↦ said w.self-is c.reserve.ensures.items record_is keeps
      | in-Named-3 w ↦ said w.self-is c.reserve.ensures.items record_is keeps
      | in-Read+in-Letter-3 w ↦ said w.self-is c.reserve.ensures.items record_is keeps
      | in-Read+in-Nothing-3 w ↦ said w.self-is c.reserve.ensures.items record_is keeps
      | in-Retiring-3 w ↦ said w.self-is c.reserve.ensures.items record_is keeps
      | in-Registered-3 w ↦ said w.self-is c.reserve.ensures.items record_is keeps
      | in-Closed-3 w ↦ said w.self-is c.reserve.ensures.items record_is keeps
    ]

pub returns-in-Err-clause-stays : goal.returns-in-Err-clause-stays
returns-in-Err-clause-stays g c =
    let said = not_stayed c.self.inside.pair c.self.inside.entries.items c.reserve.new.self.items
    c.self.inside.client c.remark.new.self c.args.self.now c.match-entry-5.self c.in-Err.fault c.self.view_is in
    let stays = c.in-Err.ensures.stays in
    elim c.match-entry-5.branch [
      | in-Pair-3 w ↦ said w.self-is c.reserve.ensures.items stays
      | in-Named-3 w ↦ said w.self-is c.reserve.ensures.items stays
      | in-Read+in-Letter-3 w ↦ said w.self-is c.reserve.ensures.items stays
      | in-Read+in-Nothing-3 w ↦ said w.self-is c.reserve.ensures.items stays
      | in-Retiring-3 w ↦ said w.self-is c.reserve.ensures.items stays
      | in-Registered-3 w ↦ said w.self-is c.reserve.ensures.items stays
      | in-Closed-3 w ↦ said w.self-is c.reserve.ensures.items stays
    ]
