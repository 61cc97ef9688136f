use Rattle.std.proofs.Common.{◌∙◌, sym, subst}
use Rattle.desk_entries.specs.declared.entry.Entry.TheVariants.{Named}
use Rattle.desk_entries.specs.declared.entry.NamedBoxes.{NamedBoxes}
use Rattle.desk_entries.specs.Records.{IsEntry}
use Rattle.desk_ledger.proofs.NameLaws.{taken_entry}
use Rattle.desk_ledger.proofs.ledger.Ledger.add_name.Goals as goal

pub note-requires : goal.note-requires
note-requires g c =
    let l = c.args.self.now in
    record {
      is = subst (λ (n : NamedBoxes). IsEntry (Named n)) (sym c.in-Ok.ensures.value)
          (taken_entry l.client.opening.capacity l.client.core.boxes l.entries c.args.name.now c.args.addresses.now c.args.until
          (sym c.in-Ok-None.ensures.fault ∙ c.in-Ok-None.field-0-is) c.in-Ok.ensures.are c.requires.until);
    }
