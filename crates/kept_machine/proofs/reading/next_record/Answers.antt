use Rattle.std.proofs.Common.{refl, take, true, false, ◌≡◌, sym, ◌∙◌}
use Rattle.node_journal.specs.Records.{records_from}
use Rattle.kept_machine.proofs.reading.next_record.Goals as goal

pub returns-else-is_record-clause-foreign : goal.returns-else-is_record-clause-foreign
returns-else-is_record-clause-foreign g c = (
  refl,
  (
    take c.in-Ok-Some.len c.next.new.out,
    λ is. let e : true ≡ false = sym (c.is_record.ensures.1 is) ∙ c.if-is_record.false in cc e,
    λ d read. (records_from c.next.new.self.end d, c.in-Ok-Some.ensures.first_of_more c.in-Ok-Some.len (cc) d read),
  ),
)
