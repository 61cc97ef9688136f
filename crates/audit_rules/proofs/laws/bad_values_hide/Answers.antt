use Rattle.audit_rules.specs.BadWrites.{first_place, last_place}
use Rattle.audit_rules.proofs.Places.{first_is, last_is, in_order}
use Rattle.audit_rules.proofs.Soundness.{divides_numbers}
use Rattle.audit_rules.proofs.laws.bad_values_hide.Goals as goal

pub returns : goal.returns
returns c =
    let w = c.args.w.now in
    let two = c.requires.two in
    let first = (first_is w two.0 two.3).0 in
    let last = (last_is w two.1 two.4).0 in
    record {
      first = first;
      last = last;
      apart = in_order w two;
      divisor = divides_numbers w c.args.s.now (first_place w) (last_place w) c.read_words.ensures.in_range c.read_words-2.ensures.in_range first last c.requires.s;
    }
