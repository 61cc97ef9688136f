use Rattle.std.proofs.Common.{ap, sym, ◌∙◌, position}
use Rattle.letter_copies.specs.Copies.{CopiesState, is_waiting}
use Rattle.letter_copies.proofs.StandingLaws.{found_waits}
use Rattle.letter_copies.proofs.copies.Copies.begin.Goals as goal

-- src/copies.rt:119:13
pub invariant_of-self : goal.invariant_of-self
invariant_of-self c = record {
  some = c.self.invariant.some;
  few = c.self.invariant.few;
  length_is = c.self.invariant.length_is;
  present_is = found_waits c.self.inside.standings.items c.in-Some.copy
      (ap (λ (s : CopiesState). position is_waiting s.standings) c.self.view_is
      ∙ sym c.waiting.ensures ∙ c.in-Some.is);
}
