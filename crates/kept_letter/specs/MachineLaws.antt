-- What holds of a letter's records.
use Rattle.std.proofs.Common.{refl, ◌∙◌, ap}
use Rattle.kept_machine.specs.Machines.{RulesHold}
use Rattle.kept_letter.specs.Letters.{LetterState, step_of}
use Rattle.kept_letter.specs.Machines.{letter_rules}

pub letter_rules_hold : RulesHold letter_rules
letter_rules_hold = record {
  itself = λ a. refl;
  then_same = λ a b c first second. second ∙ first;
  then_steps = λ bytes a b c same steps. record {
    note = steps.note;
    whole = steps.whole;
    is = steps.is;
    step = steps.step ∙ ap (λ (s : LetterState). step_of s steps.note) same;
  };
}
