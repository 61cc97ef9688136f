-- What holds of a client's records.
use Rattle.std.proofs.Common.{refl, ◌∙◌, ap}
use Rattle.kept_machine.specs.Machines.{RulesHold}
use Rattle.client_restart.specs.Machines.{client_rules}
use Rattle.client_restart.specs.Steps.{CoreState, step_of}

pub client_rules_hold : RulesHold client_rules
client_rules_hold = record {
  itself = λ a. record { core = refl; opening = refl };
  then_same = λ a b c first second. record {
    core = second.core ∙ first.core;
    opening = second.opening ∙ first.opening;
  };
  then_steps = λ bytes a b c same steps. record {
    note = steps.note;
    whole = steps.whole;
    is = steps.is;
    step = steps.step ∙ ap (λ (k : CoreState). step_of k steps.note) same.core;
    opening = steps.opening ∙ same.opening;
  };
}
