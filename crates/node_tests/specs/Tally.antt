-- A tally: the least machine that is worth keeping.
use Rattle.std.proofs.Common.{refl, ◌∙◌, subst}
use Rattle.std.specs.Prelude.{◌≡◌, ◌+◌, ◌%◌, ◌<◌, ℕ, List, [], ◌∷◌}
use Rattle.kept_machine.specs.Machines.{Rules, RulesHold}
use Rattle.node_tests.specs.declared.tally.Tally.{Tally}

-- the record of a number that is added
pub record IsAdding (bytes : List ℕ) : Type 0 where
  pub number : ℕ
  pub fits : number < 256
  pub is : bytes ≡ 1 ∷ number ∷ []

-- the number was added, past 255 from 0 on
pub record Adds (bytes : List ℕ) (before now : Tally) : Type 0 where
  pub number : ℕ
  pub is : bytes ≡ 1 ∷ number ∷ []
  pub sum : now.total ≡ (before.total + number) % 256

abbrev pub tally_rules : Rules Tally
tally_rules = record {
  is_opening = λ bytes. bytes ≡ 0 ∷ [];
  is_record = IsAdding;
  opens = λ bytes tally. tally.total ≡ 0;
  steps = Adds;
  is_same = λ a b. b ≡ a;
  wants_memory = λ bytes. ⊥;
  has_memory = λ tally bytes. Unit {0};
  is_sound = λ tally. Unit {0};
}

pub tally_rules_hold : RulesHold tally_rules
tally_rules_hold = record {
  itself = λ a. refl;
  then_same = λ a b c first second. second ∙ first;
  then_steps = λ bytes a b c same steps. subst (λ (t : Tally). Adds bytes t c) same steps;
}
