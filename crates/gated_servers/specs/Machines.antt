-- Gated servers as the machines that their records give.
use Rattle.std.proofs.Common.{refl, ◌∙◌, ap}
use Rattle.std.specs.Prelude.{◌≡◌, List, ℕ}
use Rattle.express_words.specs.declared.role.Role.TheVariants as role
use Rattle.kept_machine.specs.Machines.{Rules, RulesHold}
use Rattle.gated_servers.specs.declared.helper.GatedHelper.{GatedHelper}
use Rattle.gated_servers.specs.declared.opening.GatedOpening.{GatedOpening}
use Rattle.gated_servers.specs.Openings.{IsGatedOpening, gated_record}
use Rattle.gated_servers.specs.declared.leader.GatedLeader.{GatedLeader}
use Rattle.gated_servers.specs.Records.{IsHelperRecord, IsLeaderRecord}
use Rattle.gated_servers.specs.Helpers.{helper_after, opened_gated}
use Rattle.gated_servers.specs.Leaders.{leader_after, opened_leading}

-- the record is a helper's opening
pub record IsHelperOpening (bytes : List ℕ) : Type 0 where
  pub opening : GatedOpening
  pub is_opening : IsGatedOpening opening
  pub role : opening.server.role ≡ role.Helper
  pub is : bytes ≡ gated_record opening

-- it is the record of this helper's opening, and no frame was taken yet
pub record OpensHelper (bytes : List ℕ) (s : GatedHelper) : Type 0 where
  pub is : bytes ≡ gated_record s.opening
  pub opened : s ≡ opened_gated s.opening

abbrev pub helper_rules : Rules GatedHelper
helper_rules = record {
  is_opening = IsHelperOpening;
  is_record = IsHelperRecord;
  opens = OpensHelper;
  steps = λ bytes before now. now ≡ helper_after before bytes;
  is_same = λ a b. b ≡ a;
  wants_memory = λ bytes. ⊥;
  has_memory = λ s bytes. Unit {0};
  is_sound = λ s. Unit {0};
}

pub helper_rules_hold : RulesHold helper_rules
helper_rules_hold = record {
  itself = λ a. refl;
  then_same = λ a b c first second. second ∙ first;
  then_steps = λ bytes a b c same steps. steps ∙ ap (λ (s : GatedHelper). helper_after s bytes) same;
}

-- ---- the leader's

-- the record is a leader's opening
pub record IsLeaderOpening (bytes : List ℕ) : Type 0 where
  pub opening : GatedOpening
  pub is_opening : IsGatedOpening opening
  pub role : opening.server.role ≡ role.Leader
  pub is : bytes ≡ gated_record opening

-- it is the record of this leader's opening, and no frame was taken yet
pub record OpensLeader (bytes : List ℕ) (s : GatedLeader) : Type 0 where
  pub is : bytes ≡ gated_record s.opening
  pub opened : s ≡ opened_leading s.opening

abbrev pub leader_rules : Rules GatedLeader
leader_rules = record {
  is_opening = IsLeaderOpening;
  is_record = IsLeaderRecord;
  opens = OpensLeader;
  steps = λ bytes before now. now ≡ leader_after before bytes;
  is_same = λ a b. b ≡ a;
  wants_memory = λ bytes. ⊥;
  has_memory = λ s bytes. Unit {0};
  is_sound = λ s. Unit {0};
}

pub leader_rules_hold : RulesHold leader_rules
leader_rules_hold = record {
  itself = λ a. refl;
  then_same = λ a b c first second. second ∙ first;
  then_steps = λ bytes a b c same steps. steps ∙ ap (λ (s : GatedLeader). leader_after s bytes) same;
}
