-- What holds of a server's records.
use Rattle.std.proofs.Common.{◌≡◌, ℕ, List, refl, ◌∙◌, subst}
use Rattle.kept_machine.specs.Machines.{RulesHold}
use Rattle.node_restart.specs.declared.did.Did.{Did}
use Rattle.node_restart.specs.declared.machine.Server.{Server}
use Rattle.node_restart.specs.Frames.{Handed}
use Rattle.node_restart.specs.Machines.{TellsStep, server_rules}

pub server_rules_hold : RulesHold server_rules
server_rules_hold = record {
  itself = λ a. refl;
  then_same = λ a b c first second. second ∙ first;
  then_steps = λ bytes a b c same steps.
      subst (λ (s : Server). server_rules.steps bytes s c) same steps;
}

pub tells_of_same : (h : Handed) (a b now : Server) (did : Did) (out out_new : List ℕ) → b ≡ a
    → TellsStep h b now did out out_new → TellsStep h a now did out out_new
tells_of_same h a b now did out out_new same tells =
    subst (λ (s : Server). TellsStep h s now did out out_new) same tells
