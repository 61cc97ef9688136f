use Rattle.std.proofs.Common.{◌≡◌, ◌-◌}
use Rattle.dpf_rules.specs.Ideal.{given_at}
use Rattle.write_hiding.specs.Choices.{plain_choice}
use Rattle.write_hiding.proofs.audit.other_end.Given as goal

abbrev pub invariant-loop-level : goal.invariant-loop-level
invariant-loop-level l =
    let c = plain_choice l.choice in
    l.state ≡ given_at l.part l.target (1 - l.choice.viewer) c.other_root c.other l.level
