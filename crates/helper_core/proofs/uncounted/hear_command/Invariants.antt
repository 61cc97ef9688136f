use Rattle.helper_core.proofs.uncounted.hear_command.Given as goal

abbrev pub ghosts-carry_counted : goal.ghosts-carry_counted
ghosts-carry_counted a = record { name = a.blank.name; parts = a.blank.parts }
