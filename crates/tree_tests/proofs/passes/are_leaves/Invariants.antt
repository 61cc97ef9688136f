use Rattle.tree_tests.proofs.passes.are_leaves.Given as goal

abbrev pub ghosts-leaves_into : goal.ghosts-leaves_into
ghosts-leaves_into a = record { name = a.blank.name; parts = a.blank.parts }
