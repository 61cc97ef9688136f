use Rattle.express_bench.proofs.passes.by_passes.Given as goal

abbrev pub ghosts-pass : goal.ghosts-pass
ghosts-pass a = record { name = a.blank.name; parts = a.blank.parts }
