use Rattle.express_bench.proofs.servers.by_writes.Given as goal

abbrev pub ghosts-all : goal.ghosts-all
ghosts-all a = record { name = a.blank.name; parts = a.blank.parts }
