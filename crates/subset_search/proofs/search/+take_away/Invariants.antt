use Rattle.subset_search.proofs.search.+take_away.Given as goal

abbrev pub decreases-take_away : goal.decreases-take_away
decreases-take_away g l = l.count
