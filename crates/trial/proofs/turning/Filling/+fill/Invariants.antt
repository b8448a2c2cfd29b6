use Rattle.trial.proofs.turning.Filling.+fill.Given as goal

abbrev pub decreases-fill : goal.decreases-fill
decreases-fill l = l.depth
