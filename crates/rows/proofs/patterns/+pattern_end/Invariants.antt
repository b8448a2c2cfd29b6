use Rattle.rows.proofs.patterns.+pattern_end.Given as goal

abbrev pub decreases-pattern_end : goal.decreases-pattern_end
decreases-pattern_end l = l.deep
