use Rattle.table.proofs.links.Candidate.compare.Given as goal

-- the loop runs once
abbrev pub decreases-order : goal.decreases-order
decreases-order l = 0
