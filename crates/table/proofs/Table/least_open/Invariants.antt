use Rattle.table.proofs.Selecting.{Chosen}
use Rattle.table.proofs.Table.least_open.Given as goal

abbrev pub invariant-loop-k : goal.invariant-loop-k
invariant-loop-k l = Chosen l.self l.k l.best
