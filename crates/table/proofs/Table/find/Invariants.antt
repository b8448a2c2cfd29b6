use Rattle.table.proofs.Chaining.{Looking}
use Rattle.table.proofs.Table.find.Given as goal

abbrev pub invariant-loop-k : goal.invariant-loop-k
invariant-loop-k l = Looking l.self l.key l.next

abbrev pub decreases-loop-k : goal.decreases-loop-k
decreases-loop-k l = l.next
