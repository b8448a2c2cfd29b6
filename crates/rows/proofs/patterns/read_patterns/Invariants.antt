use Rattle.rows.specs.Jobs.{PatternsKnown}
use Rattle.rows.proofs.patterns.read_patterns.Given as goal

abbrev pub invariant-loop-i : goal.invariant-loop-i
invariant-loop-i l = PatternsKnown l.words l.initial.index l.index l.initial.here l.here l.first l.i l.b
