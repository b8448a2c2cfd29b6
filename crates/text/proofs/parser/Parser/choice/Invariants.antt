-- That a choice leaves less of the text, and is read to its end: each thing behind a
-- bar leaves less than the one before it.
use Rattle.std.proofs.Common.{◌≤◌}
use Rattle.tokens.specs.Progress.{ahead}
use Rattle.text.proofs.parser.Parser.choice.Given as goal

abbrev pub invariant-loop-self : goal.invariant-loop-self
invariant-loop-self l = ahead l.self.cursor ≤ ahead l.initial.self.cursor

abbrev pub decreases-loop-self : goal.decreases-loop-self
decreases-loop-self l = ahead l.self.cursor
