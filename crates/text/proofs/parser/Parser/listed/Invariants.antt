-- That no more things are listed than there are, and that the list is read to its
-- end: each thing is one more, and leaves less of the text.
use Rattle.std.proofs.Common.{◌≤◌, vec_len}
use Rattle.tokens.specs.Progress.{ahead}
use Rattle.text.proofs.parser.Parser.listed.Given as goal

abbrev pub invariant-loop-chosen : goal.invariant-loop-chosen
invariant-loop-chosen l = vec_len l.chosen ≤ l.count

abbrev pub decreases-loop-chosen : goal.decreases-loop-chosen
decreases-loop-chosen l = ahead l.self.cursor
