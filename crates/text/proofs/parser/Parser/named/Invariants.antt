-- That names are read to their end: each name that is declared leaves less of the
-- text.
use Rattle.tokens.specs.Progress.{ahead}
use Rattle.text.proofs.parser.Parser.named.Given as goal

abbrev pub decreases-loop-self : goal.decreases-loop-self
decreases-loop-self l = ahead l.self.cursor
