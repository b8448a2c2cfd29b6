-- That the rules of a type are read to their end: each rule that is read leaves less
-- of the text.
use Rattle.tokens.specs.Progress.{ahead}
use Rattle.text.proofs.parser.Parser.automaton_rules.Given as goal

abbrev pub decreases-loop-self : goal.decreases-loop-self
decreases-loop-self l = ahead l.self.cursor
