-- That a pattern is read to its end: each part of a node may be one level less deep
-- than the node.
use Rattle.text.proofs.parser.Parser.+pattern.Given as goal

abbrev pub decreases-pattern : goal.decreases-pattern
decreases-pattern l = l.depth_left
