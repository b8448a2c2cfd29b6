-- That the words read so far begin the row of a tree, and that reading ends: each
-- part leaves less of the text.
use Rattle.std.proofs.Common.{◌≡◌, vec_items}
use Rattle.tokens.specs.Progress.{ahead}
use Rattle.terms.specs.Beginnings.{ReadTo}
use Rattle.terms.proofs.reader.Reader.read.Given as goal

abbrev pub invariant-loop-self : goal.invariant-loop-self
invariant-loop-self l = record {
  most : l.self.words.most ≡ l.initial.self.words.most;
  row : ReadTo l.marks.count (vec_items l.self.words.items) (vec_items l.self.path.parts);
}

abbrev pub decreases-loop-self : goal.decreases-loop-self
decreases-loop-self l = ahead l.self.cursor
