-- That the words written so far begin the row of a tree, with the rest behind them, and
-- that writing ends: each item leaves fewer words.
use Rattle.std.proofs.Common.{◌≡◌, ℕ, List, ◌++◌, length, vec_items}
use Rattle.terms.specs.Beginnings.{ReadTo}
use Rattle.terms.proofs.writer.Writer.write.Given as goal

abbrev pub invariant-loop-heap : goal.invariant-loop-heap
invariant-loop-heap l = record {
  most : l.self.text.most ≡ l.initial.self.text.most;
  row : (s : List ℕ) × (l.words ≡ s ++ l.rest) × ReadTo l.marks.count s (vec_items l.self.path.parts);
}

abbrev pub decreases-loop-heap : goal.decreases-loop-heap
decreases-loop-heap l = length l.rest
