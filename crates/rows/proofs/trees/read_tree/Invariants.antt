use Rattle.rows.specs.Subtrees.{Subtrees}
use Rattle.rows.specs.Known.{type_of}
use Rattle.rows.proofs.trees.read_tree.Given as goal

abbrev pub invariant-loop-i : goal.invariant-loop-i
invariant-loop-i l = Subtrees (type_of l.t) l.t.marks l.tree l.ends l.kinds l.i
