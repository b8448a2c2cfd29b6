use Rattle.std.proofs.Common.{◌+◌, ◌*◌, ◌<◌, sym, subst, arith}
use Rattle.std.proofs.Props.{props}
use Rattle.std.proofs.Math.Logic.{∥∥₁_elim}
use Rattle.model.specs.Rows.{tree_row}
use Rattle.rows.specs.declared.steps.Part.{Part}
use Rattle.rows.specs.Jobs.{Begins}
use Rattle.transduce.specs.Framed.{part_tree}
use Rattle.transduce.proofs.Entering.{item_within}
use Rattle.transduce.proofs.Walking.{left_begins, right_begins}
use Rattle.transduce.proofs.source.Source.part.Goals as goal

pub number_at-requires : goal.number_at-requires
number_at-requires c = ∥∥₁_elim c.args.self.known (hlevel props) (λ k. omega (arith, item_within c.args.self k (c.args.node + 1) c.requires, k.room))

pub returns-in-Left : goal.returns-in-Left
returns-in-Left c k a x y st =
    subst (λ (d : Part). Begins c.args.self.tree.now (2 * (c.args.node + 1)) (tree_row (part_tree d x y)) × (c.args.node < c.args.node + 1)) (sym c.in-Left.is)
    (left_begins c.args.self k c.args.node a x y st, omega arith)

pub returns-in-Right : goal.returns-in-Right
returns-in-Right c k a x y st =
    subst (λ (d : Part). Begins c.args.self.tree.now (2 * c.number_at.result) (tree_row (part_tree d x y)) × (c.args.node < c.number_at.result)) (sym c.in-Right.is)
    (right_begins c.args.self k c.args.node a x y st c.number_at.result c.number_at.ensures)
