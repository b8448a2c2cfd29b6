use Rattle.std.proofs.Common.{ℕ, get_or, sym, subst, arith}
use Rattle.rows.specs.Subtrees.{SubtreeAt}
use Rattle.rows.specs.Known.{type_of}
use Rattle.rows.proofs.Known.{type_known}
use Rattle.rows.proofs.SubtreeReads.{subtree_below, as_item, left_part, right_part, none_leaf, some_leaf, none_mark, none_left, none_right, some_node}
use Rattle.rows.proofs.trees.subtree_at.Goals as goal
use Rattle.rows.proofs.trees.subtree_at.Goals.{then-a-t-2-via-then-a-t-2, then-a-t-2-via-else-a-t-2+then-i-count}

pub returns-then-a-t : goal.returns-then-a-t
returns-then-a-t c = none_leaf (type_of c.args.t) c.args.t.marks c.args.tree.now c.args.i c.in-Leaf.a (as_item _ _ _ _ c.in-Leaf.is c.in_ok-a.ensures) c.if-a-t.true

pub returns-else-a-t : goal.returns-else-a-t
returns-else-a-t c = some_leaf (type_of c.args.t) c.args.t.marks c.args.tree.now c.args.i c.in-Leaf.a _ (as_item _ _ _ _ c.in-Leaf.is c.in_ok-a.ensures) c.if-a-t.false c.leaf_kind-kind.ensures.value

pub returns-then-a-t-2 : goal.returns-then-a-t-2
returns-then-a-t-2 c =
    let st = (as_item _ _ _ _ c.in-Node.is c.in_ok-a.ensures) in
    elim c.then-a-t-2.branch [
      | then-a-t-2-via-then-a-t-2 w ↦ none_mark (type_of c.args.t) c.args.t.marks c.args.tree.now c.args.i c.in-Node.a st w.if-a-t-2.true
      | then-a-t-2-via-else-a-t-2+then-i-count w ↦ none_left (type_of c.args.t) c.args.t.marks c.args.tree.now c.args.i c.in-Node.a st (omega arith)
    ]

pub returns-then-right-count : goal.returns-then-right-count
returns-then-right-count c =
    let left = left_part (type_of c.args.t) c.args.t.marks c.args.tree.now c.args.ends.now c.args.kinds.now c.args.i c.number_at-right.result c.requires.behind c.number_at-right.ensures (omega arith) in
    none_right (type_of c.args.t) c.args.t.marks c.args.tree.now c.args.i c.in-Node.a (as_item _ _ _ _ c.in-Node.is c.in_ok-a.ensures) _ _ left (omega arith)

pub node_kind-kind-requires : goal.node_kind-kind-requires
node_kind-kind-requires c =
    let left = left_part (type_of c.args.t) c.args.t.marks c.args.tree.now c.args.ends.now c.args.kinds.now c.args.i c.number_at-right.result c.requires.behind c.number_at-right.ensures (omega arith) in
    let right = right_part (type_of c.args.t) c.args.t.marks c.args.tree.now c.args.ends.now c.args.kinds.now c.args.i c.number_at-right.result c.requires.behind _ left (omega arith) in
    let w = (type_known c.args.t).ok.well_formed in
    record {
      mark = c.if-a-t-2.false;
      left = subtree_below (type_of c.args.t) c.args.t.marks c.args.tree.now w left;
      right = subtree_below (type_of c.args.t) c.args.t.marks c.args.tree.now w right;
    }

pub returns-else-right-count : goal.returns-else-right-count
returns-else-right-count c =
    let left = left_part (type_of c.args.t) c.args.t.marks c.args.tree.now c.args.ends.now c.args.kinds.now c.args.i c.number_at-right.result c.requires.behind c.number_at-right.ensures (omega arith) in
    let right = right_part (type_of c.args.t) c.args.t.marks c.args.tree.now c.args.ends.now c.args.kinds.now c.args.i c.number_at-right.result c.requires.behind _ left (omega arith) in
    some_node (type_of c.args.t) c.args.t.marks c.args.tree.now c.args.i c.in-Node.a (as_item _ _ _ _ c.in-Node.is c.in_ok-a.ensures) _ _ left _ _ _ c.if-a-t-2.false (subst (λ (z : ℕ). SubtreeAt (type_of c.args.t) c.args.t.marks c.args.tree.now c.number_at-right.result z (get_or c.args.kinds.now c.number_at-right.result 0)) (sym c.number_at-end.ensures) right) c.node_kind-kind.ensures.value
