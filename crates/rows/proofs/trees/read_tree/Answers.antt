use Rattle.std.proofs.Common.{◌-◌, ◌/◌, length, sym, ◌∙◌, inl, inr, arith}
use Rattle.rows.specs.Known.{type_of}
use Rattle.rows.proofs.SubtreeReads.{none_length, none_subtree, one_more, none_end, some_tree}
use Rattle.rows.proofs.trees.read_tree.Goals as goal
use Rattle.rows.proofs.trees.read_tree.Goals.{then-count-eq0-via-then-count-eq0, then-count-eq0-via-else-count-eq0+then-tree-ne0}

pub returns-then-count-eq0 : goal.returns-then-count-eq0
returns-then-count-eq0 c =
    none_length (type_of c.args.t) c.args.t.marks c.args.tree.now
    (elim c.then-count-eq0.branch [
      | then-count-eq0-via-then-count-eq0 w ↦ inl w.if-count-eq0.true
      | then-count-eq0-via-else-count-eq0+then-tree-ne0 w ↦ inr w.if-tree-ne0.true
    ])

pub returns-in_err-x : goal.returns-in_err-x
returns-in_err-x c = rw c.from_residual.ensures (none_subtree (type_of c.args.t) c.args.t.marks c.args.tree.now (c.loop-i.i - 1) (omega arith) c.in_err-x.ensures)

pub loop-i-preserved : goal.loop-i-preserved
loop-i-preserved c =
    one_more (type_of c.args.t) c.args.t.marks c.args.tree.now (c.loop-i.i - 1) c.loop-i.i _ _ _ _ _ (omega arith) (omega arith)
    c.loop-i.invariant c.in_ok-x.ensures c.set_number.ensures

pub returns-then-number_at-count : goal.returns-then-number_at-count
returns-then-number_at-count c =
    none_end (type_of c.args.t) c.args.t.marks c.args.tree.now c.loop-i.ends c.loop-i.kinds (λ j low high. c.loop-i.invariant j (omega arith) high) (length c.args.tree.now / 2) (omega arith) (omega arith)
    (λ e. c.if-number_at-count.true (c.number_at.ensures ∙ e))

pub returns : goal.returns
returns c =
    some_tree (type_of c.args.t) c.args.t.marks c.args.tree.now c.loop-i.ends c.loop-i.kinds (λ j low high. c.loop-i.invariant j (omega arith) high) (length c.args.tree.now / 2) (omega arith) (omega arith)
    (sym c.number_at.ensures ∙ c.if-number_at-count.false)
