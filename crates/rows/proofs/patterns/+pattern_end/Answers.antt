use Rattle.std.proofs.Common.{refl, inl, inr, arith}
use Rattle.rows.proofs.PatternEnds.{as_step, none_deep, leaf_ends, some_made, none_made, none_mark, none_first, node_ends}
use Rattle.rows.proofs.patterns.+pattern_end.Goals as goal
use Rattle.rows.proofs.patterns.+pattern_end.Goals.{else-b-via-then-b+else-q-b, else-b-via-else-b}

pub returns-then-deep-eq0 : goal.returns-then-deep-eq0
returns-then-deep-eq0 t c = none_deep c.args.words.now c.args.at c.args.deep c.args.b c.if-deep-eq0.true

pub returns-in-Leaf : goal.returns-in-Leaf
returns-in-Leaf t c = rw c.then_some.ensures (leaf_ends c.args.words.now c.args.at c.args.deep c.args.b _ c.in-Leaf.a (as_step _ _ _ _ c.in-Leaf.is c.in_ok-a.ensures) (omega arith) refl)

pub returns-then-q-b : goal.returns-then-q-b
returns-then-q-b t c = some_made c.args.words.now c.args.at c.args.deep c.args.b c.in-Made.q c.in-Made._part (as_step _ _ _ _ c.in-Made.is c.in_ok-a.ensures) (omega arith) c.if-b.true c.if-q-b.true

pub returns-else-b : goal.returns-else-b
returns-else-b t c =
    none_made c.args.words.now c.args.at c.args.deep c.args.b c.in-Made.q c.in-Made._part (as_step _ _ _ _ c.in-Made.is c.in_ok-a.ensures)
    (elim c.else-b.branch [ else-b-via-then-b+else-q-b w ↦ inr w.if-q-b.false | else-b-via-else-b w ↦ inl w.if-b.false ])

pub returns-in_err-mid-in-Node : goal.returns-in_err-mid-in-Node
returns-in_err-mid-in-Node t c =
    rw c.from_residual-in_err-mid-in-Node.ensures
    (none_first c.args.words.now c.args.at c.args.deep c.args.b c.in-Node.a (as_step _ _ _ _ c.in-Node.is c.in_ok-a.ensures) c.in_err-mid-in-Node.ensures)

pub returns-then-a-b : goal.returns-then-a-b
returns-then-a-b t c = none_mark c.args.words.now c.args.at c.args.deep c.args.b c.in-Node.a (as_step _ _ _ _ c.in-Node.is c.in_ok-a.ensures) c.if-a-b.true

pub returns-in_ok-mid-in-Node : goal.returns-in_ok-mid-in-Node
returns-in_ok-mid-in-Node t c =
    node_ends c.args.words.now c.args.at c.args.deep c.args.b c.in-Node.a (as_step _ _ _ _ c.in-Node.is c.in_ok-a.ensures) c.in_ok-mid-in-Node.mid c.in_ok-mid-in-Node.ensures
    c.pattern_end-in-Node.result (omega arith) c.if-a-b.false c.pattern_end-in-Node.ensures
