use Rattle.std.proofs.Common.{◌-◌, ℕ, sym, ap, ◌∙◌, subst, arith}
use Rattle.model.specs.Types.{TreeType, kind_of_leaf, kind_of_node}
use Rattle.rows.proofs.PatternEnds.{as_step}
use Rattle.signatures.specs.Evaluating.{Evaluable}
use Rattle.signatures.proofs.Evaluated.{some_step, step_found, leaf_mark, leaf_value, part_value, inner, node_value}
use Rattle.signatures.proofs.evaluate.+evaluate.Goals as goal

pub unwrap-requires : goal.unwrap-requires
unwrap-requires t c = some_step c.args.job c.args.at c.args.deep c.args.parts.left.now c.args.parts.right.now c.requires.0 c.requires.1 c.step_at.result c.step_at.ensures

pub leaf_kind-requires : goal.leaf_kind-requires
leaf_kind-requires t c = let m = leaf_mark c.args.job c.args.at c.args.deep c.args.parts.left.now c.args.parts.right.now c.in-Leaf.mark (as_step _ _ _ _ c.in-Leaf.is (step_found c.args.job.words.now c.args.at c.step_at.result c.unwrap.result c.unwrap.ensures c.step_at.ensures)) c.requires.0 c.requires.1 in omega (arith, c.to_type-to.ensures.marks)

pub returns-in-Leaf : goal.returns-in-Leaf
returns-in-Leaf t c p e =
    let to = c.to_type-to.ensures in
    leaf_value c.args.job c.args.at c.args.deep c.args.parts.left.now c.args.parts.right.now c.in-Leaf.mark c.leaf_kind.result (as_step _ _ _ _ c.in-Leaf.is (step_found c.args.job.words.now c.args.at c.step_at.result c.unwrap.result c.unwrap.ensures c.step_at.ensures))
    (c.leaf_kind.ensures.value ∙ ap (λ (u : TreeType). kind_of_leaf u c.in-Leaf.mark) to.says) (omega (arith, c.leaf_kind.ensures.below, to.kinds)) p e

pub returns-in-Made : goal.returns-in-Made
returns-in-Made t c p e = part_value c.args.job c.args.at c.args.deep c.args.parts.left.now c.args.parts.right.now c.in-Made.state c.kind.result c.in-Made.part (as_step _ _ _ _ c.in-Made.is (step_found c.args.job.words.now c.args.at c.step_at.result c.unwrap.result c.unwrap.ensures c.step_at.ensures)) c.kind.ensures p e

pub overflow_sub-deep : goal.overflow_sub-deep
overflow_sub-deep t c = (inner c.args.job c.args.at c.args.deep c.args.parts.left.now c.args.parts.right.now c.in-Node.mark (as_step _ _ _ _ c.in-Node.is (step_found c.args.job.words.now c.args.at c.step_at.result c.unwrap.result c.unwrap.ensures c.step_at.ensures)) c.requires.0 c.requires.1).deeper

pub evaluate-x-requires : goal.evaluate-x-requires
evaluate-x-requires t c =
    let n = inner c.args.job c.args.at c.args.deep c.args.parts.left.now c.args.parts.right.now c.in-Node.mark (as_step _ _ _ _ c.in-Node.is (step_found c.args.job.words.now c.args.at c.step_at.result c.unwrap.result c.unwrap.ensures c.step_at.ensures)) c.requires.0 c.requires.1 in
    (omega (arith, c.decreases, n.deeper), (n.first, n.first_ready))

pub overflow_sub-deep-in-Node : goal.overflow_sub-deep-in-Node
overflow_sub-deep-in-Node t c = (inner c.args.job c.args.at c.args.deep c.args.parts.left.now c.args.parts.right.now c.in-Node.mark (as_step _ _ _ _ c.in-Node.is (step_found c.args.job.words.now c.args.at c.step_at.result c.unwrap.result c.unwrap.ensures c.step_at.ensures)) c.requires.0 c.requires.1).deeper

pub evaluate-y-requires : goal.evaluate-y-requires
evaluate-y-requires t c =
    let n = inner c.args.job c.args.at c.args.deep c.args.parts.left.now c.args.parts.right.now c.in-Node.mark (as_step _ _ _ _ c.in-Node.is (step_found c.args.job.words.now c.args.at c.step_at.result c.unwrap.result c.unwrap.ensures c.step_at.ensures)) c.requires.0 c.requires.1 in
    let x = c.evaluate-x.ensures n.first n.first_ready in (
      omega (arith, c.decreases, n.deeper),
      (n.second, subst (λ (z : ℕ). Evaluable c.args.job z (c.args.deep - 1) c.args.parts.left.now c.args.parts.right.now n.second) (sym x.ends) n.second_ready),
    )

pub node_kind-requires : goal.node_kind-requires
node_kind-requires t c =
    let n = inner c.args.job c.args.at c.args.deep c.args.parts.left.now c.args.parts.right.now c.in-Node.mark (as_step _ _ _ _ c.in-Node.is (step_found c.args.job.words.now c.args.at c.step_at.result c.unwrap.result c.unwrap.ensures c.step_at.ensures)) c.requires.0 c.requires.1 in
    let x = c.evaluate-x.ensures n.first n.first_ready in
    let y = c.evaluate-y.ensures n.second (subst (λ (z : ℕ). Evaluable c.args.job z (c.args.deep - 1) c.args.parts.left.now c.args.parts.right.now n.second) (sym x.ends) n.second_ready) in
    let to = c.to_type-to.ensures in
    record { mark = omega (arith, n.mark, to.marks); left = omega (arith, x.below, to.kinds); right = omega (arith, y.below, to.kinds) }

pub returns-in-Node : goal.returns-in-Node
returns-in-Node t c p e =
    let to = c.to_type-to.ensures in
    node_value c.args.job c.args.at c.args.deep c.args.parts.left.now c.args.parts.right.now c.in-Node.mark c.node_kind.result c.evaluate-x.result.kind c.evaluate-y.result.kind (as_step _ _ _ _ c.in-Node.is (step_found c.args.job.words.now c.args.at c.step_at.result c.unwrap.result c.unwrap.ensures c.step_at.ensures))
    c.evaluate-x.result.end c.evaluate-y.result.end c.evaluate-x.ensures c.evaluate-y.ensures
    (c.node_kind.ensures.value ∙ ap (λ (u : TreeType). kind_of_node u c.in-Node.mark c.evaluate-x.result.kind c.evaluate-y.result.kind) to.says) (omega (arith, c.node_kind.ensures.below, to.kinds)) p e
