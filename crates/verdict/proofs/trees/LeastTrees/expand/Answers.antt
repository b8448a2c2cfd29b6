-- The first tree's leaf or node is taken off, and the ranks of its parts stand in its place: by what its rank's link says.
-- There is room for them, since a node's rank is above those of its parts.
use Rattle.std.proofs.Common.{arith}
use Rattle.std.proofs.Math.Logic.{∥∥₁_elim}
use Rattle.verdict.proofs.Expanding.{leaf_taken, node_taken, top_positive, node_low, Low-prop}
use Rattle.verdict.proofs.trees.LeastTrees.expand.Goals as goal

pub returns-in-Node-clause-low : goal.returns-in-Node-clause-low
returns-in-Node-clause-low c = ∥∥₁_elim c.args.self.held (Low-prop c.args.self.table.now.settled _) (λ h.
    let t = c.in-Node.ensures h.0 h.1 in
    let s = c.args.ranks.now.words.now in
    let top = c.args.ranks.now.top in
    node_low c.args.self.table.now.settled s top c.requires.some c.requires.low _ _ (omega (arith, t.1, t.2)) (omega (arith, t.1, t.2))
    (top_positive c.args.self.table.now.settled s top c.requires.some c.requires.low c.requires.room (omega (arith, t.1))))

pub returns-in-Leaf-clause-takes : goal.returns-in-Leaf-clause-takes
returns-in-Leaf-clause-takes c S held = leaf_taken S c.args.ranks.now.words.now c.args.ranks.now.top c.requires.some c.in-Leaf.mark (c.in-Leaf.ensures S held)

pub returns-in-Node-clause-takes : goal.returns-in-Node-clause-takes
returns-in-Node-clause-takes c S held =
    let t = c.in-Node.ensures S held in
    let s = c.args.ranks.now.words.now in
    let top = c.args.ranks.now.top in
    node_taken S s top c.requires.some c.in-Node.mark c.in-Node.left c.in-Node.right t.0
    (top_positive c.args.self.table.now.settled s top c.requires.some c.requires.low c.requires.room (omega (arith, t.1)))
