-- What the tree of a rank begins with: a leaf where its link has no parts, else a node with the ranks of its parts.
-- The link is that of the tree, as the table holds it.
use Rattle.std.proofs.Common.{◌<◌, length, sym, refl, ap, ◌∙◌, subst, arith}
use Rattle.std.proofs.Props.{props}
use Rattle.std.proofs.Math.Logic.{∥∥₁_elim}
use Rattle.automata.specs.Classes.{at}
use Rattle.automata.specs.Links.{Link, Linked}
use Rattle.table.specs.Rows.{linkage}
use Rattle.table.specs.Tables.{tree_at}
use Rattle.verdict.proofs.Expanding.{node_linked, right_linked}
use Rattle.verdict.proofs.trees.LeastTrees.top_of.Goals as goal

pub tree-requires : goal.tree-requires
tree-requires c = ∥∥₁_elim c.args.self.held (hlevel props) (λ h. omega (arith, c.ranked.ensures, h.1.rows c.args.rank (omega (arith, h.1.ranks))))

pub overflow_sub-result-else-link-eq0 : goal.overflow_sub-result-else-link-eq0
overflow_sub-result-else-link-eq0 c = ∥∥₁_elim c.args.self.held (hlevel props) (λ h.
    let r = c.args.rank in
    let within : r < length h.0 = omega (arith, h.1.ranks) in
    let is = c.tree.ensures.is ∙ ap (tree_at c.args.self.table.now) c.ranked.ensures in
    omega (arith, right_linked h.0 (linkage c.tree.result) (at h.0 r) (subst (λ (k : Link). Linked h.0 k (at h.0 r)) (sym is) (h.1.linked r within)) (omega (arith, c.if-link-eq0.false))))

pub returns-else-link-eq0 : goal.returns-else-link-eq0
returns-else-link-eq0 c S held =
    let r = c.args.rank in
    let within : r < length S = omega (arith, held.ranks) in
    let is = c.tree.ensures.is ∙ ap (tree_at c.args.self.table.now) c.ranked.ensures in
    node_linked S held.rising r within (linkage c.tree.result) (at S r) refl
    (subst (λ (k : Link). Linked S k (at S r)) (sym is) (held.linked r within)) (omega arith)
