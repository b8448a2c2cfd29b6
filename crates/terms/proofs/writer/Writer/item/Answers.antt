-- That the words of a leaf or a node go on from those that begin a row: by the lemmas,
-- over what the mark and the open nodes are.
use Rattle.std.proofs.Common.{refl}
use Rattle.std.proofs.lemmas.Result.{on_ok_weaker}
use Rattle.terms.proofs.Steps.{leaf_read_on, node_read_on}
use Rattle.terms.proofs.writer.Writer.item.Goals as goal

pub returns-in_ok-mark-in-Leaf-clause-row : goal.returns-in_ok-mark-in-Leaf-clause-row
returns-in_ok-mark-in-Leaf-clause-row c =
    rw c.in-Leaf.is
    (on_ok_weaker c.close.result
    (λ h s b.
    leaf_read_on _ c.in-Leaf.mark s _ c.args.self.now.path.parts.items c.mark.new.self.path.parts.items
    c.close.new.path.parts.items refl c.in_ok-mark-in-Leaf.ensures.path c.in_ok-mark-in-Leaf.ensures.below h b)
    c.close.ensures.closes)

pub returns-in_ok-enter-in-Node-clause-row : goal.returns-in_ok-enter-in-Node-clause-row
returns-in_ok-enter-in-Node-clause-row c =
    rw c.in-Node.is
    (λ s b.
    node_read_on _ c.in-Node.mark s _ c.args.self.now.path.parts.items c.mark-in-Node.new.self.path.parts.items
    c.enter.new.self.parts.items refl c.in_ok-mark-in-Node.ensures.path c.in_ok-mark-in-Node.ensures.below
    c.in_ok-enter-in-Node.ensures.some c.in_ok-enter-in-Node.ensures.one_more b)
