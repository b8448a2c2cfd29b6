-- Signatures of one word: where those of leaves and nodes are one word long, so is each that some tree has. From this the samples
-- may read the first word of a part's signature.
use Rattle.std.proofs.Common.{◌≡◌, ℕ, List, length, ap, ◌∙◌}
use Rattle.model.specs.Trees.{Tree, leaf, node}
use Rattle.automata.specs.Automata.{TreeAutomaton, sig, Reached}

pub one_word : (A : TreeAutomaton) → ((a : ℕ) → length (A.on_leaf a) ≡ 1) → ((a : ℕ) (s t : List ℕ) → length (A.on_node a s t) ≡ 1)
    → (xs : List ℕ) → Reached A xs → length xs ≡ 1
one_word A f g xs r = ap length r.signed ∙ of_tree r.tree
  where
    of_tree : (t : Tree) → length (sig A t) ≡ 1
    of_tree (leaf a) = f a
    of_tree (node a l r) = g a (sig A l) (sig A r)
