-- Every kind that a well-formed type gives is one of its kinds: a table's entries are, and so is the default 0 past its end.
use Rattle.std.proofs.Common.{ℕ, zero, suc, ◌<◌, List, [], ◌∷◌, get_or, arith}
use Rattle.model.specs.Trees.{Tree, leaf, node}
use Rattle.model.specs.Types.{TreeType, Below, node_place, kind, WellFormedType}

read_below : (k : ℕ) (xs : List ℕ) (i : ℕ) → 0 < k → Below k xs → get_or xs i 0 < k
read_below k [] i h b = h
read_below k (x ∷ xs) zero h b = b.0
read_below k (x ∷ xs) (suc i) h b = read_below k xs i h b.1

pub kind_below : (m : ℕ) (t : TreeType) → WellFormedType m t → (x : Tree) → kind t x < t.kinds
kind_below m t w (leaf a) = read_below t.kinds t.leaves a (omega (arith, w.some_kind)) w.leaves_below
kind_below m t w (node a l r) =
    read_below t.kinds t.nodes (node_place t.kinds a (kind t l) (kind t r)) (omega (arith, w.some_kind)) w.nodes_below
