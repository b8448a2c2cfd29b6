-- Binary trees with marks, and the order in which they are compared.
use Rattle.std.specs.Prelude.{◌≡◌, ℕ, ◌+◌, ◌<◌, ◌⊎◌}

-- a leaf with a mark, or a node with a mark, a left and a right part
pub data Tree : Type 0 where
  leaf : ℕ → Tree
  node : ℕ → Tree → Tree → Tree

abbrev pub mark : Tree → ℕ
mark (leaf a) = a
mark (node a l r) = a

-- the number of leaves and nodes
abbrev pub size : Tree → ℕ
size (leaf a) = 1
size (node a l r) = 1 + (size l + size r)

-- every mark of the tree is below m
abbrev pub Marked : ℕ → Tree → Type 0
Marked m (leaf a) = a < m
Marked m (node a l r) = (a < m) × Marked m l × Marked m r

-- the order of trees: by size, then by mark, then by the left part, then by the right part
pub data Less : Tree → Tree → Type 0 where
  by_size : {x y : Tree} → size x < size y → Less x y
  by_mark : {x y : Tree} → size x ≡ size y → mark x < mark y → Less x y
  by_left : {a : ℕ} {l r k s : Tree} → size (node a l r) ≡ size (node a k s) → Less l k → Less (node a l r) (node a k s)
  by_right : {a : ℕ} {l r s : Tree} → size (node a l r) ≡ size (node a l s) → Less r s → Less (node a l r) (node a l s)

-- less by P, or equal by E and less by Q: a lexicographic comparison
abbrev pub Lex : Type 0 → Type 0 → Type 0 → Type 0
Lex P E Q = P ⊎ (E × Q)
