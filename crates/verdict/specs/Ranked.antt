-- The least trees of a table by their ranks, and their words one leaf or node after the other.
use Rattle.std.specs.Prelude.{◌≡◌, ℕ, ◌+◌, ◌<◌, ◌≤◌, List, [], ◌∷◌, ◌++◌, length, take, drop, Some, None, Option}
use Rattle.std.specs.List.{flat_map}
use Rattle.model.specs.Trees.{Tree, leaf, node, size}
use Rattle.model.specs.Rows.{tree_row}
use Rattle.rows.specs.declared.trees.Item.{Item}
use Rattle.rows.specs.Subtrees.{item_row}
use Rattle.automata.specs.Classes.{at, Rising}
use Rattle.automata.specs.Links.{Linked}
use Rattle.table.specs.declared.Table.{Table}
use Rattle.table.specs.Tables.{Room, tree_at, ranked_at}
use Rattle.verdict.specs.declared.trees.Top.{Top}
use Rattle.verdict.specs.declared.trees.Top.TheVariants.{Leaf, Node}

-- the table holds the trees of S by rank, in the order of trees, each by its size and its link into S
pub record Holds (S : List Tree) (t : Table) : Type 0 where
  pub ranks : length S ≡ t.settled
  pub few : t.settled ≤ t.shape.most
  pub room : Room t
  pub rising : Rising S
  pub rows : (r : ℕ) → r < length S → ranked_at t r < t.shape.most
  pub sized : (r : ℕ) → r < length S → (tree_at t (ranked_at t r)).size ≡ size (at S r)
  pub linked : (r : ℕ) → r < length S → Linked S (tree_at t (ranked_at t r)) (at S r)

-- the tree x of rank r is a leaf, or a node whose parts have lower ranks
abbrev pub IsTop : List Tree → ℕ → Tree → Top → Type 0
IsTop S r x (Leaf a) = x ≡ leaf a
IsTop S r x (Node a p q) = (x ≡ node a (at S p) (at S q)) × (p < r) × (q < r)

-- the words of the trees with these ranks, one behind the other
abbrev pub rows_of : List Tree → List ℕ → List ℕ
rows_of S rs = flat_map (λ r. tree_row (at S r)) rs

-- each rank on the stack leaves room for those below it: together they are less than n
abbrev pub Low : ℕ → List ℕ → Type 0
Low n [] = Unit {0}
Low n (r ∷ rs) = (r + length rs < n) × Low n rs

-- a leaf or a node was taken off the first tree of the stack, and the stack has the ranks of what is left
pub record Expanded (S : List Tree) (old new : List ℕ) (x : Item) : Type 0 where
  pub words : rows_of S old ≡ item_row x ++ rows_of S new

-- the row of a tree stands first in what was old and is new, and the rest is as it was
pub record Placed (row old new : List ℕ) (k : ℕ) : Type 0 where
  pub words : k ≡ length row
  pub written : take k new ≡ row
  pub rest : drop k new ≡ drop k old

-- the row was placed, or it is too long, and nothing was written
abbrev pub Shown : List ℕ → List ℕ → List ℕ → Option ℕ → Type 0
Shown row old new (Some k) = Placed row old new k
Shown row old new None = (length old < length row) × (new ≡ old)
