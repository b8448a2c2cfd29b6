-- Types of trees: complete deterministic bottom-up tree automata, given by their tables.
use Rattle.std.specs.Prelude.{◌≡◌, ℕ, ◌+◌, ◌*◌, ◌<◌, ◌≤◌, Bool, false, ◌||◌, List, [], ◌∷◌, length, ◌==◌, slice_index}
use Rattle.std.specs.List.{AllByRecursion}
use Rattle.model.specs.Trees.{Tree, leaf, node}

-- A kind is a state of the automaton, a wanted kind an accepting one.
pub record TreeType : Type 0 where
  -- there are the kinds 0 .. kinds - 1
  pub kinds : ℕ
  -- the kind of a leaf, by its mark
  pub leaves : List ℕ
  -- the kind of a node, by its mark and the kinds of its parts, at `node_place`
  pub nodes : List ℕ
  pub wanted : List ℕ

-- where the kind of a node stands in a table for k kinds: by mark, then kind of the left part, then kind of the right part
abbrev pub node_place : ℕ → ℕ → ℕ → ℕ → ℕ
node_place k a l r = (a * k + l) * k + r

abbrev pub kind_of_leaf : TreeType → ℕ → ℕ
kind_of_leaf t a = slice_index t.leaves a

abbrev pub kind_of_node : TreeType → ℕ → ℕ → ℕ → ℕ
kind_of_node t a l r = slice_index t.nodes (node_place t.kinds a l r)

-- the kind of a tree: the state in which the automaton ends
abbrev pub kind : TreeType → Tree → ℕ
kind t (leaf a) = kind_of_leaf t a
kind t (node a l r) = kind_of_node t a (kind t l) (kind t r)

abbrev pub contains : List ℕ → ℕ → Bool
contains [] n = false
contains (x ∷ xs) n = n == x || contains xs n

-- a tree is of the type if its kind is wanted: the automaton accepts it
abbrev pub is_of : TreeType → Tree → Bool
is_of t x = contains t.wanted (kind t x)

abbrev pub Below : ℕ → List ℕ → Type 0
Below n xs = AllByRecursion (λ x. x < n) xs

-- the tables are whole for m marks, and every kind in them is one of the type's
pub record WellFormedType (m : ℕ) (t : TreeType) : Type 0 where
  pub some_kind : 1 ≤ t.kinds
  pub leaf_count : length t.leaves ≡ m
  pub node_count : length t.nodes ≡ m * (t.kinds * t.kinds)
  pub leaves_below : Below t.kinds t.leaves
  pub nodes_below : Below t.kinds t.nodes
  pub wanted_below : Below t.kinds t.wanted
