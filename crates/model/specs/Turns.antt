-- Turns: total deterministic top-down tree transducers, which may copy parts and drop them.
use Rattle.std.specs.Prelude.{◌≡◌, ℕ, ◌+◌, ◌*◌, ◌<◌, ◌≤◌, max, Bool, true, false, List, length, slice_index_or}
use Rattle.std.specs.List.{AllByRecursion}
use Rattle.model.specs.Trees.{Tree, leaf, node}

-- which part of a node
pub data Side : Type 0 where
  left : Side
  right : Side

-- what becomes of a tree: a leaf, a node of two patterns, or what a state makes of a part
pub data Pattern : Type 0 where
  p_leaf : ℕ → Pattern
  p_node : ℕ → Pattern → Pattern → Pattern
  p_part : ℕ → Side → Pattern

-- a leaf is 1 deep
abbrev pub depth : Pattern → ℕ
depth (p_leaf a) = 1
depth (p_node a x y) = 1 + max (depth x) (depth y)
depth (p_part q s) = 1

-- the pattern filled in, where `part q s` is what state q makes of the part on side s
abbrev pub filled : (ℕ → Side → Tree) → Pattern → Tree
filled part (p_leaf a) = leaf a
filled part (p_node a x y) = node a (filled part x) (filled part y)
filled part (p_part q s) = part q s

-- A turn has for each state and mark a pattern for leaves and one for nodes.
pub record Turn : Type 0 where
  -- there are the states 0 .. states - 1; state 0 begins
  pub states : ℕ
  -- by state and then mark, at `pattern_place`
  pub on_leaf : List Pattern
  pub on_node : List Pattern

-- where the pattern for a state and a mark stands, for m marks
abbrev pub pattern_place : ℕ → ℕ → ℕ → ℕ
pattern_place m q a = q * m + a

abbrev pub leaf_pattern : ℕ → Turn → ℕ → ℕ → Pattern
leaf_pattern m t q a = slice_index_or t.on_leaf (pattern_place m q a) (p_leaf 0)

abbrev pub node_pattern : ℕ → Turn → ℕ → ℕ → Pattern
node_pattern m t q a = slice_index_or t.on_node (pattern_place m q a) (p_leaf 0)

-- what the states make of two parts, by the side
abbrev pub of_parts : (ℕ → Tree) → (ℕ → Tree) → ℕ → Side → Tree
of_parts l r q left = l q
of_parts l r q right = r q

-- a leaf has no parts; its patterns use none, so that it does not matter what stands for one
abbrev pub no_part : ℕ → Side → Tree
no_part q s = leaf 0

-- what state q of the turn makes of a tree, with m marks
abbrev pub made : ℕ → Turn → Tree → ℕ → Tree
made m t (leaf a) q = filled no_part (leaf_pattern m t q a)
made m t (node a l r) q = filled (of_parts (made m t l) (made m t r)) (node_pattern m t q a)

-- marks are below m and states below n, and parts are used only where there may be some
abbrev pub WellFormedPattern : ℕ → ℕ → Bool → Pattern → Type 0
WellFormedPattern m n parts (p_leaf a) = a < m
WellFormedPattern m n parts (p_node a x y) = (a < m) × WellFormedPattern m n parts x × WellFormedPattern m n parts y
WellFormedPattern m n parts (p_part q s) = (q < n) × (parts ≡ true)

-- the tables are whole for m marks, and patterns for leaves use no part
pub record WellFormedTurn (m : ℕ) (t : Turn) : Type 0 where
  pub some_state : 1 ≤ t.states
  pub leaf_count : length t.on_leaf ≡ t.states * m
  pub node_count : length t.on_node ≡ t.states * m
  pub leaf_patterns : AllByRecursion (WellFormedPattern m t.states false) t.on_leaf
  pub node_patterns : AllByRecursion (WellFormedPattern m t.states true) t.on_node
