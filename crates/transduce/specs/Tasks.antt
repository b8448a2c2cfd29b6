-- What is still to be put out of a result, while patterns are filled in.
use Rattle.std.specs.Prelude.{ℕ, Bool, true, false, List}
use Rattle.std.specs.List.{flat_map}
use Rattle.model.specs.Trees.{Tree, leaf, node}
use Rattle.model.specs.Turns.{Side, Pattern, Turn, filled, leaf_pattern, node_pattern, of_parts, no_part, made}
use Rattle.model.specs.Rows.{tree_row}

-- what the states make of the parts of a tree
abbrev pub parts_of : ℕ → Turn → Tree → ℕ → Side → Tree
parts_of m t (leaf a) = no_part
parts_of m t (node a l r) = of_parts (made m t l) (made m t r)

-- the pattern for a state and a tree
abbrev pub pattern_for : ℕ → Turn → Tree → ℕ → Pattern
pattern_for m t (leaf a) q = leaf_pattern m t q a
pattern_for m t (node a l r) q = node_pattern m t q a

abbrev pub has_parts : Tree → Bool
has_parts (leaf a) = false
has_parts (node a l r) = true

-- patterns to be filled in, one behind the other, with the parts of a tree
pub record Task : Type 0 where
  pub tree : Tree
  pub patterns : List Pattern

-- the words that come of a task, and of one task after the other
abbrev pub task_row : ℕ → Turn → Task → List ℕ
task_row m t x = flat_map (λ p. tree_row (filled (parts_of m t x.tree) p)) x.patterns

abbrev pub tasks_row : ℕ → Turn → List Task → List ℕ
tasks_row m t xs = flat_map (task_row m t) xs
