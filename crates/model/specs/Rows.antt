-- Rows: trees, patterns, types, turns and jobs as lists of words.
use Rattle.std.specs.Prelude.{◌≡◌, ℕ, List, [], ◌∷◌, ◌++◌, length}
use Rattle.std.specs.List.{flat_map}
use Rattle.model.specs.Trees.{Tree, leaf, node}
use Rattle.model.specs.Types.{TreeType}
use Rattle.model.specs.Turns.{Side, left, right, Pattern, p_leaf, p_node, p_part, Turn}
use Rattle.model.specs.Jobs.{Job, WellFormedJob, WithinLimits}

-- 0 and the mark of a leaf; 1, the mark of a node, and its parts
abbrev pub tree_row : Tree → List ℕ
tree_row (leaf a) = 0 ∷ a ∷ []
tree_row (node a l r) = 1 ∷ a ∷ (tree_row l ++ tree_row r)

abbrev pub side_word : Side → ℕ
side_word left = 0
side_word right = 1

-- as a tree's, and for a part 2, the state and the side
abbrev pub pattern_row : Pattern → List ℕ
pattern_row (p_leaf a) = 0 ∷ a ∷ []
pattern_row (p_node a x y) = 1 ∷ a ∷ (pattern_row x ++ pattern_row y)
pattern_row (p_part q s) = 2 ∷ q ∷ side_word s ∷ []

abbrev pub patterns_row : List Pattern → List ℕ
patterns_row ps = flat_map pattern_row ps

-- the number of kinds, the two tables, how many kinds are wanted, and these
abbrev pub type_row : TreeType → List ℕ
type_row t = t.kinds ∷ (t.leaves ++ (t.nodes ++ (length t.wanted ∷ t.wanted)))

-- the number of states, the patterns for leaves, those for nodes
abbrev pub turn_row : Turn → List ℕ
turn_row t = t.states ∷ (patterns_row t.on_leaf ++ patterns_row t.on_node)

-- the number of marks, the first type, the turn, the second type
abbrev pub job_row : Job → List ℕ
job_row j = j.marks ∷ (type_row j.from ++ (turn_row j.turn ++ type_row j.to))

-- the words s are a job, and it is j: they are its row, with nothing behind
pub record Rows (s : List ℕ) (j : Job) : Type 0 where
  pub row : job_row j ≡ s
  pub well_formed : WellFormedJob j
  pub limits : WithinLimits j
