-- A worked case: two marks, one state; a leaf stays, a node a(l, r) becomes 1(r, l).
use Rattle.std.specs.Prelude.{◌≡◌, [], ◌∷◌, length}
use Rattle.model.specs.Trees.{Tree, leaf, node}
use Rattle.model.specs.Types.{TreeType, kind}
use Rattle.model.specs.Turns.{left, right, Pattern, p_leaf, p_node, p_part, Turn}
use Rattle.model.specs.Jobs.{Job, result}
use Rattle.model.specs.Rows.{tree_row, job_row, Rows}

abbrev pub exchange : Pattern
exchange = p_node 1 (p_part 0 right) (p_part 0 left)

abbrev pub swap : Turn
swap = record { states = 1; on_leaf = p_leaf 0 ∷ p_leaf 1 ∷ []; on_node = exchange ∷ exchange ∷ [] }

-- the number of leaves marked 1 is even (kind 0, wanted) or odd (kind 1)
abbrev pub parity : TreeType
parity = record { kinds = 2; leaves = 0 ∷ 1 ∷ []; nodes = 0 ∷ 1 ∷ 1 ∷ 0 ∷ 0 ∷ 1 ∷ 1 ∷ 0 ∷ []; wanted = 0 ∷ [] }

abbrev pub swap_job : Job
swap_job = record { marks = 2; from = parity; turn = swap; to = parity }

-- 0(0, 0(1, 0))
abbrev pub sample : Tree
sample = node 0 (leaf 0) (node 0 (leaf 1) (leaf 0))

pub record WorkedCase : Type 0 where
  -- it becomes 1(1(0, 1), 0)
  pub becomes : result swap_job sample ≡ node 1 (node 1 (leaf 0) (leaf 1)) (leaf 0)
  pub odd_before : kind parity sample ≡ 1
  pub odd_after : kind parity (result swap_job sample) ≡ 1
  pub tree_words : tree_row sample ≡ 1 ∷ 0 ∷ 0 ∷ 0 ∷ 1 ∷ 0 ∷ 0 ∷ 1 ∷ 0 ∷ 0 ∷ []
  pub job_words : length (job_row swap_job) ≡ 48
  pub is_job : Rows (job_row swap_job) swap_job
