-- What has to be told apart of a tree under a job: its kind, and for each state the kind of what it makes of the tree.
use Rattle.std.specs.Prelude.{ℕ, ◌+◌, List, ◌∷◌, map, slice_index}
use Rattle.std.specs.List.{range_with_len}
use Rattle.model.specs.Trees.{Tree}
use Rattle.model.specs.Types.{TreeType, kind_of_leaf, kind_of_node, kind}
use Rattle.model.specs.Turns.{Side, left, right, Pattern, p_leaf, p_node, p_part, leaf_pattern, node_pattern}
use Rattle.model.specs.Jobs.{Job, made_by}
use Rattle.automata.specs.Automata.{TreeAutomaton}

-- the kind in the first type, then by state the kind in the second type of what the state makes
abbrev pub signature : Job → Tree → List ℕ
signature j x = kind j.from x ∷ map (λ q. kind j.to (made_by j x q)) (range_with_len 0 j.turn.states)

-- the kind of a pattern filled in, where `part q s` is the kind of what state q makes of the part on side s
abbrev pub pattern_kind : TreeType → (ℕ → Side → ℕ) → Pattern → ℕ
pattern_kind t part (p_leaf a) = kind_of_leaf t a
pattern_kind t part (p_node a x y) = kind_of_node t a (pattern_kind t part x) (pattern_kind t part y)
pattern_kind t part (p_part q s) = part q s

-- the kind that a signature has for state q
abbrev pub state_kind : List ℕ → ℕ → ℕ
state_kind s q = slice_index s (q + 1)

-- by the signatures of both parts
abbrev pub part_kind : List ℕ → List ℕ → ℕ → Side → ℕ
part_kind l r q left = state_kind l q
part_kind l r q right = state_kind r q

-- patterns for leaves use no part
abbrev pub no_part_kind : TreeType → ℕ → Side → ℕ
no_part_kind t q s = kind_of_leaf t 0

-- the automaton that works out signatures
abbrev pub job_automaton : Job → TreeAutomaton
job_automaton j = record {
  marks = j.marks;
  on_leaf = λ a. kind_of_leaf j.from a
      ∷ map (λ q. pattern_kind j.to (no_part_kind j.to) (leaf_pattern j.marks j.turn q a)) (range_with_len 0 j.turn.states);
  on_node = λ a l r. kind_of_node j.from a (slice_index l 0) (slice_index r 0)
      ∷ map (λ q. pattern_kind j.to (part_kind l r) (node_pattern j.marks j.turn q a)) (range_with_len 0 j.turn.states);
}
