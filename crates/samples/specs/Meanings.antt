-- Sample automata, each with signatures of one word.
use Rattle.std.specs.Prelude.{ℕ, ◌+◌, ◌*◌, ◌%◌, cond, ◌&&◌, List, [], ◌∷◌, ◌==◌, nat_lt, slice_index}
use Rattle.automata.specs.Automata.{TreeAutomaton}

abbrev pub word : List ℕ → ℕ
word s = slice_index s 0

-- the sum of all marks, with `base` more for each leaf, by a modulus
abbrev pub sums : ℕ → ℕ → ℕ → TreeAutomaton
sums base marks modulus = record {
  marks = marks;
  on_leaf = λ a. ((base + a) % modulus) ∷ [];
  on_node = λ a l r. ((word l + word r + a) % modulus) ∷ [];
}

-- Trees of two marks. Full trees of nodes 0 and leaves 0: their height, below `heights`. A node 1 over a full tree and a leaf
-- 0: `heights` and the full tree's height. All others: twice `heights`.
abbrev pub tower_of_leaf : ℕ → ℕ → ℕ
tower_of_leaf heights a = cond (a == 0) 0 (2 * heights)

abbrev pub tower_of_node : ℕ → ℕ → ℕ → ℕ → ℕ
tower_of_node heights a l r =
    cond (a == 0) (cond (l == r && nat_lt (l + 1) heights) (l + 1) (2 * heights)) (cond (nat_lt l heights && r == 0) (heights + l) (2 * heights))

abbrev pub towers : ℕ → TreeAutomaton
towers heights = record {
  marks = 2;
  on_leaf = λ a. tower_of_leaf heights a ∷ [];
  on_node = λ a l r. tower_of_node heights a (word l) (word r) ∷ [];
}

-- Trees of two marks of at most one node are told apart; all others are 10.
abbrev pub pair_of_node : ℕ → ℕ → ℕ → ℕ
pair_of_node a l r = cond (nat_lt l 2 && nat_lt r 2) (2 + 4 * a + 2 * l + r) 10

abbrev pub pairs : TreeAutomaton
pairs = record {
  marks = 2;
  on_leaf = λ a. a ∷ [];
  on_node = λ a l r. pair_of_node a (word l) (word r) ∷ [];
}
