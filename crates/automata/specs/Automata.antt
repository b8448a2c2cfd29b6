-- Deterministic bottom-up automata on binary trees with marks. A state is a list of numbers, the signature.
use Rattle.std.specs.Prelude.{◌≡◌, ℕ, ◌<◌, ◌≤◌, List}
use Rattle.model.specs.Trees.{Tree, leaf, node, Marked}

pub record TreeAutomaton : Type 0 where
  -- the trees that count have marks 0 .. marks - 1
  pub marks : ℕ
  -- the signature of a leaf, by its mark
  pub on_leaf : ℕ → List ℕ
  -- the signature of a node, by its mark and the signatures of its parts
  pub on_node : ℕ → List ℕ → List ℕ → List ℕ

-- the state in which the automaton ends on a tree
abbrev pub sig : TreeAutomaton → Tree → List ℕ
sig A (leaf a) = A.on_leaf a
sig A (node a l r) = A.on_node a (sig A l) (sig A r)

-- the automaton does not tell the two trees apart; trees that are alike form a class
abbrev pub Alike : TreeAutomaton → Tree → Tree → Type 0
Alike A x y = sig A x ≡ sig A y

-- some tree has this signature
pub record Reached (A : TreeAutomaton) (s : List ℕ) : Type 0 where
  pub tree : Tree
  pub marked : Marked A.marks tree
  pub signed : s ≡ sig A tree

-- The letters 0 .. letters - 1 with their marks stand in for all marks: for each mark a letter whose mark is not above it
-- and that the automaton does not tell from it.
pub record StandIn (A : TreeAutomaton) (letters : ℕ) (mark_of : ℕ → ℕ) (a : ℕ) : Type 0 where
  pub letter : ℕ
  pub within : letter < letters
  pub low : mark_of letter ≤ a
  pub same_leaf : A.on_leaf (mark_of letter) ≡ A.on_leaf a
  pub same_node : (s t : List ℕ) → A.on_node (mark_of letter) s t ≡ A.on_node a s t

pub record Alphabet (A : TreeAutomaton) (letters : ℕ) (mark_of : ℕ → ℕ) : Type 0 where
  pub marks_below : (i : ℕ) → i < letters → mark_of i < A.marks
  pub stands_in : (a : ℕ) → a < A.marks → StandIn A letters mark_of a
