-- The table of a search in terms of trees.
use Rattle.std.specs.Prelude.{◌≡◌, ℕ, ◌+◌, ◌<◌, List, length, Result, MatchResult}
use Rattle.model.specs.Trees.{Tree, node, size, Marked}
use Rattle.automata.specs.Automata.{TreeAutomaton, sig}
use Rattle.automata.specs.Classes.{at, AllMarked, Apart, MoreThan}
use Rattle.automata.specs.Frontier.{Settled, Covered, Keeps}
use Rattle.automata.specs.Links.{Link, Linked}
use Rattle.table.specs.declared.Table.{Table}
use Rattle.table.specs.Tables.{Room, sig_at, tree_at, rank_at, ranked_at}
use Rattle.table.specs.Chains.{Chains}
use Rattle.reach.specs.declared.TooMany.{TooMany}

-- the settled tree of rank r is that of its row, which knows its rank
pub record RowOfRank (S ts : List Tree) (t : Table) (r : ℕ) : Type 0 where
  pub within : ranked_at t r < length ts
  pub stands : at ts (ranked_at t r) ≡ at S r
  pub known : rank_at t (ranked_at t r) ≡ r + 1

-- row k has a rank
pub record RankOfRow (S : List Tree) (t : Table) (k : ℕ) : Type 0 where
  pub rank : ℕ
  pub within : rank < length S
  pub is : ranked_at t rank ≡ k

-- The table holds the trees at hand, one to a row, each of another class; those of S are settled, in their order. A tree is
-- held by its size and its link into S.
pub record State (A : TreeAutomaton) (S : List Tree) (t : Table) : Type 0 where
  pub trees : List Tree
  pub rows : length trees ≡ t.count
  pub ranks : length S ≡ t.settled
  pub room : Room t
  pub chains : Chains t
  pub settled_trees : Settled A S
  pub marks : AllMarked A trees
  pub apart : Apart A trees
  pub signed : (k : ℕ) → k < length trees → sig_at t k ≡ sig A (at trees k)
  pub sized : (k : ℕ) → k < length trees → (tree_at t k).size ≡ size (at trees k)
  pub linked : (k : ℕ) → k < length trees → Linked S (tree_at t k) (at trees k)
  pub row_of : (r : ℕ) → r < length S → RowOfRank S trees t r
  pub rank_of : (k : ℕ) → 0 < rank_at t k → RankOfRow S t k

-- the table is that of a search under way
pub record Searching (A : TreeAutomaton) (t : Table) : Type 0 where
  pub settled_list : List Tree
  pub state : State A settled_list t

-- the trees at hand still cover what they covered, and now P holds of them
pub record Grown (A : TreeAutomaton) (S : List Tree) (old new : Table) (s : State A S old) (P : List Tree → Type 0) : Type 0 where
  pub state : State A S new
  pub keeps : Keeps A s.trees state.trees
  pub brings : P state.trees

-- a step that offers trees: P holds of the settled trees and the trees at hand then; or there are more classes than rows
abbrev pub Offered : TreeAutomaton → Table → Table → (List Tree → List Tree → Type 0) → Result (Unit {0}) TooMany → Type 0
Offered A old new P r = (S : List Tree) (s : State A S old) → MatchResult r (λ _. Grown A S old new s (P S)) (λ _. MoreThan A old.shape.most)

-- the tree x by its signature and its link into S
pub record Describes (A : TreeAutomaton) (S : List Tree) (key : List ℕ) (link : Link) (x : Tree) : Type 0 where
  pub marked : Marked A.marks x
  pub signed : sig A x ≡ key
  pub sized : link.size ≡ size x
  pub linked : Linked S link x

-- whatever tree it is that has this signature and link, it is covered then
abbrev pub TakenUp : List ℕ → Link → Table → Table → Result (Unit {0}) TooMany → Type 0
TakenUp key link old new r =
    (A : TreeAutomaton) (S : List Tree) (s : State A S old) (x : Tree) → Describes A S key link x
    → MatchResult r (λ _. Grown A S old new s (λ us. Covered A us x)) (λ _. MoreThan A old.shape.most)

-- nodes with the mark a over the settled trees of ranks k and i, both ways
abbrev pub BothWays : TreeAutomaton → List Tree → List Tree → ℕ → ℕ → ℕ → Type 0
BothWays A S us a k i = Covered A us (node a (at S k) (at S i)) × Covered A us (node a (at S i) (at S k))

-- nodes over the settled trees of rank k and each up to it, both ways
abbrev pub PairsCovered : TreeAutomaton → List Tree → List Tree → ℕ → Type 0
PairsCovered A S us k = (a i : ℕ) → a < A.marks → i < k + 1 → BothWays A S us a k i

-- room for one signature, as wide as the automaton's, and for one size
pub record Scratch (wide : ℕ) (key num : List ℕ) (t : Table) : Type 0 where
  pub for_key : length key ≡ t.shape.width
  pub for_size : length num ≡ t.shape.words
  pub width : wide ≡ t.shape.width
