-- Lists of trees with one tree of each class.
use Rattle.std.specs.Prelude.{◌≡◌, ℕ, ◌+◌, ◌<◌, ◌⊎◌, List, length, slice_index_or}
use Rattle.model.specs.Trees.{Tree, leaf, Marked, Less}
use Rattle.automata.specs.Automata.{TreeAutomaton, Alike}

-- the tree at place i; places count from 0
abbrev pub at : List Tree → ℕ → Tree
at ts i = slice_index_or ts i (leaf 0)

abbrev pub Le : Tree → Tree → Type 0
Le x y = Less x y ⊎ (x ≡ y)

-- some tree of the list is alike to y
pub record Has (A : TreeAutomaton) (ts : List Tree) (y : Tree) : Type 0 where
  pub place : ℕ
  pub within : place < length ts
  pub alike : Alike A (at ts place) y

-- no tree of its class is less
abbrev pub Least : TreeAutomaton → Tree → Type 0
Least A x = (y : Tree) → Marked A.marks y → Less y x → Alike A y x → ⊥

abbrev pub AllMarked : TreeAutomaton → List Tree → Type 0
AllMarked A ts = (i : ℕ) → i < length ts → Marked A.marks (at ts i)

-- no two trees of the list are alike
abbrev pub Apart : TreeAutomaton → List Tree → Type 0
Apart A ts = (i k : ℕ) → i < length ts → k < length ts → Alike A (at ts i) (at ts k) → i ≡ k

-- each tree of the list is less than those behind it
abbrev pub Rising : List Tree → Type 0
Rising ts = (i k : ℕ) → i < k → k < length ts → Less (at ts i) (at ts k)

-- one tree of each class, in any order
pub record OneOfEach (A : TreeAutomaton) (ts : List Tree) : Type 0 where
  pub marks : AllMarked A ts
  pub apart : Apart A ts
  pub all : (y : Tree) → Marked A.marks y → Has A ts y

-- one tree of each class, each the least of its class, in the order of trees, and no class missing
pub record Classes (A : TreeAutomaton) (ts : List Tree) : Type 0 where
  pub one_of_each : OneOfEach A ts
  pub least : (i : ℕ) → i < length ts → Least A (at ts i)
  pub order : Rising ts

-- more than n classes: n + 1 trees of which no two are alike
pub record MoreThan (A : TreeAutomaton) (n : ℕ) : Type 0 where
  pub trees : List Tree
  pub count : length trees ≡ n + 1
  pub marks : AllMarked A trees
  pub apart : Apart A trees
