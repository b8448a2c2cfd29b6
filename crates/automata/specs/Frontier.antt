-- What the search for all classes keeps true: the trees that it has settled, and the trees at hand, one for each class seen.
use Rattle.std.specs.Prelude.{ℕ, ◌<◌, List, length}
use Rattle.model.specs.Trees.{Tree, leaf, node, Marked, Less}
use Rattle.automata.specs.Automata.{TreeAutomaton, Alike}
use Rattle.automata.specs.Classes.{at, Le, Has, Least, AllMarked, Rising}

-- least trees of their classes, in order, each less than any tree of a class that is not there
pub record Settled (A : TreeAutomaton) (ts : List Tree) : Type 0 where
  pub marks : AllMarked A ts
  pub least : (i : ℕ) → i < length ts → Least A (at ts i)
  pub order : Rising ts
  pub first : (i : ℕ) (y : Tree) → i < length ts → Marked A.marks y → (Has A ts y → ⊥) → Less (at ts i) y

-- some tree of the list is alike to y and not greater
pub record Covered (A : TreeAutomaton) (ts : List Tree) (y : Tree) : Type 0 where
  pub place : ℕ
  pub within : place < length ts
  pub alike : Alike A (at ts place) y
  pub le : Le (at ts place) y

-- what the first list covers the second covers too
abbrev pub Keeps : TreeAutomaton → List Tree → List Tree → Type 0
Keeps A ts us = (y : Tree) → Covered A ts y → Covered A us y

abbrev pub LeavesCovered : TreeAutomaton → List Tree → Type 0
LeavesCovered A ts = (a : ℕ) → a < A.marks → Covered A ts (leaf a)

-- all nodes over settled trees
abbrev pub NodesCovered : TreeAutomaton → List Tree → List Tree → Type 0
NodesCovered A S ts = (a p q : ℕ) → a < A.marks → p < length S → q < length S → Covered A ts (node a (at S p) (at S q))
