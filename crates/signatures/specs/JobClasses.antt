-- The classes of a job by its own relation `Alike`, without a word on how they are found.
use Rattle.std.specs.Prelude.{◌≡◌, ℕ, ◌<◌, ◌≤◌, List, length}
use Rattle.model.specs.Trees.{Tree, leaf, node, Marked, Less}
use Rattle.model.specs.Jobs.{Job, Alike, Comes, Good}
use Rattle.automata.specs.Classes.{at, Rising}

-- some tree of the list is alike to y
pub record HasAlike (j : Job) (ts : List Tree) (y : Tree) : Type 0 where
  pub place : ℕ
  pub within : place < length ts
  pub alike : Alike j (at ts place) y

-- no tree of its class is less
abbrev pub LeastAlike : Job → Tree → Type 0
LeastAlike j x = (y : Tree) → Marked j.marks y → Less y x → Alike j y x → ⊥

-- one tree of each class, each the least of its class, in the order of trees, and no class missing
pub record JobClasses (j : Job) (ts : List Tree) : Type 0 where
  pub marks : (i : ℕ) → i < length ts → Marked j.marks (at ts i)
  pub apart : (i k : ℕ) → i < length ts → k < length ts → Alike j (at ts i) (at ts k) → i ≡ k
  pub all : (y : Tree) → Marked j.marks y → HasAlike j ts y
  pub least : (i : ℕ) → i < length ts → LeastAlike j (at ts i)
  pub order : Rising ts

-- the job has at most n classes
pub record FewClasses (j : Job) (n : ℕ) : Type 0 where
  pub trees : List Tree
  pub classes : JobClasses j trees
  pub few : length trees ≤ n

-- the job has more than n classes
pub record ManyClasses (j : Job) (n : ℕ) : Type 0 where
  pub trees : List Tree
  pub classes : JobClasses j trees
  pub many : n < length trees

-- leaves, and nodes over trees of the list, are all alike to one of the list
pub record ClosedAlike (j : Job) (ts : List Tree) : Type 0 where
  pub leaves : (a : ℕ) → a < j.marks → HasAlike j ts (leaf a)
  pub nodes : (a i k : ℕ) → a < j.marks → i < length ts → k < length ts → HasAlike j ts (node a (at ts i) (at ts k))

-- x comes in, what becomes of it is not of the second type, and no tree less than x does so too
pub record LeastBreak (j : Job) (x : Tree) : Type 0 where
  pub comes : Comes j x
  pub bad : Good j x → ⊥
  pub least : (y : Tree) → Comes j y → (Good j y → ⊥) → Less y x → ⊥
