-- What is promised of every automaton: finitely many classes, one tree of each tells all, none is missed by a search that
-- looks at one tree of each, least trees have least parts, and how classes are counted.
use Rattle.std.specs.Prelude.{◌≡◌, ℕ, ◌+◌, ◌^◌, ◌<◌, ◌≤◌, Bool, true, ◌↔◌, List, length}
use Rattle.model.specs.Trees.{Tree, leaf, node, size, Marked, Less}
use Rattle.automata.specs.Automata.{TreeAutomaton, sig, Alike, Alphabet}
use Rattle.automata.specs.Classes.{at, Has, Least, Rising, OneOfEach, Classes, MoreThan}
use Rattle.automata.specs.Links.{Link, Placed, Linked, Precedes, Ties}

-- signatures as numbers below a bound, different ones for different signatures
pub record Coded (A : TreeAutomaton) (bound : ℕ) (code : List ℕ → ℕ) : Type 0 where
  pub bounded : (x : Tree) → Marked A.marks x → code (sig A x) < bound
  pub faithful : (x y : Tree) → Marked A.marks x → Marked A.marks y → code (sig A x) ≡ code (sig A y) → Alike A x y

-- all classes, no more than the bound
pub record Finite (A : TreeAutomaton) (bound : ℕ) : Type 0 where
  pub trees : List Tree
  pub classes : Classes A trees
  pub few : length trees ≤ bound

-- leaves, and nodes over trees of the list, are all alike to one of the list
pub record Closed (A : TreeAutomaton) (ts : List Tree) : Type 0 where
  pub leaves : (a : ℕ) → a < A.marks → Has A ts (leaf a)
  pub nodes : (a i k : ℕ) → a < A.marks → i < length ts → k < length ts → Has A ts (node a (at ts i) (at ts k))

pub record AutomatonLaws : Type 0 where
  -- the class of a node is fixed by its mark and its parts' classes
  pub by_parts : (A : TreeAutomaton) (a : ℕ) (l l' r r' : Tree) → Alike A l l' → Alike A r r' → Alike A (node a l r) (node a l' r')
  -- where each mark is a letter, the letters stand in for all marks
  pub plain_letters : (A : TreeAutomaton) → Alphabet A A.marks (λ i. i)
  -- there are finitely many classes
  pub finite : (A : TreeAutomaton) (bound : ℕ) (code : List ℕ → ℕ) → Coded A bound code → Finite A bound
  -- one tree of a class tells of every tree of it, whatever is read off the signature
  pub one_tells : (A : TreeAutomaton) (test : List ℕ → Bool) (x y : Tree) → Alike A x y → test (sig A x) ≡ test (sig A y)
  -- one tree of each class tells of all trees
  pub one_tells_all : (A : TreeAutomaton) (test : List ℕ → Bool) (ts : List Tree) → OneOfEach A ts
      → ((i : ℕ) → i < length ts → test (sig A (at ts i)) ≡ true) → (y : Tree) → Marked A.marks y → test (sig A y) ≡ true
  -- no class is missed, though only one tree of each was looked at
  pub none_missed : (A : TreeAutomaton) (ts : List Tree) → Closed A ts → (y : Tree) → Marked A.marks y → Has A ts y
  -- the parts of a least tree are least
  pub parts_least : (A : TreeAutomaton) (a : ℕ) (l r : Tree) → Marked A.marks (node a l r) → Least A (node a l r) → Least A l × Least A r
  -- over trees in their order, comparing by size, mark and places is the order of trees
  pub by_places : (S : List Tree) → Rising S → (k h : Link) (x y : Tree)
      → k.size ≡ size x → h.size ≡ size y → Linked S k x → Linked S h y → (Precedes k h ↔ Less x y) × (Ties k h ↔ (x ≡ y))
  -- the parts of a tree of such a list that stand in it stand before it
  pub parts_before : (S : List Tree) → Rising S → (i : ℕ) → i < length S → (a p q : ℕ) (l r : Tree)
      → at S i ≡ node a l r → Placed S p l → Placed S q r → (p ≤ i) × (q ≤ i)
  -- the least trees of the classes, in order, at most double in size
  pub sizes : (A : TreeAutomaton) (ts : List Tree) → Classes A ts → (i : ℕ) → i < length ts → size (at ts i) < 2 ^ (i + 1)
  -- so many trees that are not alike show that every list with one tree of each class is longer
  pub counted : (A : TreeAutomaton) (n : ℕ) (ts : List Tree) → MoreThan A n → OneOfEach A ts → n < length ts
