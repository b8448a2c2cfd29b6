-- Words that are the row of a tree, or that begin one, and the open nodes behind them.
use Rattle.std.specs.Prelude.{◌≡◌, ℕ, ◌+◌, ◌<◌, List, [], ◌∷◌, ◌++◌, length, Some, None, Option}
use Rattle.std.specs.List.{flat_map}
use Rattle.model.specs.Trees.{Tree, Marked}
use Rattle.model.specs.Rows.{tree_row}
use Rattle.terms.specs.declared.parts.Part.{Part}
use Rattle.terms.specs.declared.parts.Part.TheVariants.{Left, Right}
use Rattle.terms.specs.declared.parts.Item.{Item}
use Rattle.terms.specs.declared.parts.Item.TheVariants.{Leaf, Node}

-- s is the row of a tree with marks below m
pub record IsTree (m : ℕ) (s : List ℕ) : Type 0 where
  pub tree : Tree
  pub marked : Marked m tree
  pub row : tree_row tree ≡ s

-- each tree of the list has marks below m
abbrev pub AllMarked : ℕ → List Tree → Type 0
AllMarked m [] = Unit {0}
AllMarked m (t ∷ ts) = Marked m t × AllMarked m ts

-- s and the rows of k trees are the row of a tree, whichever trees with marks below m these are
abbrev pub Begins : ℕ → ℕ → List ℕ → Type 0
Begins m k s = (ts : List Tree) → length ts ≡ k → AllMarked m ts → IsTree m (s ++ flat_map tree_row ts)

-- the words of a leaf, or of a node without its parts
abbrev pub item_words : Item → List ℕ
item_words (Leaf a) = 0 ∷ a ∷ []
item_words (Node a) = 1 ∷ a ∷ []

-- how many parts of the open nodes come behind the one that is being read: a right part for each left one
abbrev pub to_come : List Part → ℕ
to_come [] = 0
to_come (Left ∷ ps) = to_come ps + 1
to_come (Right ∷ ps) = to_come ps

-- which part of an open node has ended, if a node is open, and the open nodes before and after
abbrev pub Leaves : List Part → Option Part → List Part → Type 0
Leaves ps None qs = (ps ≡ []) × (qs ≡ [])
Leaves ps (Some Left) qs = (0 < length qs) × (to_come qs + 1 ≡ to_come ps)
Leaves ps (Some Right) qs = (length qs + 1 ≡ length ps) × (to_come qs ≡ to_come ps)

-- the open nodes before and behind the end of a part: no part was to come, or one fewer is
abbrev pub Closes : List Part → List Part → Type 0
Closes ps [] = to_come ps ≡ 0
Closes ps (q ∷ qs) = to_come (q ∷ qs) + 1 ≡ to_come ps

-- how far a reader has come with the words s: to the end of a tree, or to a part of an open node
abbrev pub ReadTo : ℕ → List ℕ → List Part → Type 0
ReadTo m s [] = IsTree m s
ReadTo m s (p ∷ ps) = Begins m (to_come (p ∷ ps) + 1) s

-- a leaf or a node brings words that begin a row so far
abbrev pub GoesOn : ℕ → Item → List Part → List Part → Type 0
GoesOn m i ps qs = (s : List ℕ) → Begins m (to_come ps + 1) s → ReadTo m (s ++ item_words i) qs
