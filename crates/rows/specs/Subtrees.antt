-- A tree in lent words: leaves and nodes take two words each, so the i-th of them, parts after their node, stands at 2 * i.
use Rattle.std.specs.Prelude.{◌≡◌, ℕ, ◌+◌, ◌*◌, ◌<◌, ◌≤◌, List, [], ◌∷◌, length, Some, None, Option, ◌≢◌, slice_index}
use Rattle.model.specs.Trees.{Tree, Marked}
use Rattle.model.specs.Types.{TreeType, kind}
use Rattle.model.specs.Rows.{tree_row}
use Rattle.rows.specs.declared.trees.Item.{Item}
use Rattle.rows.specs.declared.trees.Item.TheVariants.{Leaf, Node}
use Rattle.rows.specs.declared.trees.Subtree.{Subtree}
use Rattle.rows.specs.Numbered.{number}
use Rattle.rows.specs.Standing.{Stands, Absent}

-- the words of a leaf, or of a node without its parts
abbrev pub item_row : Item → List ℕ
item_row (Leaf a) = 0 ∷ a ∷ []
item_row (Node a) = 1 ∷ a ∷ []

-- the i-th leaf or node, or that no tree's row begins there
abbrev pub ItemAt : List ℕ → ℕ → Option Item → Type 0
ItemAt s i None = Absent tree_row (λ _. Unit {0}) s (2 * i)
ItemAt s i (Some x) = Stands s (2 * i) (2 * i + 2) (item_row x)

-- the subtree that begins with the i-th leaf or node: what follows it is the one numbered `end`, and its kind is k
pub record SubtreeAt (t : TreeType) (m : ℕ) (s : List ℕ) (i end k : ℕ) : Type 0 where
  pub tree : Tree
  pub marked : Marked m tree
  pub stands : Stands s (2 * i) (2 * end) (tree_row tree)
  pub of_kind : k ≡ kind t tree

abbrev pub SubtreeRead : TreeType → ℕ → List ℕ → ℕ → Option Subtree → Type 0
SubtreeRead t m s i None = Absent tree_row (Marked m) s (2 * i)
SubtreeRead t m s i (Some x) = SubtreeAt t m s i x.end x.kind

-- the ends and kinds of all subtrees are noted, from the one numbered `from` on
abbrev pub Subtrees : TreeType → ℕ → List ℕ → List ℕ → List ℕ → ℕ → Type 0
Subtrees t m s ends kinds from = (i : ℕ) → from ≤ i → 2 * i < length s → SubtreeAt t m s i (number ends i) (slice_index kinds i)

-- s is a tree with marks below m, and its subtrees are known
pub record TreeKnown (t : TreeType) (m : ℕ) (s ends kinds : List ℕ) (k : ℕ) : Type 0 where
  pub tree : Tree
  pub marked : Marked m tree
  pub row : tree_row tree ≡ s
  pub of_kind : k ≡ kind t tree
  pub subtrees : Subtrees t m s ends kinds 0

-- what the reader of a tree answers: its kind, and it is known; or that the words are no tree with marks below m
abbrev pub TreeRead : TreeType → ℕ → List ℕ → List ℕ → List ℕ → Option ℕ → Type 0
TreeRead t m s ends kinds None = (x : Tree) → Marked m x → tree_row x ≢ s
TreeRead t m s ends kinds (Some k) = TreeKnown t m s ends kinds k
