-- Trees given by their mark and the places of their parts in a list, and compared by these.
use Rattle.std.specs.Prelude.{◌≡◌, ℕ, ◌+◌, ◌<◌, List, length}
use Rattle.model.specs.Trees.{Tree, leaf, node, Lex}
use Rattle.automata.specs.Classes.{at}

-- the size of a tree, its mark, and the places of its parts, counted from 1; those of a leaf are 0
pub record Link : Type 0 where
  pub size : ℕ
  pub mark : ℕ
  pub left : ℕ
  pub right : ℕ

-- a part stands at the place before p
pub record Placed (S : List Tree) (p : ℕ) (t : Tree) : Type 0 where
  pub place : ℕ
  pub counted : p ≡ place + 1
  pub within : place < length S
  pub stands : at S place ≡ t

-- the link, but for the size, is that of a leaf or of a node whose parts stand in the list
abbrev pub Linked : List Tree → Link → Tree → Type 0
Linked S k (leaf a) = (k.mark ≡ a) × (k.left ≡ 0) × (k.right ≡ 0)
Linked S k (node a l r) = (k.mark ≡ a) × Placed S k.left l × Placed S k.right r

-- by size, then mark, then place of the left part, then place of the right part
abbrev pub Precedes : Link → Link → Type 0
Precedes k h =
    Lex (k.size < h.size) (k.size ≡ h.size)
    (Lex (k.mark < h.mark) (k.mark ≡ h.mark)
    (Lex (k.left < h.left) (k.left ≡ h.left) (k.right < h.right)))

-- the two are the same in all four
pub record Ties (k h : Link) : Type 0 where
  pub size : k.size ≡ h.size
  pub mark : k.mark ≡ h.mark
  pub left : k.left ≡ h.left
  pub right : k.right ≡ h.right
