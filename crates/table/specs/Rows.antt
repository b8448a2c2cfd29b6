-- Rows of a region, and trees by their size and link.
use Rattle.std.specs.Prelude.{◌≡◌, ℕ, ◌+◌, ◌*◌, List, ◌≢◌, slice_index}
use Rattle.std.specs.declared.cmp.Ordering.{Ordering}
use Rattle.std.specs.List.{between}
use Rattle.std.specs.Ordering.{MatchOrdering}
use Rattle.numbers.specs.Value.{value}
use Rattle.automata.specs.Links.{Link, Precedes, Ties}
use Rattle.table.specs.declared.links.Candidate.{Candidate}

-- row k of width w
abbrev pub row : ℕ → ℕ → List ℕ → List ℕ
row w k xs = between (k * w) (k * w + w) xs

-- row k was written, and no other
pub record Written (w k : ℕ) (from old new : List ℕ) : Type 0 where
  pub here : row w k new ≡ from
  pub others : (j : ℕ) → (j ≢ k) → row w j new ≡ row w j old

-- a tree by the words of its size and of its link
abbrev pub link_of : List ℕ → List ℕ → Link
link_of size link = record { size = value size; mark = slice_index link 0; left = slice_index link 1; right = slice_index link 2 }

abbrev pub linkage : Candidate → Link
linkage c = link_of c.size.now c.link.now

-- how two trees stand
abbrev pub Stands : Ordering → Link → Link → Type 0
Stands r k h = MatchOrdering r (Precedes k h) (Ties k h) (Precedes h k)
