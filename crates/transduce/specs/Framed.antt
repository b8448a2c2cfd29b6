-- A job and a tree that were read, and frames: tasks as numbers in lent words.
use Rattle.std.specs.Prelude.{◌≡◌, ℕ, ◌-◌, ◌*◌, ◌≤◌, List, [], ◌∷◌, length}
use Rattle.std.specs.List.{AllByRecursion}
use Rattle.model.specs.Trees.{Tree, Marked}
use Rattle.model.specs.Turns.{WellFormedPattern, made}
use Rattle.model.specs.Rows.{tree_row, patterns_row}
use Rattle.rows.specs.declared.steps.Part.{Part}
use Rattle.rows.specs.declared.steps.Part.TheVariants.{Left, Right}
use Rattle.rows.specs.Standing.{Stands}
use Rattle.rows.specs.Jobs.{Begins}
use Rattle.transduce.specs.Sources.{TreeOfJob}
use Rattle.transduce.specs.declared.frames.Frame.{Frame}
use Rattle.transduce.specs.declared.source.Source.{Source}
use Rattle.transduce.specs.Stacked.{frame_at}
use Rattle.transduce.specs.Tasks.{has_parts, Task}

-- the job and the tree are known
abbrev pub SourceKnown : Source → Type 0
SourceKnown src = TreeOfJob src.job src.tree.now src.ends.now

-- what state q makes of a tree
abbrev pub made_of : (src : Source) → SourceKnown src → Tree → ℕ → Tree
made_of src k x q = made src.job.places.marks k.job.turns x q

-- the words of the result
abbrev pub result_row : (src : Source) → SourceKnown src → List ℕ
result_row src k = tree_row (made_of src k k.tree.tree 0)

abbrev pub part_tree : Part → Tree → Tree → Tree
part_tree Left l r = l
part_tree Right l r = r

-- the frame stands for the task: the number of the subtree, where its patterns stand, and how many
pub record FrameKnown (src : Source) (k : SourceKnown src) (f : Frame) (x : Task) : Type 0 where
  pub marked : Marked src.job.places.marks x.tree
  pub subtree : Begins src.tree.now (2 * f.node) (tree_row x.tree)
  pub end : ℕ
  pub stands : Stands src.job.words.now f.at end (patterns_row x.patterns)
  pub well_formed : AllByRecursion (WellFormedPattern src.job.places.marks src.job.places.turn.states (has_parts x.tree)) x.patterns
  pub counted : f.count ≡ length x.patterns
  pub some : 1 ≤ f.count

-- the d frames stand for these tasks, the last frame for the first; a frame's number is at most its node's
abbrev pub Stack : (src : Source) → SourceKnown src → List ℕ → ℕ → List Task → Type 0
Stack src k frames d [] = d ≡ 0
Stack src k frames d (x ∷ xs) = (1 ≤ d) × (d - 1 ≤ (frame_at frames (d - 1)).node) × FrameKnown src k (frame_at frames (d - 1)) x × Stack src k frames (d - 1) xs
