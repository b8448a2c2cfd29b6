-- The walk over patterns: what is still to come, and what has been put out.
use Rattle.std.specs.Prelude.{◌≡◌, ℕ, ◌+◌, ◌*◌, ◌<◌, ◌≤◌, List, [], ◌∷◌, ◌++◌, length, Some, None, Ok, Err, Option, Result}
use Rattle.rows.specs.declared.steps.Step.{Step}
use Rattle.rows.specs.Stepwise.{StepAt}
use Rattle.transduce.specs.declared.source.Source.{Source}
use Rattle.transduce.specs.declared.frames.Frame.{Frame}
use Rattle.transduce.specs.declared.frames.Frames.{Frames}
use Rattle.transduce.specs.declared.walks.TooLong.{TooLong}
use Rattle.transduce.specs.Tasks.{Task, task_row, tasks_row}
use Rattle.transduce.specs.Framed.{SourceKnown, FrameKnown, Stack, result_row}

-- the words `rest` are still to be put out
pub record Pending (src : Source) (k : SourceKnown src) (frames : Frames) (now : Frame) (rest : List ℕ) : Type 0 where
  pub task : Task
  pub todo : List Task
  pub here : FrameKnown src k now task
  pub stack : Stack src k frames.words.now frames.depth todo
  pub high : frames.depth ≤ now.node
  pub row : task_row src.job.places.marks k.job.turns task ++ tasks_row src.job.places.marks k.job.turns todo ≡ rest

-- something is still to be put out
abbrev pub Ready : Source → Frames → Frame → Type 0
Ready src frames now = ∥ ((k : SourceKnown src) × (rest : List ℕ) × Pending src k frames now rest) ∥₁

-- the pattern of this frame begins with this step
abbrev pub Begun : Source → Frame → Step → Type 0
Begun src now x = StepAt src.job.words.now now.at (Some x)

-- from one frame to another, further down the tree, with the same still to be put out
pub record Descended (src : Source) (old new : Frames) (now next : Frame) : Type 0 where
  pub down : now.node < next.node
  pub within : 2 * next.node < length src.tree.now
  pub long : length new.words.now ≡ length old.words.now
  pub pending : (k : SourceKnown src) (rest : List ℕ) → Pending src k old now rest → Pending src k new next rest

-- what is still to be put out begins with a node, and goes on with another frame
pub record AfterNode (src : Source) (k : SourceKnown src) (frames : Frames) (next : Frame) (a : ℕ) (rest : List ℕ) : Type 0 where
  pub more : List ℕ
  pub first : rest ≡ 1 ∷ a ∷ more
  pub pending : Pending src k frames next more

-- what the walk goes on with behind a leaf: another frame, or nothing is left
abbrev pub GoesOn : (src : Source) (k : SourceKnown src) → Frames → List ℕ → Option Frame → Type 0
GoesOn src k frames more None = more ≡ []
GoesOn src k frames more (Some next) = Pending src k frames next more

pub record AfterLeaf (src : Source) (k : SourceKnown src) (frames : Frames) (next : Option Frame) (a : ℕ) (rest : List ℕ) : Type 0 where
  pub more : List ℕ
  pub first : rest ≡ 0 ∷ a ∷ more
  pub goes_on : GoesOn src k frames more next

-- some words of the result have been put out, and `left` more leaves and nodes may be
pub record Progress (src : Source) (k : SourceKnown src) (frames : Frames) (now : Frame) (most left : ℕ) (Put : List ℕ → Type 0) : Type 0 where
  pub before : List ℕ
  pub after : List ℕ
  pub pending : Pending src k frames now after
  pub whole : before ++ after ≡ result_row src k
  pub counted : length before + 2 * left ≡ 2 * most
  pub put : Put before

-- at most so many leaves and nodes are put out: the whole result, or as many, and there are more
abbrev pub Walked : (src : Source) (k : SourceKnown src) → ℕ → (List ℕ → Type 0) → Result (Unit {0}) TooLong → Type 0
Walked src k most Put (Ok u) = Put (result_row src k) × (length (result_row src k) ≤ 2 * most)
Walked src k most Put (Err e) = (us : List ℕ) × Put us × (2 * most < length (result_row src k))
