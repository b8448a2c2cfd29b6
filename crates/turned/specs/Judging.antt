-- What `judge` promises.
use Rattle.std.specs.Prelude.{◌≡◌, ℕ, ◌+◌, ◌*◌, ◌<◌, true, ◌↔◌, List, length, take, drop, Ok, Err, Result}
use Rattle.model.specs.Trees.{Tree, Marked}
use Rattle.model.specs.Types.{is_of}
use Rattle.model.specs.Jobs.{Job, FitsAll}
use Rattle.model.specs.Rows.{tree_row, Rows}
use Rattle.model.specs.Laws.{RowLaws, TreeOrder}
use Rattle.automata.specs.Laws.{AutomatonLaws}
use Rattle.signatures.specs.JobClasses.{FewClasses, ManyClasses, LeastBreak}
use Rattle.signatures.specs.Laws.{JobLaws}
pub use Rattle.verdict.specs.declared.Verdict.{Verdict}
pub use Rattle.verdict.specs.declared.Verdict.TheVariants.{Fits, Breaks}
use Rattle.turned.specs.declared.Unjudged.{Unjudged}
use Rattle.turned.specs.declared.Unjudged.TheVariants.{NoJob, Many, OutFull, Few}
use Rattle.turned.specs.Turning.{IsNoJob, DonePost}

-- s is a job with at most n classes
pub record Judging (s : List ℕ) (n : ℕ) : Type 0 where
  pub job : Job
  pub rows : Rows s job
  pub few : FewClasses job n

-- every tree of the first type, of any size, becomes one of the second
pub record IsFit (s : List ℕ) (n : ℕ) (o o' : List ℕ) : Type 0 where
  pub judging : Judging s n
  pub fits : FitsAll judging.job
  pub kept : o' ≡ o

-- the k words of the least tree that breaks the job stand first in what was o and is o', and the rest is as it was
pub record IsBroken (s : List ℕ) (n : ℕ) (o o' : List ℕ) (k : ℕ) : Type 0 where
  pub judging : Judging s n
  pub tree : Tree
  pub least : LeastBreak judging.job tree
  pub words : k ≡ length (tree_row tree)
  pub written : take k o' ≡ tree_row tree
  pub rest : drop k o' ≡ drop k o

-- s is a job with more than n classes
pub record HasMany (s : List ℕ) (n : ℕ) (o o' : List ℕ) : Type 0 where
  pub job : Job
  pub rows : Rows s job
  pub many : ManyClasses job n
  pub kept : o' ≡ o

-- the least tree that breaks the job has more words than there is room for
pub record IsOutFull (s : List ℕ) (n : ℕ) (o o' : List ℕ) : Type 0 where
  pub judging : Judging s n
  pub tree : Tree
  pub least : LeastBreak judging.job tree
  pub long : length o < length (tree_row tree)
  pub kept : o' ≡ o

-- what is meant by each answer
abbrev pub JudgedSays : List ℕ → ℕ → List ℕ → List ℕ → Result Verdict Unjudged → Type 0
JudgedSays s n o o' (Ok Fits) = IsFit s n o o'
JudgedSays s n o o' (Ok (Breaks k)) = IsBroken s n o o' k
JudgedSays s n o o' (Err NoJob) = IsNoJob s o o'
JudgedSays s n o o' (Err Many) = HasMany s n o o'
JudgedSays s n o o' (Err OutFull) = IsOutFull s n o o'
JudgedSays s n o o' (Err Few) = o' ≡ o

-- the work words that `judge` asks for
abbrev pub judge_words : List ℕ → ℕ → ℕ
judge_words s n = 4096 + (4 * length s + (n + 1) * (256 + n))

-- the promise: s are the job's words, n how many classes are allowed, o what was lent for a tree, o' what it is, w how many
-- work words were lent
pub record JudgedPost (s : List ℕ) (n : ℕ) (o o' : List ℕ) (w : ℕ) (r : Result Verdict Unjudged) : Type 0 where
  pub says : JudgedSays s n o o' r
  pub few : (w < judge_words s n) ↔ (r ≡ Err Few)
  -- rows say one job and one tree
  pub rows_say_one : RowLaws
  -- the order of trees is total, so that a least tree is the only one
  pub order : TreeOrder
  -- classes are finitely many and fixed by parts; one tree of each tells all; none is missed; least trees have least parts
  pub classes : JobLaws
  -- of any automaton: how its classes are found with their least trees, and how trees are compared by places
  pub search : AutomatonLaws

-- the words are a tree with the job's marks that is of its second type
pub record OfSecond (s words : List ℕ) : Type 0 where
  pub job : Job
  pub rows : Rows s job
  pub tree : Tree
  pub row : tree_row tree ≡ words
  pub marked : Marked job.marks tree
  pub of_type : is_of job.to tree ≡ true

-- The two calls together: where a job fits, whatever `turn` gives for it is of the second type.
abbrev pub CallsTogether : Type 0
CallsTogether = (s t t' a o o' : List ℕ) (n v w k : ℕ)
    → JudgedPost s n t t' v (Ok Fits) → DonePost s a o o' w (Ok k) → OfSecond s (take k o')
