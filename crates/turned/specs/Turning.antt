-- What `turn` promises.
use Rattle.std.specs.Prelude.{◌≡◌, ℕ, ◌+◌, ◌*◌, ◌<◌, false, ◌↔◌, List, length, take, drop, Ok, Err, Result}
use Rattle.model.specs.Trees.{Tree, Marked}
use Rattle.model.specs.Types.{is_of}
use Rattle.model.specs.Jobs.{Job, Comes, result}
use Rattle.model.specs.Rows.{tree_row, Rows}
use Rattle.model.specs.Laws.{RowLaws}
use Rattle.turned.specs.declared.Unturned.{Unturned}
use Rattle.turned.specs.declared.Unturned.TheVariants.{NotOf, NoSuch, NoTree, Full, Small}
use Rattle.turned.specs.Filling.{FillingLaws}

-- s is a job and a is a tree that comes in
pub record Taken (s a : List ℕ) : Type 0 where
  pub job : Job
  pub tree : Tree
  pub rows : Rows s job
  pub row : tree_row tree ≡ a
  pub comes : Comes job tree

-- the result's k words stand first in out, which was o and is o', and the rest is as it was
pub record GivesResult (s a o o' : List ℕ) (k : ℕ) : Type 0 where
  pub taken : Taken s a
  pub words : k ≡ length (tree_row (result taken.job taken.tree))
  pub written : take k o' ≡ tree_row (result taken.job taken.tree)
  pub rest : drop k o' ≡ drop k o

-- the tree has marks below m and is not of the first type
pub record IsNotOf (s a o o' : List ℕ) : Type 0 where
  pub job : Job
  pub tree : Tree
  pub rows : Rows s job
  pub row : tree_row tree ≡ a
  pub marked : Marked job.marks tree
  pub other : is_of job.from tree ≡ false
  pub kept : o' ≡ o

-- s is no job
pub record IsNoJob (s o o' : List ℕ) : Type 0 where
  pub none : (j : Job) → Rows s j → ⊥
  pub kept : o' ≡ o

-- s is a job, and a is no tree with marks below m
pub record IsNoTree (s a o o' : List ℕ) : Type 0 where
  pub job : Job
  pub rows : Rows s job
  pub none : (x : Tree) → tree_row x ≡ a → Marked job.marks x → ⊥
  pub kept : o' ≡ o

-- the result has more words than out
pub record IsFull (s a o o' : List ℕ) : Type 0 where
  pub taken : Taken s a
  pub long : length o < length (tree_row (result taken.job taken.tree))
  pub kept : o' ≡ o

-- what is meant by each answer
abbrev pub DoneSays : List ℕ → List ℕ → List ℕ → List ℕ → Result ℕ Unturned → Type 0
DoneSays s a o o' (Ok k) = GivesResult s a o o' k
DoneSays s a o o' (Err NotOf) = IsNotOf s a o o'
DoneSays s a o o' (Err NoSuch) = IsNoJob s o o'
DoneSays s a o o' (Err NoTree) = IsNoTree s a o o'
DoneSays s a o o' (Err Full) = IsFull s a o o'
DoneSays s a o o' (Err Small) = o' ≡ o

-- the work words that `turn` asks for
abbrev pub turn_words : List ℕ → List ℕ → ℕ
turn_words s a = 4096 + (4 * length s + 8 * length a)

-- the promise: s are the job's words, a the tree's, o what out was, o' what it is, w how many work words were lent
pub record DonePost (s a o o' : List ℕ) (w : ℕ) (r : Result ℕ Unturned) : Type 0 where
  pub says : DoneSays s a o o' r
  pub small : (w < turn_words s a) ↔ (r ≡ Err Small)
  pub rows_say_one : RowLaws
  pub filling : FillingLaws
