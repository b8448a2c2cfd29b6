-- What is decided of a job: it fits, or the least tree that breaks it.
use Rattle.std.specs.Prelude.{◌≡◌, ℕ, ◌<◌, Bool, true, false, not, ◌&&◌, List, length, Some, None, Option, Ok, Err, Result, slice_index}
use Rattle.model.specs.Trees.{Tree}
use Rattle.model.specs.Types.{contains}
use Rattle.model.specs.Jobs.{Job, FitsAll}
use Rattle.model.specs.Rows.{tree_row}
use Rattle.table.specs.declared.Table.{Table}
use Rattle.table.specs.Tables.{sig_at, ranked_at}
use Rattle.signatures.specs.Signatures.{state_kind}
use Rattle.signatures.specs.JobClasses.{FewClasses, ManyClasses, LeastBreak}
use Rattle.verdict.specs.declared.Verdict.{Verdict}
use Rattle.verdict.specs.declared.Verdict.TheVariants.{Fits, Breaks}
use Rattle.verdict.specs.declared.Undecided.{Undecided}
use Rattle.verdict.specs.declared.Undecided.TheVariants.{Many, TooLong}
use Rattle.verdict.specs.Ranked.{Placed}

-- trees with this signature come in, and what becomes of them is not of the second type
abbrev pub breaks_by : Job → List ℕ → Bool
breaks_by j s = contains j.from.wanted (slice_index s 0) && not (contains j.to.wanted (state_kind s 0))

-- the signature of the tree of rank r breaks the job
abbrev pub breaks_at : Job → Table → ℕ → Bool
breaks_at j t r = breaks_by j (sig_at t (ranked_at t r))

-- the first rank whose tree breaks the job, or that none does
abbrev pub FirstBreak : Job → Table → Option ℕ → Type 0
FirstBreak j t None = (r : ℕ) → r < t.settled → breaks_at j t r ≡ false
FirstBreak j t (Some r) = (r < t.settled) × (breaks_at j t r ≡ true) × ((k : ℕ) → k < r → breaks_at j t k ≡ false)

-- every tree that comes in becomes one of the second type; nothing is written
pub record Fitting (j : Job) (n : ℕ) (o o' : List ℕ) : Type 0 where
  pub few : FewClasses j n
  pub fits : FitsAll j
  pub kept : o' ≡ o

-- the least tree that breaks the job, and its words
pub record Breaking (j : Job) (n : ℕ) (o o' : List ℕ) (k : ℕ) : Type 0 where
  pub few : FewClasses j n
  pub tree : Tree
  pub least : LeastBreak j tree
  pub placed : Placed (tree_row tree) o o' k

-- the least tree that breaks the job has more words than there is room for; nothing is written
pub record Overflowing (j : Job) (n : ℕ) (o o' : List ℕ) : Type 0 where
  pub few : FewClasses j n
  pub tree : Tree
  pub least : LeastBreak j tree
  pub long : length o < length (tree_row tree)
  pub kept : o' ≡ o

-- what is said of a job with n classes at most, where what was lent for a tree was o and is o'
abbrev pub Decides : Job → ℕ → List ℕ → List ℕ → Result Verdict Undecided → Type 0
Decides j n o o' (Err Many) = ManyClasses j n × (o' ≡ o)
Decides j n o o' (Ok Fits) = Fitting j n o o'
Decides j n o o' (Err TooLong) = Overflowing j n o o'
Decides j n o o' (Ok (Breaks k)) = Breaking j n o o' k
