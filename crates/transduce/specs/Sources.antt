-- A job and one of its trees, both read.
use Rattle.std.specs.Prelude.{ℕ, ◌≤◌, List, length}
use Rattle.rows.specs.declared.jobs.KnownJob.{KnownJob}
use Rattle.rows.specs.Jobs.{JobKnown}
use Rattle.rows.specs.Known.{from_of}
use Rattle.rows.specs.Subtrees.{TreeKnown}

-- the words are a tree with the job's marks, and the ends of its subtrees are noted
pub record TreeOfJob (j : KnownJob) (words ends : List ℕ) : Type 0 where
  pub job : JobKnown j.words.now j.index.now j.places
  pub kinds : List ℕ
  pub kind : ℕ
  pub tree : TreeKnown (from_of j) j.places.marks words ends kinds kind
  pub room : length words ≤ length ends
