-- What is promised of the classes of a job: signatures tell them, there are finitely many, one tree of each tells whether the
-- job fits, none is missed by looking at one tree of each, and least trees have least parts.
use Rattle.std.specs.Prelude.{◌≡◌, ℕ, ◌*◌, ◌^◌, ◌<◌, ◌↔◌, List, length}
use Rattle.model.specs.Trees.{Tree, node, Marked}
use Rattle.model.specs.Jobs.{Job, Alike, Comes, Good, FitsAll, WellFormedJob}
use Rattle.automata.specs.Automata.{sig}
use Rattle.automata.specs.Classes.{at, OneOfEach}
use Rattle.automata.specs.Laws.{Finite}
use Rattle.signatures.specs.Signatures.{signature, job_automaton}
use Rattle.signatures.specs.JobClasses.{HasAlike, LeastAlike, JobClasses, FewClasses, ClosedAlike}

pub record SignatureLaws : Type 0 where
  -- the automaton ends in the signature
  pub computed : (j : Job) → WellFormedJob j → (x : Tree) → sig (job_automaton j) x ≡ signature j x
  -- alike is having one signature
  pub alike : (j : Job) (x y : Tree) → Alike j x y ↔ (signature j x ≡ signature j y)
  -- the class of a node is fixed by its mark and its parts' classes
  pub by_parts : (j : Job) → WellFormedJob j → (a : ℕ) (l l' r r' : Tree) → Alike j l l' → Alike j r r' → Alike j (node a l r) (node a l' r')
  -- there are at most so many classes
  pub finite : (j : Job) → WellFormedJob j → Finite (job_automaton j) (j.from.kinds * j.to.kinds ^ j.turn.states)
  -- one tree of a class tells of every tree of it
  pub one_tells : (j : Job) → WellFormedJob j → (x y : Tree) → Marked j.marks x → Alike j x y → (Comes j x → Good j x) → Comes j y → Good j y
  -- one tree of each class tells whether the job fits
  pub one_tells_all : (j : Job) → WellFormedJob j → (ts : List Tree) → OneOfEach (job_automaton j) ts
      → ((i : ℕ) → i < length ts → Comes j (at ts i) → Good j (at ts i)) → FitsAll j

-- of jobs alone
pub record JobLaws : Type 0 where
  -- the class of a node is fixed by its mark and its parts' classes
  pub by_parts : (j : Job) → WellFormedJob j → (a : ℕ) (l l' r r' : Tree) → Alike j l l' → Alike j r r' → Alike j (node a l r) (node a l' r')
  -- there are at most so many classes
  pub finite : (j : Job) → WellFormedJob j → FewClasses j (j.from.kinds * j.to.kinds ^ j.turn.states)
  -- how many there are is a fact of the job
  pub counted : (j : Job) → WellFormedJob j → (ts us : List Tree) → JobClasses j ts → JobClasses j us → length ts ≡ length us
  -- one tree of a class tells of every tree of it
  pub one_tells : (j : Job) → WellFormedJob j → (x y : Tree) → Marked j.marks x → Alike j x y → (Comes j x → Good j x) → Comes j y → Good j y
  -- one tree of each class tells whether the job fits
  pub one_tells_all : (j : Job) → WellFormedJob j → (ts : List Tree) → JobClasses j ts
      → ((i : ℕ) → i < length ts → Comes j (at ts i) → Good j (at ts i)) → FitsAll j
  -- no class is missed, though only one tree of each was looked at
  pub none_missed : (j : Job) → WellFormedJob j → (ts : List Tree) → ClosedAlike j ts → (y : Tree) → Marked j.marks y → HasAlike j ts y
  -- the parts of a least tree are least
  pub parts_least : (j : Job) → WellFormedJob j → (a : ℕ) (l r : Tree) → Marked j.marks (node a l r) → LeastAlike j (node a l r) → LeastAlike j l × LeastAlike j r
