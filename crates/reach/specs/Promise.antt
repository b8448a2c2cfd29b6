-- What the search answers.
use Rattle.std.specs.Prelude.{ℕ, ◌<◌, ◌≤◌, List, length, Result, MatchResult}
use Rattle.model.specs.Trees.{Tree}
use Rattle.automata.specs.Automata.{TreeAutomaton}
use Rattle.automata.specs.Classes.{OneOfEach, Classes, MoreThan}
use Rattle.table.specs.declared.Table.{Table}
use Rattle.table.specs.Tables.{rank_at}
use Rattle.reach.specs.declared.TooMany.{TooMany}
use Rattle.reach.specs.Searching.{State}

-- the table holds the least trees of all classes, in order, one row for each, and there are no more than it has rows
pub record AllFound (A : TreeAutomaton) (t : Table) : Type 0 where
  pub trees : List Tree
  pub classes : Classes A trees
  pub state : State A trees t
  pub few : t.settled ≤ t.shape.most
  pub all_ranked : (k : ℕ) → k < t.count → 0 < rank_at t k

-- there are more than n classes: as many trees that are not alike, and so every list with one tree of each class is longer
pub record MoreClasses (A : TreeAutomaton) (n : ℕ) : Type 0 where
  pub more : MoreThan A n
  pub longer : (ts : List Tree) → OneOfEach A ts → n < length ts

-- all classes, which are no more than the table has rows; or there are more
abbrev pub Finds : TreeAutomaton → Table → Result (Unit {0}) TooMany → Type 0
Finds A t r = MatchResult r (λ _. AllFound A t) (λ _. MoreClasses A t.shape.most)
