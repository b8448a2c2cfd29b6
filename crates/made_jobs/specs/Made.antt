-- The words that tables are written as.
use Rattle.std.specs.Prelude.{ℕ, ◌-◌, ◌^◌, min, List, ◌∷◌, ◌++◌, length}
use Rattle.made_jobs.specs.declared.TypeTables.{TypeTables}
use Rattle.made_jobs.specs.declared.JobTables.{JobTables}

-- a type: its tables, and behind them the kinds that are wanted and how many they are, as far as a word says it
abbrev pub type_words : TypeTables → List ℕ
type_words t = (t.kinds ∷ (t.leaves.now ++ t.nodes.now)) ++ (min (length t.wanted.now) (2 ^ 32 - 1) ∷ t.wanted.now)

-- a job: the number of marks, the type that comes in, the turn, and the type that is to come out
abbrev pub job_words : JobTables → List ℕ
job_words j = (j.marks ∷ type_words j.from) ++ (j.turn.states ∷ (j.turn.leaves.now ++ j.turn.nodes.now)) ++ type_words j.to
