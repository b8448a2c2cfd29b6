-- The job that stands in words, worked out from its places and its index: what the automaton of its signatures means.
use Rattle.std.specs.Prelude.{ℕ, zero, suc, ◌+◌, ◌*◌, List, [], ◌∷◌, map, drop}
use Rattle.std.specs.List.{range_with_len}
use Rattle.model.specs.Turns.{Side, left, right, Pattern, p_leaf, p_node, p_part, Turn}
use Rattle.model.specs.Jobs.{Job}
use Rattle.rows.specs.Numbered.{number}
use Rattle.rows.specs.Jobs.{job_in}
use Rattle.rows.specs.declared.jobs.KnownJob.{KnownJob}

abbrev pub word_side : ℕ → Side
word_side zero = left
word_side (suc n) = right

-- a pattern, and the words behind its row
pub record Parsed : Type 0 where
  pub pattern : Pattern
  pub rest : List ℕ

-- the pattern whose row the words begin with, if it is at most so deep
unfoldable pub parse : ℕ → List ℕ → Parsed
parse zero s = record { pattern = p_leaf 0; rest = s }
parse (suc n) [] = record { pattern = p_leaf 0; rest = [] }
parse (suc n) (w ∷ []) = record { pattern = p_leaf 0; rest = [] }
parse (suc n) (zero ∷ (a ∷ s)) = record { pattern = p_leaf a; rest = s }
parse (suc n) (suc zero ∷ (a ∷ s)) =
    let x = parse n s in
    let y = parse n x.rest in
    record { pattern = p_node a x.pattern y.pattern; rest = y.rest }
parse (suc n) (suc (suc t) ∷ (q ∷ [])) = record { pattern = p_leaf 0; rest = [] }
parse (suc n) (suc (suc t) ∷ (q ∷ (d ∷ s))) = record { pattern = p_part q (word_side d); rest = s }

-- so many patterns, at the places that the index notes from number `first` on
abbrev pub patterns_in : List ℕ → List ℕ → ℕ → ℕ → List Pattern
patterns_in s index first count = map (λ i. (parse 64 (drop (number index (first + i)) s)).pattern) (range_with_len 0 count)

abbrev pub turn_in : KnownJob → Turn
turn_in j = record {
  states = j.places.turn.states;
  on_leaf = patterns_in j.words.now j.index.now 0 (j.places.turn.states * j.places.marks);
  on_node = patterns_in j.words.now j.index.now (j.places.turn.states * j.places.marks) (j.places.turn.states * j.places.marks);
}

abbrev pub job_of : KnownJob → Job
job_of j = job_in j.words.now j.places (turn_in j)
