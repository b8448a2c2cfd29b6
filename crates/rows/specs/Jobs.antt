-- Turns and jobs by the places of their parts.
use Rattle.std.specs.Prelude.{◌≡◌, ℕ, ◌+◌, ◌*◌, ◌<◌, ◌≤◌, List, length, Some, None, Ok, Err, Option, Result, slice_index_or}
use Rattle.std.specs.List.{AllByRecursion}
use Rattle.model.specs.Turns.{Pattern, p_leaf, pattern_place, Turn, WellFormedTurn}
use Rattle.model.specs.Jobs.{Job, Shallow}
use Rattle.model.specs.Rows.{pattern_row, patterns_row, turn_row, Rows}
use Rattle.rows.specs.declared.patterns.Bounds.{Bounds}
use Rattle.rows.specs.declared.jobs.TurnPlaces.{TurnPlaces}
use Rattle.rows.specs.declared.jobs.JobPlaces.{JobPlaces}
use Rattle.rows.specs.declared.jobs.JobRefusal.{JobRefusal}
use Rattle.rows.specs.declared.jobs.JobRefusal.TheVariants.{NoJob, NoRoom}
use Rattle.rows.specs.declared.trees.Item.{Item}
use Rattle.rows.specs.declared.trees.Item.TheVariants.{Leaf, Node}
use Rattle.rows.specs.Numbered.{number}
use Rattle.rows.specs.Standing.{Stands, Absent}
use Rattle.rows.specs.Stepwise.{PatternOk}
use Rattle.rows.specs.Tables.{TypeKnown, type_in}

-- the words xs stand in s at the place `at`
abbrev pub Begins : List ℕ → ℕ → List ℕ → Type 0
Begins s at xs = Stands s at (at + length xs) xs

-- so many patterns, each within the bounds and at most 64 deep
pub record PatternsOk (count : ℕ) (b : Bounds) (ps : List Pattern) : Type 0 where
  pub long : length ps ≡ count
  pub each : AllByRecursion (PatternOk 64 b) ps

-- the index notes where these patterns begin, from number `first` on
abbrev pub Indexed : List ℕ → List ℕ → ℕ → List Pattern → Type 0
Indexed s index first ps = (i : ℕ) → i < length ps → Begins s (number index (first + i)) (pattern_row (slice_index_or ps i (p_leaf 0)))

-- patterns that were read one behind the other, and noted in the index; what was noted before `first` stays
pub record PatternsKnown (s old new : List ℕ) (at end first count : ℕ) (b : Bounds) : Type 0 where
  pub patterns : List Pattern
  pub ok : PatternsOk count b patterns
  pub stands : Stands s at end (patterns_row patterns)
  pub indexed : Indexed s new first patterns
  pub kept : (k : ℕ) → k < first → number new k ≡ number old k

abbrev pub PatternsRead : List ℕ → List ℕ → List ℕ → ℕ → ℕ → ℕ → Bounds → Option ℕ → Type 0
PatternsRead s old new at first count b None = Absent patterns_row (PatternsOk count b) s at
PatternsRead s old new at first count b (Some end) = PatternsKnown s old new at end first count b

-- a turn whose row is read: well-formed for m marks, within the limits of 64 states and 64 levels
pub record TurnOk (m : ℕ) (t : Turn) : Type 0 where
  pub well_formed : WellFormedTurn m t
  pub few_states : t.states ≤ 64
  pub leaf_depths : AllByRecursion Shallow t.on_leaf
  pub node_depths : AllByRecursion Shallow t.on_node

-- a turn stands in s, and the index notes where its patterns begin: those for leaves, then those for nodes
pub record TurnKnown (s index : List ℕ) (m at : ℕ) (p : TurnPlaces) : Type 0 where
  pub turns : Turn
  pub ok : TurnOk m turns
  pub states : turns.states ≡ p.states
  pub room : 4 * (p.states * m) ≤ length index
  pub stands : Stands s at p.end (turn_row turns)
  pub leaf_places : Indexed s index 0 turns.on_leaf
  pub node_places : Indexed s index (p.states * m) turns.on_node

abbrev pub TurnRead : List ℕ → List ℕ → ℕ → ℕ → Option TurnPlaces → Type 0
TurnRead s index m at None = Absent turn_row (TurnOk m) s at
TurnRead s index m at (Some p) = TurnKnown s index m at p

-- the job with this turn whose types stand at these places
abbrev pub job_in : List ℕ → JobPlaces → Turn → Job
job_in s p t = record { marks = p.marks; from = type_in s p.marks p.from; turn = t; to = type_in s p.marks p.to }

-- s is a job, known by these places and an index of its patterns: this is what all later code works from
pub record JobKnown (s index : List ℕ) (p : JobPlaces) : Type 0 where
  pub turns : Turn
  pub rows : Rows s (job_in s p turns)
  pub states : turns.states ≡ p.turn.states
  pub room : 4 * (p.turn.states * p.marks) ≤ length index
  pub from_known : TypeKnown s p.marks p.from
  pub to_known : TypeKnown s p.marks p.to
  pub leaf_places : Indexed s index 0 turns.on_leaf
  pub node_places : Indexed s index (p.turn.states * p.marks) turns.on_node

abbrev pub PlacesFound : List ℕ → List ℕ → Option JobPlaces → Type 0
PlacesFound s index None = (j : Job) → Rows s j → ⊥
PlacesFound s index (Some p) = JobKnown s index p

-- what the reader of a job answers: the job is known, or there is none, or the index has fewer words than the job
abbrev pub JobRead : List ℕ → List ℕ → Result JobPlaces JobRefusal → Type 0
JobRead s index (Ok p) = (length s ≤ length index) × JobKnown s index p
JobRead s index (Err NoJob) = (length s ≤ length index) × ((j : Job) → Rows s j → ⊥)
JobRead s index (Err NoRoom) = length index < length s

abbrev pub item_mark : Item → ℕ
item_mark (Leaf a) = a
item_mark (Node a) = a

-- the number in the index of the pattern for a state and a leaf or a node
abbrev pub item_place : JobPlaces → Item → ℕ → ℕ
item_place p (Leaf a) q = pattern_place p.marks q a
item_place p (Node a) q = p.turn.states * p.marks + pattern_place p.marks q a
