-- Patterns evaluated on kinds, without making trees.
use Rattle.std.specs.Prelude.{◌≡◌, ℕ, ◌+◌, ◌<◌, ◌≤◌, List, length, slice_index_or}
use Rattle.model.specs.Turns.{Side, Pattern, p_leaf, p_node, p_part, depth, leaf_pattern, node_pattern}
use Rattle.model.specs.Rows.{pattern_row}
use Rattle.rows.specs.Jobs.{Begins}
use Rattle.rows.specs.Known.{to_of}
use Rattle.rows.specs.declared.jobs.KnownJob.{KnownJob}
use Rattle.signatures.specs.declared.evaluate.Valued.{Valued}
use Rattle.rows.specs.declared.trees.Item.{Item}
use Rattle.rows.specs.declared.trees.Item.TheVariants.{Leaf, Node}
use Rattle.signatures.specs.Parsing.{turn_in, job_of}
use Rattle.signatures.specs.Signatures.{pattern_kind, state_kind, part_kind, job_automaton}

-- every mark of the pattern is below m, and every kind that it takes from a part is below k
abbrev pub Bounded : ℕ → ℕ → (ℕ → Side → ℕ) → Pattern → Type 0
Bounded m k part (p_leaf a) = a < m
Bounded m k part (p_node a x y) = (a < m) × Bounded m k part x × Bounded m k part y
Bounded m k part (p_part q s) = part q s < k

-- a pattern stands at the place, and can be evaluated with the kinds of the parts in the signatures l and r
pub record Evaluable (j : KnownJob) (at deep : ℕ) (l r : List ℕ) (p : Pattern) : Type 0 where
  pub begins : Begins j.words.now at (pattern_row p)
  pub shallow : depth p ≤ deep
  pub bounded : Bounded j.places.marks j.places.to.kinds (part_kind l r) p

-- the pattern's kind, and where it ends
pub record Evaluates (j : KnownJob) (at : ℕ) (l r : List ℕ) (p : Pattern) (v : Valued) : Type 0 where
  pub value : v.kind ≡ pattern_kind (to_of j) (part_kind l r) p
  pub below : v.kind < j.places.to.kinds
  pub ends : v.end ≡ at + length (pattern_row p)

-- the words of a signature are kinds of the two types
pub record Signed (j : KnownJob) (l : List ℕ) : Type 0 where
  pub first : slice_index_or l 0 0 < j.places.from.kinds
  pub made : (q : ℕ) → q < j.places.turn.states → state_kind l q < j.places.to.kinds

-- a leaf or a node that can be signed: its mark is one of the job's, and its parts, if it has any, are signed
abbrev pub Signable : KnownJob → Item → List ℕ → List ℕ → Type 0
Signable j (Leaf b) l r = b < j.places.marks
Signable j (Node b) l r = (b < j.places.marks) × Signed j l × Signed j r

-- the signature of a leaf or a node
abbrev pub item_signature : KnownJob → Item → List ℕ → List ℕ → List ℕ
item_signature j (Leaf b) l r = (job_automaton (job_of j)).on_leaf b
item_signature j (Node b) l r = (job_automaton (job_of j)).on_node b l r

-- the pattern for a state and a leaf or a node
abbrev pub item_pattern : KnownJob → Item → ℕ → Pattern
item_pattern j (Leaf b) q = leaf_pattern j.places.marks (turn_in j) q b
item_pattern j (Node b) q = node_pattern j.places.marks (turn_in j) q b
