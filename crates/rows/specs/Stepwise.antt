-- A pattern's row and a tree's row, read one step at a time.
use Rattle.std.specs.Prelude.{ℕ, ◌+◌, ◌≤◌, List, [], ◌∷◌, length, Some, None, Option}
use Rattle.model.specs.Turns.{Side, left, right, Pattern, depth, WellFormedPattern}
use Rattle.model.specs.Rows.{side_word, pattern_row}
use Rattle.rows.specs.declared.steps.Part.{Part}
use Rattle.rows.specs.declared.steps.Part.TheVariants.{Left, Right}
use Rattle.rows.specs.declared.steps.Step.{Step}
use Rattle.rows.specs.declared.steps.Step.TheVariants.{Leaf, Node, Made}
use Rattle.rows.specs.declared.patterns.Bounds.{Bounds}
use Rattle.rows.specs.Standing.{Stands, Absent}

abbrev pub side_of : Part → Side
side_of Left = left
side_of Right = right

-- the words of one step; behind a node's come its two patterns
abbrev pub step_row : Step → List ℕ
step_row (Leaf a) = 0 ∷ a ∷ []
step_row (Node a) = 1 ∷ a ∷ []
step_row (Made q p) = 2 ∷ q ∷ side_word (side_of p) ∷ []

-- the step that stands at a place, or that no pattern's row begins there
abbrev pub StepAt : List ℕ → ℕ → Option Step → Type 0
StepAt s at None = Absent pattern_row (λ _. Unit {0}) s at
StepAt s at (Some x) = Stands s at (at + length (step_row x)) (step_row x)

-- what a pattern may be: within the bounds, and at most so deep
pub record PatternOk (deep : ℕ) (b : Bounds) (p : Pattern) : Type 0 where
  pub well_formed : WellFormedPattern b.marks b.states b.parts p
  pub shallow : depth p ≤ deep
