-- Patterns filled in: their words, which parts play a role, and lengths known before a word is written.
use Rattle.std.specs.Prelude.{◌≡◌, ℕ, ◌+◌, ◌<◌, min, ◌⊎◌, ◌↔◌, List, [], ◌∷◌, ◌++◌, length}
use Rattle.model.specs.Trees.{Tree}
use Rattle.model.specs.Turns.{Side, Pattern, p_leaf, p_node, p_part, filled}
use Rattle.model.specs.Rows.{tree_row}

-- a pattern's own words, with each part's words put in
abbrev pub filled_row : (ℕ → Side → List ℕ) → Pattern → List ℕ
filled_row part (p_leaf a) = 0 ∷ a ∷ []
filled_row part (p_node a x y) = 1 ∷ a ∷ (filled_row part x ++ filled_row part y)
filled_row part (p_part q s) = part q s

-- how many words these are
abbrev pub filled_length : (ℕ → Side → ℕ) → Pattern → ℕ
filled_length part (p_leaf a) = 2
filled_length part (p_node a x y) = 2 + (filled_length part x + filled_length part y)
filled_length part (p_part q s) = part q s

-- the pattern asks for what state q makes of the part on side s
abbrev pub Uses : ℕ → Side → Pattern → Type 0
Uses q s (p_leaf a) = ⊥
Uses q s (p_node a x y) = Uses q s x ⊎ Uses q s y
Uses q s (p_part r d) = (q ≡ r) × (s ≡ d)

pub record FillingLaws : Type 0 where
  -- the words of a filled pattern are its own, with each part's words put in
  pub words : (part : ℕ → Side → Tree) (p : Pattern) → tree_row (filled part p) ≡ filled_row (λ q s. tree_row (part q s)) p
  -- a part that is not used plays no role
  pub unused : (part other : ℕ → Side → Tree) (p : Pattern) → ((q : ℕ) (s : Side) → Uses q s p → part q s ≡ other q s) → filled part p ≡ filled other p
  -- a part that is used twice gives the same words twice
  pub twice : (part : ℕ → Side → Tree) (a q : ℕ) (s : Side) → tree_row (filled part (p_node a (p_part q s) (p_part q s))) ≡ 1 ∷ a ∷ (tree_row (part q s) ++ tree_row (part q s))
  -- the length is known from the lengths of the parts
  pub lengths : (part : ℕ → Side → Tree) (p : Pattern) → length (tree_row (filled part p)) ≡ filled_length (λ q s. length (tree_row (part q s))) p
  -- a count that stays at the greatest number once that is reached is still the capped count of all
  pub capped : (most n k : ℕ) → min (min n most + k) most ≡ min (n + k) most
  -- and it is compared rightly with any room below that number
  pub compared : (most room n : ℕ) → room < most → (room < min n most) ↔ (room < n)
