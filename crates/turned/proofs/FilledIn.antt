-- The laws of filling in: by induction on the pattern; the arithmetic of capped counts by itself.
use Rattle.std.proofs.Common.{◌≡◌, ℕ, length, refl, inl, inr, arith, length-append}
use Rattle.model.specs.Trees.{Tree}
use Rattle.model.specs.Turns.{Side, Pattern, p_leaf, p_node, p_part, filled}
use Rattle.model.specs.Rows.{tree_row}
use Rattle.turned.specs.Filling.{filled_row, filled_length, Uses, FillingLaws}

words : (part : ℕ → Side → Tree) (p : Pattern) → tree_row (filled part p) ≡ filled_row (λ q s. tree_row (part q s)) p
words part (p_leaf a) = refl
words part (p_node a x y) = let u = words part x in let v = words part y in cc
words part (p_part q s) = refl

unused : (part other : ℕ → Side → Tree) (p : Pattern) → ((q : ℕ) (s : Side) → Uses q s p → part q s ≡ other q s) → filled part p ≡ filled other p
unused part other (p_leaf a) h = refl
unused part other (p_node a x y) h =
    let u = unused part other x (λ q s l. h q s (inl l)) in
    let v = unused part other y (λ q s l. h q s (inr l)) in
    cc
unused part other (p_part q s) h = h q s (refl, refl)

lengths : (part : ℕ → Side → Tree) (p : Pattern) → length (tree_row (filled part p)) ≡ filled_length (λ q s. length (tree_row (part q s))) p
lengths part (p_leaf a) = refl
lengths part (p_node a x y) = omega (arith, length-append (tree_row (filled part x)) (tree_row (filled part y)), lengths part x, lengths part y)
lengths part (p_part q s) = refl

pub filling_laws : FillingLaws
filling_laws = record {
  words = words;
  unused = unused;
  twice = λ part a q s. refl;
  lengths = lengths;
  capped = λ most n k. omega arith;
  compared = λ most room n h. (λ l. omega arith, λ l. omega arith);
}
