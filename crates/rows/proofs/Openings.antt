-- How a pattern's row begins: its first word is 0, 1 or 2, and says how many more there are. By cases on the pattern.
use Rattle.std.proofs.Common.{◌≡◌, ℕ, ◌+◌, ◌-◌, ◌<◌, ◌≤◌, List, ◌∷◌, ◌++◌, length, get_or, drop, refl, ◌∙◌, arith, length-drop}
use Rattle.std.specs.List.{slice_range}
use Rattle.std.proofs.lemmas.List.{take_all}
use Rattle.model.specs.Turns.{Side, left, right, Pattern, p_leaf, p_node, p_part}
use Rattle.model.specs.Rows.{side_word, pattern_row}
use Rattle.rows.proofs.Stood.{uncons}

-- what is known of the words at a place where a pattern begins
pub record Opening (s : List ℕ) (at : ℕ) : Type 0 where
  pub two : at + 1 < length s
  pub first : get_or s at 0 ≤ 2
  pub three : get_or s at 0 ≡ 2 → at + 2 < length s
  pub part : get_or s at 0 ≡ 2 → get_or s (at + 2) 0 ≤ 1

side_small : (d : Side) → side_word d ≤ 1
side_small left = omega arith
side_small right = omega arith

pub opening : (s : List ℕ) (at : ℕ) (p : Pattern) (rest : List ℕ) → drop at s ≡ pattern_row p ++ rest → Opening s at
opening s at (p_leaf a) rest e =
    let u = uncons s at (at + 1) 0 (a ∷ rest) refl e in
    let v = uncons s (at + 1) (at + 2) a rest (omega arith) u.rest in
    record { two = v.within; first = omega arith; three = λ h. absurd (omega arith); part = λ h. absurd (omega arith) }
opening s at (p_node a x y) rest e =
    let u = uncons s at (at + 1) 1 (a ∷ ((pattern_row x ++ pattern_row y) ++ rest)) refl e in
    let v = uncons s (at + 1) (at + 2) a ((pattern_row x ++ pattern_row y) ++ rest) (omega arith) u.rest in
    record { two = v.within; first = omega arith; three = λ h. absurd (omega arith); part = λ h. absurd (omega arith) }
opening s at (p_part q d) rest e =
    let u = uncons s at (at + 1) 2 (q ∷ side_word d ∷ rest) refl e in
    let v = uncons s (at + 1) (at + 2) q (side_word d ∷ rest) (omega arith) u.rest in
    let w = uncons s (at + 2) (at + 3) (side_word d) rest (omega arith) v.rest in
    record { two = v.within; first = omega arith; three = λ h. w.within; part = λ h. omega (arith, side_small d) }

-- the same of the words from the place on, cut off from those before
pub opening_rest : (s t : List ℕ) (at : ℕ) (p : Pattern) (rest : List ℕ) → t ≡ slice_range s at (length s) → drop at s ≡ pattern_row p ++ rest → Opening t 0
opening_rest s t at p rest same e = opening t 0 p rest (same ∙ take_all (length s - at) (drop at s) (omega (arith, length-drop at s)) ∙ e)
