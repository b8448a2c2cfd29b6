-- The number that words write, the least significant word first.
use Rattle.std.specs.Prelude.{ℕ, ◌+◌, ◌*◌, ◌^◌, List, [], ◌∷◌}

abbrev pub value : List ℕ → ℕ
value [] = 0
value (x ∷ xs) = x + 2 ^ 32 * value xs

-- what a one counts for in the word at place i
abbrev pub weight : ℕ → ℕ
weight i = (2 ^ 32) ^ i
