-- What stands where in a list of words.
use Rattle.std.specs.Prelude.{◌≡◌, ℕ, ◌+◌, ◌≤◌, List, ◌++◌, length, take, drop, Some, None, Option, ◌≢◌}

-- the words xs stand in s, from the place `at` up to the place `end`
pub record Stands (s : List ℕ) (at end : ℕ) (xs : List ℕ) : Type 0 where
  pub words : drop at s ≡ xs ++ drop end s
  pub long : end ≡ at + length xs
  pub within : end ≤ length s

-- n words of s, from the place `at` on
abbrev pub slice : ℕ → ℕ → List ℕ → List ℕ
slice at n s = take n (drop at s)

-- nothing that is Ok has its row at the place `at`, whatever stands behind
abbrev pub Absent : {A : Type 0} → (A → List ℕ) → (A → Type 0) → List ℕ → ℕ → Type 0
Absent {A} row Ok s at = (x : A) (rest : List ℕ) → Ok x → drop at s ≢ row x ++ rest

-- where the row of something that is Ok ends, if one begins at the place `at`: what a reader answers
abbrev pub Ends : {A : Type 0} → (A → List ℕ) → (A → Type 0) → List ℕ → ℕ → Option ℕ → Type 0
Ends row Ok s at None = Absent row Ok s at
Ends {A} row Ok s at (Some end) = (x : A) × Ok x × Stands s at end (row x)
