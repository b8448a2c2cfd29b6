-- Numbers of 64 bits, each kept in two words.
use Rattle.std.specs.Prelude.{◌≡◌, ℕ, ◌+◌, ◌*◌, ◌^◌, List, ◌≢◌, slice_index}

-- the i-th number: its low word, then its high word
abbrev pub number : List ℕ → ℕ → ℕ
number xs i = slice_index xs (2 * i) + slice_index xs (2 * i + 1) * 2 ^ 32

-- the i-th number is now v, and the others are as they were
pub record Noted (old new : List ℕ) (i v : ℕ) : Type 0 where
  pub here : number new i ≡ v
  pub others : (k : ℕ) → (k ≢ i) → number new k ≡ number old k
