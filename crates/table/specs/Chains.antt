-- Rows by their signature: a hash, and for each of its values a chain of rows.
use Rattle.std.specs.Prelude.{◌≡◌, ℕ, ◌+◌, ◌-◌, ◌*◌, ◌%◌, ◌<◌, ◌≤◌, List, [], ◌∷◌, length, ◌≢◌, slice_index, Option, MatchOption}
use Rattle.table.specs.declared.Table.{Table}
use Rattle.table.specs.Tables.{sig_at}

abbrev pub mixed : ℕ → List ℕ → ℕ
mixed h [] = h
mixed h (x ∷ xs) = mixed ((h * 16777619 + x) % 4294967296) xs

-- which of so many chains a signature belongs to
unfoldable pub bucket : ℕ → List ℕ → ℕ
bucket chains xs = mixed 0 xs % chains

-- Row k belongs to the chain f k. Words name rows counted from one, and zero ends a chain. A chain begins at its last row,
-- and goes on from each row to the last one before it.
pub record Chained (chains count : ℕ) (f : ℕ → ℕ) (heads nexts : List ℕ) : Type 0 where
  pub head_last : (k : ℕ) → k < count → k < slice_index heads (f k)
  pub head_within : (j : ℕ) → j < chains → slice_index heads j ≤ count
  pub head_belongs : (j : ℕ) → j < chains → 0 < slice_index heads j → f (slice_index heads j - 1) ≡ j
  pub next_last : (i k : ℕ) → i < k → k < count → f i ≡ f k → i < slice_index nexts k
  pub next_before : (k : ℕ) → k < count → slice_index nexts k ≤ k
  pub next_belongs : (k : ℕ) → k < count → 0 < slice_index nexts k → f (slice_index nexts k - 1) ≡ f k

-- the rows of the table are chained by their signatures
abbrev pub Chains : Table → Type 0
Chains t = Chained (length t.heads.now) t.count (λ k. bucket (length t.heads.now) (sig_at t k)) t.heads.now t.nexts.now

-- row k has this signature
pub record Has (t : Table) (key : List ℕ) (k : ℕ) : Type 0 where
  pub within : k < t.count
  pub signed : sig_at t k ≡ key

-- no row has this signature
abbrev pub Lacks : Table → List ℕ → Type 0
Lacks t key = (k : ℕ) → k < t.count → sig_at t k ≢ key

-- r is the row with this signature, or none where no row has it
abbrev pub Located : Table → List ℕ → Option ℕ → Type 0
Located t key r = MatchOption r (Lacks t key) (Has t key)
