-- Cases that are counted by a row and a column.
use Rattle.std.specs.Prelude.{ℕ, ◌+◌, ◌-◌, ◌*◌, ◌^◌, min, List, map}
use Rattle.std.specs.List.{flat_map}

-- the number of a case in a row and a column, of which there are w, from f on; past what a word holds, the largest word
abbrev pub case_at : ℕ → ℕ → ℕ → ℕ → ℕ
case_at f w row column = min (min (min (row * w) (2 ^ 64 - 1) + f) (2 ^ 64 - 1) + column) (2 ^ 64 - 1)

-- the cases of the rows and columns, row by row
abbrev pub all_cases : ℕ → ℕ → List ℕ → List ℕ → List ℕ
all_cases f w rows columns = flat_map (λ row. map (λ column. case_at f w row column) columns) rows
