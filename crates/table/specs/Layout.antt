-- How many words a table takes.
use Rattle.std.specs.Prelude.{ℕ, ◌+◌, ◌*◌, ◌/◌}

-- words for a size: one bit more than there are rows, since a tree of rank i has less than 2 ^ (i + 1) leaves and nodes
abbrev pub size_words : ℕ → ℕ
size_words most = most / 32 + 1

-- words for one row: signature, size, link, chain, next, rank and row of that rank
abbrev pub row_words : ℕ → ℕ → ℕ
row_words width most = width + size_words most + 7

-- a table with room for one signature and one size, and one chain more than there are rows
abbrev pub words_for : ℕ → ℕ → ℕ
words_for width most = most * row_words width most + width + size_words most + 1
