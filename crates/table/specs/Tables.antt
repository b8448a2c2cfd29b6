-- A table by its rows: what each holds, and how a step changes it.
use Rattle.std.specs.Prelude.{◌≡◌, ℕ, ◌+◌, ◌*◌, ◌^◌, ◌<◌, ◌≤◌, ◌⊎◌, List, length, ◌≢◌, slice_index, slice_set}
use Rattle.automata.specs.Links.{Link, Precedes, Ties}
use Rattle.table.specs.declared.Table.{Table}
use Rattle.table.specs.Rows.{row, link_of}

-- the signature of row k
abbrev pub sig_at : Table → ℕ → List ℕ
sig_at t k = row t.shape.width k t.sigs.now

-- the tree of row k
abbrev pub tree_at : Table → ℕ → Link
tree_at t k = link_of (row t.shape.words k t.sizes.now) (row 3 k t.links.now)

-- the rank of row k, counted from one; 0 while the row is open
abbrev pub rank_at : Table → ℕ → ℕ
rank_at t k = slice_index t.ranks.now k

-- the row of rank r
abbrev pub ranked_at : Table → ℕ → ℕ
ranked_at t r = slice_index t.order.now r

-- the regions are long enough, and so are the sizes of trees
pub record Room (t : Table) : Type 0 where
  pub for_sigs : t.shape.most * t.shape.width ≤ length t.sigs.now
  pub for_sizes : t.shape.most * t.shape.words ≤ length t.sizes.now
  pub for_links : t.shape.most * 3 ≤ length t.links.now
  pub for_heads : 0 < length t.heads.now
  pub for_nexts : t.shape.most ≤ length t.nexts.now
  pub for_order : t.shape.most ≤ length t.order.now
  pub for_ranks : t.shape.most ≤ length t.ranks.now
  pub size_bits : t.shape.most + 1 ≤ 32 * t.shape.words
  pub row_bits : t.shape.most < 2 ^ 32
  pub few_rows : t.count ≤ t.shape.most

-- so it is of every table
pub room_of : (t : Table) → Room t
room_of t = record {
  for_sigs = t.for_sigs;
  for_sizes = t.for_sizes;
  for_links = t.for_links;
  for_heads = t.for_heads;
  for_nexts = t.for_nexts;
  for_order = t.for_order;
  for_ranks = t.for_ranks;
  size_bits = t.size_bits;
  row_bits = t.row_bits;
  few_rows = t.few_rows;
}

-- row k was given this signature and tree; the other rows, and what is settled, are as before
pub record Put (k : ℕ) (key : List ℕ) (tree : Link) (old new : Table) : Type 0 where
  pub here_sig : sig_at new k ≡ key
  pub here_tree : tree_at new k ≡ tree
  pub other_sigs : (j : ℕ) → (j ≢ k) → sig_at new j ≡ sig_at old j
  pub other_trees : (j : ℕ) → (j ≢ k) → tree_at new j ≡ tree_at old j
  pub same_shape : new.shape ≡ old.shape
  pub same_settled : new.settled ≡ old.settled
  pub same_order : new.order.now ≡ old.order.now
  pub same_ranks : new.ranks.now ≡ old.ranks.now

-- row k was given the next rank; signatures and trees are as before
pub record Settles (k : ℕ) (old new : Table) : Type 0 where
  pub order_is : new.order.now ≡ slice_set old.order.now old.settled k
  pub ranks_are : new.ranks.now ≡ slice_set old.ranks.now k (old.settled + 1)
  pub settled_is : new.settled ≡ old.settled + 1
  pub same_count : new.count ≡ old.count
  pub same_shape : new.shape ≡ old.shape
  pub same_sigs : (j : ℕ) → sig_at new j ≡ sig_at old j
  pub same_trees : (j : ℕ) → tree_at new j ≡ tree_at old j

-- no row is in use
pub record Empty (t : Table) : Type 0 where
  pub no_row : t.count ≡ 0
  pub none_settled : t.settled ≡ 0
  pub no_rank : (k : ℕ) → rank_at t k ≡ 0

abbrev pub NotAfter : Link → Link → Type 0
NotAfter k h = Precedes k h ⊎ Ties k h

-- of the first n rows, b is open, and no open one has a tree before b's
pub record LeastOpen (t : Table) (n b : ℕ) : Type 0 where
  pub within : b < n
  pub unranked : rank_at t b ≡ 0
  pub low : (j : ℕ) → j < n → rank_at t j ≡ 0 → NotAfter (tree_at t b) (tree_at t j)
