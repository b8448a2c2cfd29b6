-- What is promised of the definitions: the order of trees is total, and rows say one thing only.
use Rattle.std.specs.Prelude.{◌≡◌, ℕ, ◌*◌, ◌⊎◌, List, ◌++◌, length}
use Rattle.model.specs.Trees.{Tree, node, size, Less}
use Rattle.model.specs.Jobs.{Job, WellFormedJob}
use Rattle.model.specs.Rows.{tree_row, job_row, Rows}

pub record StrictTotalOrder {A : Type 0} (R : A → A → Type 0) : Type 0 where
  pub irreflexive : (x : A) → R x x → ⊥
  pub transitive : (x y z : A) → R x y → R y z → R x z
  pub total : (x y : A) → R x y ⊎ ((x ≡ y) ⊎ R y x)

pub record TreeOrder : Type 0 where
  pub order : StrictTotalOrder Less
  pub left_part : (a : ℕ) (l r : Tree) → Less l (node a l r)
  pub right_part : (a : ℕ) (l r : Tree) → Less r (node a l r)

-- rows are the writing of at most one thing, with a rest behind too: no row is the beginning of another
abbrev pub PrefixFree : {A : Type 0} → (A → List ℕ) → (A → Type 0) → Type 0
PrefixFree {A} row Ok = (x y : A) (us vs : List ℕ) → Ok x → Ok y → row x ++ us ≡ row y ++ vs → (x ≡ y) × (us ≡ vs)

pub record RowLaws : Type 0 where
  pub trees_apart : PrefixFree tree_row (λ _. Unit {0})
  pub one_tree : (x y : Tree) → tree_row x ≡ tree_row y → x ≡ y
  pub tree_words : (x : Tree) → length (tree_row x) ≡ 2 * size x
  pub jobs_apart : PrefixFree job_row WellFormedJob
  pub one_job : (s : List ℕ) (j k : Job) → Rows s j → Rows s k → j ≡ k
