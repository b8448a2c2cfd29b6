-- The row of a rank holds the settled tree of that rank. Ranks are no more than rows, by the pigeonhole principle, and so
-- the sizes of settled trees, and of a node over two of them, fit into the words that there are for a size.
use Rattle.std.proofs.Common.{◌≡◌, ℕ, zero, suc, ◌+◌, ◌*◌, ◌^◌, ◌<◌, ◌≤◌, List, length, refl, ap, ◌∙◌, arith, pow_mono}
use Rattle.std.proofs.lemmas.Nat.{mul-le}
use Rattle.numbers.specs.Value.{weight}
use Rattle.numbers.proofs.Words.{weight_is_power}
use Rattle.model.specs.Trees.{Tree, size, Marked}
use Rattle.automata.specs.Automata.{TreeAutomaton, sig, Reached}
use Rattle.automata.specs.Classes.{at}
use Rattle.automata.specs.Links.{Placed}
use Rattle.automata.proofs.Pigeonhole.{pigeonhole, one_left_over}
use Rattle.automata.proofs.Places.{settled_sizes}
use Rattle.table.specs.declared.Table.{Table}
use Rattle.table.specs.Tables.{sig_at, tree_at, rank_at, ranked_at}
use Rattle.reach.specs.Searching.{State}

-- a sum that fits leaves no carry
no_carry : (v r w s : ℕ) → v + r * w ≡ s → s < w → v ≡ s
no_carry v zero w s e h = omega arith
no_carry v (suc r) w s e h = absurd (omega (arith, mul-le 1 w (suc r) w (omega arith) (omega arith)))

-- the sum of two sizes and one, where it fits
pub node_size : (v r w a b x y : ℕ) → v + r * w ≡ a + b + 1 → a ≡ x → b ≡ y → x + y + 1 < w → v ≡ 1 + (x + y)
node_size v r w a b x y e f g h = omega (arith, no_carry v r w (a + b + 1) e (omega arith))

module _ (A : TreeAutomaton) (S : List Tree) (t : Table) (s : State A S t) where
  ranks_apart : (i k : ℕ) → i < k → k < length S → ranked_at t i ≡ ranked_at t k → ⊥
  ranks_apart i k u h e = omega (arith, (s.row_of i (omega arith)).known, (s.row_of k h).known, ap (rank_at t) e)

  pub few_settled : t.settled ≤ t.count
  few_settled =
      let le : length S ≤ length s.trees = pigeonhole (length s.trees) (length S) (ranked_at t) (λ r h. (s.row_of r h).within) ranks_apart in
      omega (arith, s.rows, s.ranks)

  -- an open row is one that no rank has
  pub open_unranked : (k : ℕ) → rank_at t k ≡ 0 → (r : ℕ) → r < length S → ranked_at t r ≡ k → ⊥
  open_unranked k z r h e = omega (arith, (s.row_of r h).known, ap (rank_at t) e, z)

  pub one_open : (k : ℕ) → k < t.count → rank_at t k ≡ 0 → t.settled < t.count
  one_open k h z =
      let lt : length S < length s.trees = one_left_over (length s.trees) (length S) (ranked_at t) k (λ r h. (s.row_of r h).within) ranks_apart (omega (arith, s.rows)) (open_unranked k z) in
      omega (arith, s.rows, s.ranks)

  module _ (r : ℕ) (h : r < t.settled) where
    rank_below : r < length S
    rank_below = omega (arith, s.ranks)

    pub rank_within : r < t.shape.most
    rank_within = omega (arith, few_settled, t.few_rows)

    pub row_within : ranked_at t r < t.shape.most
    row_within = omega (arith, (s.row_of r rank_below).within, s.rows, t.few_rows)

    row_sig : sig_at t (ranked_at t r) ≡ sig A (at S r)
    row_sig = s.signed (ranked_at t r) (s.row_of r rank_below).within ∙ ap (sig A) (s.row_of r rank_below).stands

    -- what is read from the row is that of the tree
    pub read_sig : (xs : List ℕ) (k : ℕ) → k ≡ ranked_at t r → xs ≡ sig_at t k → xs ≡ sig A (at S r)
    read_sig xs k e f = f ∙ (ap (sig_at t) e ∙ row_sig)

    pub read_size : (n k : ℕ) → k ≡ ranked_at t r → n ≡ (tree_at t k).size → n ≡ size (at S r)
    read_size n k e f =
        f ∙ (ap (λ (j : ℕ). (tree_at t j).size) e
        ∙ (s.sized (ranked_at t r) (s.row_of r rank_below).within ∙ ap size (s.row_of r rank_below).stands))

    pub placed : Placed S (r + 1) (at S r)
    placed = record { place = r; counted = refl; within = rank_below; stands = refl }

    pub rank_marked : Marked A.marks (at S r)
    rank_marked = s.settled_trees.marks r rank_below

    pub row_reached : (xs : List ℕ) (k : ℕ) → k ≡ ranked_at t r → xs ≡ sig_at t k → Reached A xs
    row_reached xs k e f = record {
      tree = at S r;
      marked = rank_marked;
      signed = read_sig xs k e f;
    }

    size_below : size (at S r) < 2 ^ t.shape.most
    size_below =
        let le : suc r ≤ t.shape.most = rank_within in
        let p : 2 ^ suc r ≤ 2 ^ t.shape.most = pow_mono le in
        omega (arith, settled_sizes A S s.settled_trees r rank_below)

  pub node_size_fits : (p q : ℕ) → p < t.settled → q < t.settled → size (at S p) + size (at S q) + 1 < weight t.shape.words
  node_size_fits p q hp hq =
      let le : suc t.shape.most ≤ 32 * t.shape.words = omega (arith, t.size_bits) in
      let w : 2 ^ suc t.shape.most ≤ 2 ^ (32 * t.shape.words) = pow_mono le in
      omega (arith, size_below p hp, size_below q hq, w, weight_is_power t.shape.words)
