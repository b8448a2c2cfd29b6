-- One leaf or node taken off the trees whose ranks stand on a stack: a link says what a tree begins with, and its parts have
-- lower ranks, so that a stack with as many places as there are ranks never overflows.
use Rattle.std.proofs.Common.{◌≡◌, ℕ, ◌+◌, ◌-◌, ◌<◌, ◌≤◌, List, [], ◌∷◌, ◌++◌, length, get_or, drop, set, sym, ap, ◌∙◌, subst, append_assoc, arith, length-drop}
use Rattle.std.proofs.Props.{props}
use Rattle.std.proofs.lemmas.List.{drop_more, drop-set, length-set}
use Rattle.model.specs.Trees.{Tree, leaf, node}
use Rattle.model.specs.Rows.{tree_row}
use Rattle.rows.specs.declared.trees.Item.TheVariants.{Leaf, Node}
use Rattle.automata.specs.Classes.{at, Rising}
use Rattle.automata.specs.Links.{Link, Linked}
use Rattle.automata.proofs.Places.{parts_before}
use Rattle.verdict.specs.Ranked.{rows_of, Low, Expanded}

-- a link with a left part is that of a node
pub node_linked : (S : List Tree) → Rising S → (r : ℕ) → r < length S → (k : Link) (x : Tree) → at S r ≡ x → Linked S k x → 0 < k.left
    → (at S r ≡ node k.mark (at S (k.left - 1)) (at S (k.right - 1))) × (k.left - 1 < r) × (k.right - 1 < r)
node_linked S rising r h k (leaf a) e l z = absurd (omega (arith, l.1))
node_linked S rising r h k (node a u v) e l z =
    let before = parts_before S rising r h a k.left k.right u v e l.1 l.2 in
    let p : k.left - 1 ≡ l.1.place = omega (arith, l.1.counted) in
    let q : k.right - 1 ≡ l.2.place = omega (arith, l.2.counted) in
    let m = l.0 in
    let left = l.1.stands in
    let right = l.2.stands in
    let is : at S r ≡ node k.mark (at S (k.left - 1)) (at S (k.right - 1)) = cc in
    (is, omega (arith, before.0), omega (arith, before.1, l.2.counted))

-- a link with a left part has a right part
pub right_linked : (S : List Tree) (k : Link) (x : Tree) → Linked S k x → 0 < k.left → 0 < k.right
right_linked S k (leaf a) l z = absurd (omega (arith, l.1))
right_linked S k (node a u v) l z = omega (arith, l.2.counted)

module _ (S : List Tree) (s : List ℕ) (top : ℕ) (h : top < length s) where
  abbrev rest : List ℕ
  rest = drop (top + 1) s

  first_rows : rows_of S (drop top s) ≡ tree_row (at S (get_or s top 0)) ++ rows_of S rest
  first_rows = ap (rows_of S) (drop_more s top 0 h)

  pub leaf_taken : (a : ℕ) → at S (get_or s top 0) ≡ leaf a → Expanded S (drop top s) rest (Leaf a)
  leaf_taken a e = record { words = first_rows ∙ ap (λ (t : Tree). tree_row t ++ rows_of S rest) e }

  abbrev pushed : ℕ → ℕ → List ℕ
  pushed p q = set (set s top q) (top - 1) p

  pub pushed_is : (p q : ℕ) → 0 < top → drop (top - 1) (pushed p q) ≡ p ∷ q ∷ rest
  pushed_is p q z =
      let e : top - 1 + 1 ≡ top = omega arith in
      drop-set (set s top q) (top - 1) p (omega (arith, length-set s top q))
      ∙ ap (λ (i : ℕ). p ∷ drop i (set s top q)) e ∙ ap (λ (r : List ℕ). p ∷ r) (drop-set s top q h)

  pub node_taken : (a p q : ℕ) → at S (get_or s top 0) ≡ node a (at S p) (at S q) → 0 < top → Expanded S (drop top s) (drop (top - 1) (pushed p q)) (Node a)
  node_taken a p q e z = record {
    words = first_rows ∙ ap (λ (t : Tree). tree_row t ++ rows_of S rest) e
        ∙ ap (λ (r : List ℕ). 1 ∷ a ∷ r) (append_assoc (tree_row (at S p)) (tree_row (at S q)) (rows_of S rest))
        ∙ ap (λ (r : List ℕ). 1 ∷ a ∷ rows_of S r) (sym (pushed_is p q z));
  }

module _ (n : ℕ) (s : List ℕ) (top : ℕ) (h : top < length s) (low : Low n (drop top s)) where
  first_low : (get_or s top 0 + length (drop (top + 1) s) < n) × Low n (drop (top + 1) s)
  first_low = subst (Low n) (drop_more s top 0 h) low

  pub top_positive : n ≤ length s → 0 < get_or s top 0 → 0 < top
  top_positive room z = omega (arith, first_low.0, length-drop (top + 1) s)

  pub node_low : (p q : ℕ) → p < get_or s top 0 → q < get_or s top 0 → 0 < top → Low n (drop (top - 1) (set (set s top q) (top - 1) p))
  node_low p q i k z = subst (Low n) (sym (pushed_is [] s top h p q z)) (omega (arith, first_low.0), (omega (arith, first_low.0), first_low.1))

pub Low-prop : (n : ℕ) (rs : List ℕ) → IsProp (Low n rs)
Low-prop n [] = hlevel props
Low-prop n (r ∷ rs) = hlevel (props, Low-prop n rs)
