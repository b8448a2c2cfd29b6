-- The order of trees is strict and total, by way of the same order as a recursion on both trees (Before): it is a
-- lexicographic comparison of size, mark, left part and right part.
use Rattle.std.proofs.Common.{◌≡◌, ℕ, ◌+◌, ◌<◌, ◌≤◌, ◌⊎◌, sym, refl, ap, ◌∙◌, subst, inl, inr, arith}
use native.Mathlib.Decide.{dec_lt}
use Rattle.model.specs.Trees.{Tree, leaf, node, size, mark, Less, Lex, by_size, by_mark, by_left, by_right}
use Rattle.model.specs.Laws.{StrictTotalOrder, TreeOrder}

pub size_positive : (x : Tree) → 0 < size x
size_positive (leaf a) = omega arith
size_positive (node a l r) = omega arith

abbrev Before : Tree → Tree → Type 0
Before (leaf a) (leaf b) = a < b
Before (leaf a) (node b k s) = Unit
Before (node a l r) (leaf b) = ⊥
Before (node a l r) (node b k s) =
    Lex (size l + size r < size k + size s) (size l + size r ≡ size k + size s) (Lex (a < b) (a ≡ b) (Lex (Before l k) (l ≡ k) (Before r s)))

before_by_size : (x y : Tree) → size x < size y → Before x y
before_by_size (leaf a) (leaf b) h = omega arith
before_by_size (leaf a) (node b k s) h = tt
before_by_size (node a l r) (leaf b) h = omega (arith, size_positive l)
before_by_size (node a l r) (node b k s) h = inl (omega arith)

before_by_mark : (x y : Tree) → size x ≡ size y → mark x < mark y → Before x y
before_by_mark (leaf a) (leaf b) e h = h
before_by_mark (leaf a) (node b k s) e h = tt
before_by_mark (node a l r) (leaf b) e h = omega (arith, size_positive l)
before_by_mark (node a l r) (node b k s) e h = inr (omega arith, inl h)

to_before : {x y : Tree} → Less x y → Before x y
to_before (by_size {x} {y} h) = before_by_size x y h
to_before (by_mark {x} {y} e h) = before_by_mark x y e h
to_before (by_left e h) = inr (omega arith, inr (refl, inl (to_before h)))
to_before (by_right e h) = inr (omega arith, inr (refl, inr (refl, to_before h)))

from_before : (x y : Tree) → Before x y → Less x y
from_before (leaf a) (leaf b) h = by_mark refl h
from_before (leaf a) (node b k s) h = by_size (omega (arith, size_positive k))
from_before (node a l r) (leaf b) h = absurd h
from_before (node a l r) (node b k s) h =
    elim h [
      | inl u ↦ by_size (omega arith)
      | inr p ↦ elim p.1 [
        | inl u ↦ by_mark (omega (arith, p.0)) u
        | inr q ↦ subst (λ (c : ℕ). Less (node a l r) (node c k s)) q.0
            (elim q.1 [
              | inl u ↦ by_left (omega (arith, p.0)) (from_before l k u)
              | inr w ↦ subst (λ (t : Tree). Less (node a l r) (node a t s)) w.0
                  (by_right (omega (arith, p.0, ap size w.0)) (from_before r s w.1))
            ])
      ]
    ]

before_size : (x y : Tree) → Before x y → size x ≤ size y
before_size (leaf a) (leaf b) h = omega arith
before_size (leaf a) (node b k s) h = omega arith
before_size (node a l r) (leaf b) h = absurd h
before_size (node a l r) (node b k s) h = elim h [ inl u ↦ omega arith | inr p ↦ omega arith ]

before_irreflexive : (x : Tree) → Before x x → ⊥
before_irreflexive (leaf a) h = omega arith
before_irreflexive (node a l r) h =
    elim h [
      | inl u ↦ omega arith
      | inr p ↦ elim p.1 [
        | inl u ↦ omega arith
        | inr q ↦ elim q.1 [ inl u ↦ before_irreflexive l u | inr w ↦ before_irreflexive r w.1 ]
      ]
    ]

number_total : (a b : ℕ) → (a < b) ⊎ ((a ≡ b) ⊎ (b < a))
number_total a b = elim (dec_lt a b) [ yes h ↦ inl h | no h ↦ elim (dec_lt b a) [ yes k ↦ inr (inr k) | no k ↦ inr (inl (omega arith)) ] ]

-- the first comparison that does not come out equal decides
lex_total : {P E Q P' E' Q' G : Type 0} → P ⊎ (E ⊎ P') → (E → E') → (E → Q ⊎ (G ⊎ Q')) → Lex P E Q ⊎ (G ⊎ Lex P' E' Q')
lex_total (inl p) back next = inl (inl p)
lex_total (inr (inl e)) back next =
    elim (next e) [ inl q ↦ inl (inr (e, q)) | inr w ↦ elim w [ inl g ↦ inr (inl g) | inr q ↦ inr (inr (inr (back e, q))) ] ]
lex_total (inr (inr p)) back next = inr (inr (inl p))

equal_then : {P E P' G : Type 0} → (E → G) → P ⊎ (E ⊎ P') → P ⊎ (G ⊎ P')
equal_then f (inl p) = inl p
equal_then f (inr (inl e)) = inr (inl (f e))
equal_then f (inr (inr p)) = inr (inr p)

node_equal : {a b : ℕ} {l r k s : Tree} → a ≡ b → l ≡ k → r ≡ s → node a l r ≡ node b k s
node_equal e f g = cc

before_total : (x y : Tree) → Before x y ⊎ ((x ≡ y) ⊎ Before y x)
before_total (leaf a) (leaf b) = equal_then (ap leaf) (number_total a b)
before_total (leaf a) (node b k s) = inl tt
before_total (node a l r) (leaf b) = inr (inr tt)
before_total (node a l r) (node b k s) =
    lex_total (number_total (size l + size r) (size k + size s)) sym
    (λ _. lex_total (number_total a b) sym (λ e. lex_total (before_total l k) sym (λ f. equal_then (node_equal e f) (before_total r s))))

lex_transitive : {P E Q P' E' Q' P'' E'' Q'' : Type 0}
    → (P → P' → P'') → (P → E' → P'') → (E → P' → P'') → (E → E' → E'') → (Q → Q' → Q'') → Lex P E Q → Lex P' E' Q' → Lex P'' E'' Q''
lex_transitive f g h e q (inl u) (inl v) = inl (f u v)
lex_transitive f g h e q (inl u) (inr v) = inl (g u v.0)
lex_transitive f g h e q (inr u) (inl v) = inl (h u.0 v)
lex_transitive f g h e q (inr u) (inr v) = inr (e u.0 v.0, q u.1 v.1)

before_transitive : (x y z : Tree) → Before x y → Before y z → Before x z
before_transitive (leaf a) (leaf b) (leaf c) h k = omega arith
before_transitive (leaf a) (leaf b) (node c u v) h k = tt
before_transitive (leaf a) (node b l r) (leaf c) h k = absurd k
before_transitive (leaf a) (node b l r) (node c u v) h k = tt
before_transitive (node a l r) (leaf b) z h k = absurd h
before_transitive (node a l r) (node b l' r') (leaf c) h k = absurd k
before_transitive (node a l r) (node b l' r') (node c l'' r'') h k =
    lex_transitive (omega arith) (omega arith) (omega arith) (λ p q. p ∙ q)
    (lex_transitive (omega arith) (omega arith) (omega arith) (λ p q. p ∙ q)
    (lex_transitive (before_transitive l l' l'') (λ u e. subst (Before l) e u) (λ e u. subst (λ (t : Tree). Before t l'') (sym e) u) (λ p q. p ∙ q)
    (before_transitive r r' r''))) h k

less_order : StrictTotalOrder Less
less_order = record {
  irreflexive = λ x h. before_irreflexive x (to_before h);
  transitive = λ x y z h k. from_before x z (before_transitive x y z (to_before h) (to_before k));
  total = λ x y. elim (before_total x y) [
    | inl u ↦ inl (from_before x y u)
    | inr w ↦ elim w [ inl e ↦ inr (inl e) | inr u ↦ inr (inr (from_before y x u)) ]
  ];
}

pub tree_order : TreeOrder
tree_order = record {
  order = less_order;
  left_part = λ a l r. by_size (omega arith);
  right_part = λ a l r. by_size (omega arith);
}

-- what is less is not larger
pub less_size : (x y : Tree) → Less x y → size x ≤ size y
less_size x y h = before_size x y (to_before h)
