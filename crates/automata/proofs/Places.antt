-- Trees over a rising list are compared by size, mark and the places of their parts: each comparison of numbers is the
-- comparison of what they stand for. And a least tree's parts are settled before it, so that sizes at most double.
use Rattle.std.proofs.Common.{◌≡◌, ℕ, zero, suc, ◌^◌, ◌<◌, ◌≤◌, ◌⊎◌, ◌↔◌, List, length, sym, refl, ap, ◌∙◌, subst, inl, inr, arith, pow_pos, pow_mono}
use Rattle.std.proofs.lemmas.Bool.{cases_order}
use Rattle.model.specs.Trees.{Tree, leaf, node, size, mark, Marked, Less, Lex, by_size, by_mark, by_left, by_right}
use Rattle.model.proofs.Order.{size_positive}
use Rattle.automata.specs.Automata.{TreeAutomaton}
use Rattle.automata.specs.Classes.{at, Has, Least, Rising, Classes}
use Rattle.automata.specs.Frontier.{Settled}
use Rattle.automata.specs.Links.{Link, Placed, Linked, Precedes, Ties}
use Rattle.automata.proofs.Comparing.{irreflexive, asymmetric, left_less, right_less}
use Rattle.automata.proofs.Growing.{alike_nodes, has_or_not, settled_le}

pub linked_mark : (S : List Tree) (k : Link) (x : Tree) → Linked S k x → k.mark ≡ mark x
linked_mark S k (leaf a) e = e.0
linked_mark S k (node a l r) e = e.0

precedes_total : (k h : Link) → Precedes k h ⊎ (Ties k h ⊎ Precedes h k)
precedes_total k h =
    elim (cases_order k.size h.size) [
      | inr (inl u) ↦ inl (inl u)
      | inr (inr u) ↦ inr (inr (inl u))
      | inl e ↦ elim (cases_order k.mark h.mark) [
        | inr (inl u) ↦ inl (inr (e, inl u))
        | inr (inr u) ↦ inr (inr (inr (sym e, inl u)))
        | inl f ↦ elim (cases_order k.left h.left) [
          | inr (inl u) ↦ inl (inr (e, inr (f, inl u)))
          | inr (inr u) ↦ inr (inr (inr (sym e, inr (sym f, inl u))))
          | inl g ↦ elim (cases_order k.right h.right) [
            | inr (inl u) ↦ inl (inr (e, inr (f, inr (g, u))))
            | inr (inr u) ↦ inr (inr (inr (sym e, inr (sym f, inr (sym g, u)))))
            | inl q ↦ inr (inl (record { size = e; mark = f; left = g; right = q }))
          ]
        ]
      ]
    ]

module _ (S : List Tree) (rising : Rising S) where
  placed_less : (p q : ℕ) (x y : Tree) → Placed S p x → Placed S q y → p < q → Less x y
  placed_less p q x y a b u =
      subst (λ (t : Tree). Less t y) a.stands (subst (Less (at S a.place)) b.stands
      (rising a.place b.place (omega (arith, a.counted, b.counted)) b.within))

  placed_same : (p q : ℕ) (x y : Tree) → Placed S p x → Placed S q y → p ≡ q → x ≡ y
  placed_same p q x y a b e =
      let f : a.place ≡ b.place = omega (arith, a.counted, b.counted) in sym a.stands ∙ (ap (at S) f ∙ b.stands)

  -- nodes of one size and mark
  nodes_less : (k h : Link) (a b : ℕ) (l r l' r' : Tree) → Linked S k (node a l r) → Linked S h (node b l' r')
      → size (node a l r) ≡ size (node b l' r') → a ≡ b → Lex (k.left < h.left) (k.left ≡ h.left) (k.right < h.right) → Less (node a l r) (node b l' r')
  nodes_less k h a b l r l' r' c d e m (inl u) =
      subst (λ (n : ℕ). Less (node a l r) (node n l' r')) m (by_left e (placed_less _ _ l l' c.1 d.1 u))
  nodes_less k h a b l r l' r' c d e m (inr u) =
      let same : l ≡ l' = placed_same _ _ l l' c.1 d.1 u.0 in
      let less : Less r r' = placed_less _ _ r r' c.2 d.2 u.1 in
      let sizes : size (node a l r) ≡ size (node a l r') = omega (arith, ap size same, e) in
      subst (λ (n : ℕ). Less (node a l r) (node n l' r')) m (subst (λ (t : Tree). Less (node a l r) (node a t r')) same (by_right sizes less))

  module _ (k h : Link) where
    pub precedes_less : (x y : Tree) → k.size ≡ size x → h.size ≡ size y → Linked S k x → Linked S h y → Precedes k h → Less x y
    precedes_less x y e f c d (inl u) = by_size (omega (arith, e, f))
    precedes_less x y e f c d (inr (s, inl m)) = by_mark (omega (arith, e, f)) (omega (arith, linked_mark S k x c, linked_mark S h y d))
    precedes_less (leaf a) (leaf b) e f c d (inr (s, inr (m, inl u))) = absurd (omega (arith, c, d))
    precedes_less (leaf a) (leaf b) e f c d (inr (s, inr (m, inr u))) = absurd (omega (arith, c, d, u.1))
    precedes_less (leaf a) (node b l r) e f c d (inr (s, inr u)) = absurd (omega (arith, e, f, size_positive l))
    precedes_less (node a l r) (leaf b) e f c d (inr (s, inr u)) = absurd (omega (arith, e, f, size_positive l))
    precedes_less (node a l r) (node b l' r') e f c d (inr (s, inr (m, u))) =
        nodes_less k h a b l r l' r' c d (sym e ∙ (s ∙ f)) (sym c.0 ∙ (m ∙ d.0)) u

    pub ties_same : (x y : Tree) → Linked S k x → Linked S h y → Ties k h → x ≡ y
    ties_same (leaf a) (leaf b) c d t = ap leaf (sym c.0 ∙ (t.mark ∙ d.0))
    ties_same (leaf a) (node b l r) c d t = absurd (omega (arith, c.1, t.left, d.1.counted))
    ties_same (node a l r) (leaf b) c d t = absurd (omega (arith, d.1, t.left, c.1.counted))
    ties_same (node a l r) (node b l' r') c d t =
        let m : a ≡ b = sym c.0 ∙ (t.mark ∙ d.0) in
        let p : l ≡ l' = placed_same _ _ l l' c.1 d.1 t.left in
        let q : r ≡ r' = placed_same _ _ r r' c.2 d.2 t.right in
        cc

  pub by_places : (k h : Link) (x y : Tree) → k.size ≡ size x → h.size ≡ size y → Linked S k x → Linked S h y
      → (Precedes k h ↔ Less x y) × (Ties k h ↔ (x ≡ y))
  by_places k h x y e f c d = ((ahead, λ u. less_ahead u), (ties_same k h x y c d, λ q. same_ties q))
    where
      ahead : Precedes k h → Less x y
      ahead u = precedes_less k h x y e f c d u

      behind : Precedes h k → Less y x
      behind u = precedes_less h k y x f e d c u

      less_ahead : Less x y → Precedes k h
      less_ahead u =
          elim (precedes_total k h) [
            | inl v ↦ v
            | inr w ↦ elim w [
              | inl t ↦ absurd (irreflexive y (subst (λ (z : Tree). Less z y) (ties_same k h x y c d t) u))
              | inr v ↦ absurd (asymmetric x y u (behind v))
            ]
          ]

      same_ties : x ≡ y → Ties k h
      same_ties q =
          elim (precedes_total k h) [
            | inl v ↦ absurd (irreflexive y (subst (λ (z : Tree). Less z y) q (ahead v)))
            | inr w ↦ elim w [ inl t ↦ t | inr v ↦ absurd (irreflexive y (subst (Less y) q (behind v))) ]
          ]

-- what is less than a tree of the list stands before it; places count from 1
placed_before : (S : List Tree) → Rising S → (i p : ℕ) (x : Tree) → i < length S → Placed S p x → Less x (at S i) → p ≤ i
placed_before S rising i p x h a u =
    elim (cases_order i a.place) [
      | inl e ↦ absurd (irreflexive x (subst (Less x) (ap (at S) e ∙ a.stands) u))
      | inr (inl v) ↦ absurd (asymmetric x (at S i) u (subst (Less (at S i)) a.stands (rising i a.place v a.within)))
      | inr (inr v) ↦ omega (arith, a.counted)
    ]

pub parts_before : (S : List Tree) → Rising S → (i : ℕ) → i < length S → (a p q : ℕ) (l r : Tree)
    → at S i ≡ node a l r → Placed S p l → Placed S q r → (p ≤ i) × (q ≤ i)
parts_before S rising i h a p q l r e u v = (
  placed_before S rising i p l h u (subst (Less l) (sym e) (by_size (omega arith))),
  placed_before S rising i q r h v (subst (Less r) (sym e) (by_size (omega arith))),
)

-- Parts of least trees.

pub parts_least : (A : TreeAutomaton) (a : ℕ) (l r : Tree) → Marked A.marks (node a l r) → Least A (node a l r) → Least A l × Least A r
parts_least A a l r k h = (
  λ y ky u e. h (node a y r) (k.0, ky, k.2) (left_less a l y r u) (alike_nodes A a y l r r e refl),
  λ y ky u e. h (node a l y) (k.0, k.1, ky) (right_less a l r y u) (alike_nodes A a l l y r refl e),
)

record Earlier (S : List Tree) (i : ℕ) (t : Tree) : Type 0 where
  place : ℕ
  before : place < i
  stands : at S place ≡ t

module _ (A : TreeAutomaton) (S : List Tree) (s : Settled A S) where
  -- a least tree that is less than a settled one is settled before it
  settled_earlier : (i : ℕ) (t : Tree) → i < length S → Marked A.marks t → Least A t → Less t (at S i) → Earlier S i t
  settled_earlier i t h k least less =
      elim (has_or_not A S t) [
        | no n ↦ absurd (asymmetric t (at S i) less (s.first i t h k n))
        | yes g ↦ record { place = g.place; before = before g; stands = same g }
      ]
    where
      same : (g : Has A S t) → at S g.place ≡ t
      same g =
          elim (settled_le A S s g.place t g.within k g.alike) [
            | inl u ↦ absurd (least (at S g.place) (s.marks g.place g.within) u g.alike)
            | inr e ↦ e
          ]

      before : (g : Has A S t) → g.place < i
      before g =
          elim (cases_order g.place i) [
            | inl e ↦ absurd (irreflexive t (subst (Less t) (ap (at S) (sym e) ∙ same g) less))
            | inr (inl u) ↦ u
            | inr (inr u) ↦ absurd (asymmetric t (at S i) less (subst (Less (at S i)) (same g) (s.order i g.place u g.within)))
          ]

  sizes_among : (n i : ℕ) (x : Tree) → i < n → i < length S → at S i ≡ x → size x < 2 ^ suc i
  sizes_among zero i x u h e = absurd (omega arith)
  sizes_among (suc n) i (leaf a) u h e = omega (arith, pow_pos i)
  sizes_among (suc n) i (node a l r) u h e =
      let k : Marked A.marks (node a l r) = subst (Marked A.marks) e (s.marks i h) in
      let least = parts_least A a l r k (subst (Least A) e (s.least i h)) in
      let p = settled_earlier i l h k.1 least.0 (subst (Less l) (sym e) (by_size (omega arith))) in
      let q = settled_earlier i r h k.2 least.1 (subst (Less r) (sym e) (by_size (omega arith))) in
      let sl : size l < 2 ^ suc p.place = sizes_among n p.place l (omega (arith, p.before)) (omega (arith, p.before)) p.stands in
      let sr : size r < 2 ^ suc q.place = sizes_among n q.place r (omega (arith, q.before)) (omega (arith, q.before)) q.stands in
      let ml : suc p.place ≤ i = p.before in
      let mr : suc q.place ≤ i = q.before in
      omega (arith, pow_mono ml, pow_mono mr)

  pub settled_sizes : (i : ℕ) → i < length S → size (at S i) < 2 ^ suc i
  settled_sizes i h = sizes_among (suc i) i (at S i) (omega arith) h refl

-- a whole list of classes is settled
pub classes_settled : (A : TreeAutomaton) (S : List Tree) → Classes A S → Settled A S
classes_settled A S c = record {
  marks = c.one_of_each.marks;
  least = c.least;
  order = c.order;
  first = λ i y h k n. absurd (n (c.one_of_each.all y k));
}
