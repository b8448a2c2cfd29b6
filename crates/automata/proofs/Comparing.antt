-- The order of trees with equality (Le): how it composes, and that a node goes down with its parts. All of it comes from
-- the strict order being total and from what is less being no larger.
use Rattle.std.proofs.Common.{◌≡◌, ℕ, ◌<◌, ◌≤◌, ◌⊎◌, refl, ap, inl, inr, arith}
use native.Mathlib.Decide.{dec_lt}
use Rattle.model.specs.Trees.{Tree, leaf, node, size, Less, by_size, by_mark, by_left, by_right}
use Rattle.model.proofs.Order.{tree_order, less_size}
use Rattle.automata.specs.Classes.{Le}

pub irreflexive : (x : Tree) → Less x x → ⊥
irreflexive x h = tree_order.order.irreflexive x h

pub transitive : (x y z : Tree) → Less x y → Less y z → Less x z
transitive x y z h k = tree_order.order.transitive x y z h k

pub asymmetric : (x y : Tree) → Less x y → Less y x → ⊥
asymmetric x y h k = irreflexive x (transitive x y x h k)

pub le_less : (x y z : Tree) → Le x y → Less y z → Less x z
le_less x y z (inl u) v = transitive x y z u v
le_less x y z (inr e) v = rw e v

pub le_le : (x y z : Tree) → Le x y → Le y z → Le x z
le_le x y z u (inl v) = inl (le_less x y z u v)
le_le x y z u (inr e) = rw e at u

pub le_not_less : (x y : Tree) → Le x y → Less y x → ⊥
le_not_less x y u v = irreflexive x (le_less x y x u v)

pub not_less : (x y : Tree) → (Less y x → ⊥) → Le x y
not_less x y n = elim (tree_order.order.total x y) [ inl u ↦ inl u | inr w ↦ elim w [ inl e ↦ inr e | inr u ↦ absurd (n u) ] ]

sizes_of_less : (x y : Tree) → Less x y → (size x < size y) ⊎ (size x ≡ size y)
sizes_of_less x y h =
    let le : size x ≤ size y = less_size x y h in
    elim (dec_lt (size x) (size y)) [ yes u ↦ inl u | no n ↦ inr (omega arith) ]

pub left_less : (a : ℕ) (l k r : Tree) → Less k l → Less (node a k r) (node a l r)
left_less a l k r h = elim (sizes_of_less k l h) [ inl u ↦ by_size (omega arith) | inr e ↦ by_left (omega arith) h ]

pub right_less : (a : ℕ) (l r s : Tree) → Less s r → Less (node a l s) (node a l r)
right_less a l r s h = elim (sizes_of_less s r h) [ inl u ↦ by_size (omega arith) | inr e ↦ by_right (omega arith) h ]

pub node_le : (a : ℕ) (l k r s : Tree) → Le l k → Le r s → Le (node a l r) (node a k s)
node_le a l k r s u v =
    le_le (node a l r) (node a k r) (node a k s)
    (elim u [ inl h ↦ inl (left_less a k l r h) | inr e ↦ inr (ap (λ (t : Tree). node a t r) e) ])
    (elim v [ inl h ↦ inl (right_less a k s r h) | inr e ↦ inr (ap (λ (t : Tree). node a k t) e) ])

-- a lower mark, or the same

pub leaf_mark_le : (a b : ℕ) → a ≤ b → Le (leaf a) (leaf b)
leaf_mark_le a b h = elim (dec_lt a b) [ yes u ↦ inl (by_mark refl u) | no n ↦ let e : a ≡ b = omega arith in inr (ap leaf e) ]

pub node_mark_le : (a b : ℕ) (l r : Tree) → a ≤ b → Le (node a l r) (node b l r)
node_mark_le a b l r h =
    elim (dec_lt a b) [ yes u ↦ inl (by_mark refl u) | no n ↦ let e : a ≡ b = omega arith in inr (ap (λ (c : ℕ). node c l r) e) ]
