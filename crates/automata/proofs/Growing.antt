-- The search in the order of trees, over lists. The key is `open_below`: a tree whose class is not settled is not less
-- than some tree at hand of such a class. So the least of these may be settled, and where there is none, all classes are.
use Rattle.std.proofs.Common.{◌≡◌, ℕ, zero, suc, ◌<◌, List, [], length, sym, refl, ap, ◌∙◌, subst, inl, inr, arith}
use mathlib.Core.List.{List-discrete}
use native.Mathlib.Decide.{ℕ_discrete}
use Rattle.std.proofs.lemmas.List.{length_push}
use Rattle.std.proofs.lemmas.Bool.{cases_order}
use Rattle.model.specs.Trees.{Tree, leaf, node, Marked, Less, by_size}
use Rattle.automata.specs.Automata.{TreeAutomaton, sig, Alike, Alphabet}
use Rattle.automata.specs.Classes.{at, Le, Has, Least, AllMarked, Apart, Classes, MoreThan}
use Rattle.automata.specs.Frontier.{Settled, Covered, LeavesCovered, NodesCovered}
use Rattle.automata.proofs.Comparing.{le_less, le_le, le_not_less, not_less, node_le, leaf_mark_le, node_mark_le}
use Rattle.automata.proofs.Pushing.{push, at_before, at_last, push_all}

pub alike_nodes : (A : TreeAutomaton) (a : ℕ) (l l' r r' : Tree) → Alike A l l' → Alike A r r' → Alike A (node a l r) (node a l' r')
alike_nodes A a l l' r r' e f = cc

module _ (A : TreeAutomaton) where
  -- A list has a tree's class or not.

  has_among : (ts : List Tree) (y : Tree) (n : ℕ) → Dec ((i : ℕ) × (i < n) × Alike A (at ts i) y)
  has_among ts y zero = no (λ h. omega (arith, h.1))
  has_among ts y (suc n) =
      elim (List-discrete ℕ_discrete (sig A (at ts n)) (sig A y)) [
        | yes e ↦ yes (n, omega arith, e)
        | no k ↦ elim (has_among ts y n) [
          | yes h ↦ yes (h.0, omega (arith, h.1), h.2)
          | no j ↦ no (λ h. elim (ℕ_discrete h.0 n) [
            | yes q ↦ k (ap (λ (i : ℕ). sig A (at ts i)) (sym q) ∙ h.2)
            | no q ↦ j (h.0, omega (arith, h.1), h.2)
          ])
        ]
      ]

  pub has_or_not : (ts : List Tree) (y : Tree) → Dec (Has A ts y)
  has_or_not ts y =
      elim (has_among ts y (length ts)) [
        | yes h ↦ yes (record { place = h.0; within = h.1; alike = h.2 })
        | no n ↦ no (λ h. n (h.place, h.within, h.alike))
      ]

  pub has_alike : (ts : List Tree) (x y : Tree) → Alike A x y → Has A ts x → Has A ts y
  has_alike ts x y e h = record { place = h.place; within = h.within; alike = h.alike ∙ e }

  pub has_before : (ts : List Tree) (t y : Tree) → Has A ts y → Has A (push ts t) y
  has_before ts t y h = record {
    place = h.place;
    within = omega (arith, length_push ts t, h.within);
    alike = ap (sig A) (at_before ts t h.place h.within) ∙ h.alike;
  }

  pub has_last : (ts : List Tree) (t y : Tree) → Alike A t y → Has A (push ts t) y
  has_last ts t y e = record { place = length ts; within = omega (arith, length_push ts t); alike = ap (sig A) (at_last ts t) ∙ e }

  -- Settled trees.

  pub none_settled : Settled A []
  none_settled = record {
    marks = λ i h. absurd (omega arith);
    least = λ i h. absurd (omega arith);
    order = λ i k u h. absurd (omega arith);
    first = λ i y h. absurd (omega arith);
  }

  pub settled_le : (S : List Tree) → Settled A S → (i : ℕ) (y : Tree) → i < length S → Marked A.marks y → Alike A (at S i) y → Le (at S i) y
  settled_le S s i y h k e = not_less (at S i) y (λ u. s.least i h y k u (sym e))

  pub settled_apart : (S : List Tree) → Settled A S → Apart A S
  settled_apart S s i k h g e =
      elim (cases_order i k) [
        | inl q ↦ q
        | inr (inl u) ↦ absurd (s.least k g (at S i) (s.marks i h) (s.order i k u g) e)
        | inr (inr u) ↦ absurd (s.least i h (at S k) (s.marks k g) (s.order k i u h) (sym e))
      ]

  -- a tree that is not greater than any tree of a class that is not settled
  module _ (S : List Tree) (s : Settled A S) (t : Tree) (marked : Marked A.marks t) (new : Has A S t → ⊥)
      (low : (y : Tree) → Marked A.marks y → (Has A S y → ⊥) → Le t y) where
    low_least : Least A t
    low_least y k u e = le_not_less t y (low y k (λ h. new (has_alike S y t e h))) u

    low_first : (y : Tree) → Marked A.marks y → (Has A (push S t) y → ⊥) → Less t y
    low_first y k n =
        elim (low y k (λ h. n (has_before S t y h))) [ inl v ↦ v | inr q ↦ absurd (n (has_last S t y (ap (sig A) q))) ]

    pub settle : Settled A (push S t)
    settle = record {
      marks = push_all (λ _ x. Marked A.marks x) S t s.marks marked;
      least = push_all (λ _ x. Least A x) S t s.least low_least;
      order = λ i k u h. push_all (λ k x. i < k → Less (at (push S t) i) x) S t
          (λ k v w. subst (λ (x : Tree). Less x (at S k)) (sym (at_before S t i (omega arith))) (s.order i k w v))
          (λ w. subst (λ (x : Tree). Less x t) (sym (at_before S t i w)) (s.first i t w marked new)) k h u;
      first = λ i y h k n. push_all (λ _ x. Less x y) S t (λ j u. s.first j y u k (λ g. n (has_before S t y g))) (low_first y k n) i h;
    }

  -- Trees at hand.

  pub covered_alike : (ts : List Tree) (x y : Tree) → Alike A x y → Le x y → Covered A ts x → Covered A ts y
  covered_alike ts x y e u c = record { place = c.place; within = c.within; alike = c.alike ∙ e; le = le_le _ x y c.le u }

  -- a tree at hand of a class that is not settled, not greater than y
  pub record OpenBelow (S ts : List Tree) (y : Tree) : Type 0 where
    pub place : ℕ
    pub within : place < length ts
    pub new : Has A S (at ts place) → ⊥
    pub le : Le (at ts place) y

  covered_open : (S ts : List Tree) (y : Tree) → Covered A ts y → (Has A S y → ⊥) → OpenBelow S ts y
  covered_open S ts y c n = record { place = c.place; within = c.within; new = λ h. n (has_alike S _ y c.alike h); le = c.le }

  open_through : (S ts : List Tree) (x y : Tree) → Less x y → OpenBelow S ts x → OpenBelow S ts y
  open_through S ts x y u o = record { place = o.place; within = o.within; new = o.new; le = inl (le_less _ x y o.le u) }

  module _ (S ts : List Tree) (s : Settled A S) (leaves : LeavesCovered A ts) (nodes : NodesCovered A S ts) where
    node_covered : (a : ℕ) (l r : Tree) → Marked A.marks (node a l r) → Has A S l → Has A S r → Covered A ts (node a l r)
    node_covered a l r k g h =
        covered_alike ts (node a (at S g.place) (at S h.place)) (node a l r) (alike_nodes A a _ l _ r g.alike h.alike)
        (node_le a _ l _ r (settled_le S s g.place l g.within k.1 g.alike) (settled_le S s h.place r h.within k.2 h.alike))
        (nodes a g.place h.place k.0 g.within h.within)

    pub open_below : (y : Tree) → Marked A.marks y → (Has A S y → ⊥) → OpenBelow S ts y
    open_below (leaf a) k n = covered_open S ts (leaf a) (leaves a k) n
    open_below (node a l r) k n =
        elim (has_or_not S l) [
          | no f ↦ open_through S ts l (node a l r) (by_size (omega arith)) (open_below l k.1 f)
          | yes g ↦ elim (has_or_not S r) [
            | no f ↦ open_through S ts r (node a l r) (by_size (omega arith)) (open_below r k.2 f)
            | yes h ↦ covered_open S ts (node a l r) (node_covered a l r k g h) n
          ]
        ]

    -- no class at hand is open: that is all
    pub all_settled : ((i : ℕ) → i < length ts → Has A S (at ts i)) → Classes A S
    all_settled f = record {
      one_of_each = record {
        marks = s.marks;
        apart = settled_apart S s;
        all = λ y k. elim (has_or_not S y) [ yes h ↦ h | no n ↦ let o = open_below y k n in absurd (o.new (f o.place o.within)) ];
      };
      least = s.least;
      order = s.order;
    }

  -- The letters stand in for all marks; where each mark is a letter they do.

  pub plain_alphabet : Alphabet A A.marks (λ i. i)
  plain_alphabet = record {
    marks_below = λ i h. h;
    stands_in = λ a h. record { letter = a; within = h; low = omega arith; same_leaf = refl; same_node = λ s t. refl };
  }

  module _ (letters : ℕ) (mark_of : ℕ → ℕ) (alphabet : Alphabet A letters mark_of) where
    pub leaves_by_letters : (ts : List Tree) → ((i : ℕ) → i < letters → Covered A ts (leaf (mark_of i))) → LeavesCovered A ts
    leaves_by_letters ts f a h =
        let z = alphabet.stands_in a h in
        covered_alike ts (leaf (mark_of z.letter)) (leaf a) z.same_leaf (leaf_mark_le _ a z.low) (f z.letter z.within)

    pub node_by_letters : (ts : List Tree) (l r : Tree)
        → ((i : ℕ) → i < letters → Covered A ts (node (mark_of i) l r)) → (a : ℕ) → a < A.marks → Covered A ts (node a l r)
    node_by_letters ts l r f a h =
        let z = alphabet.stands_in a h in
        covered_alike ts (node (mark_of z.letter) l r) (node a l r) (z.same_node (sig A l) (sig A r)) (node_mark_le _ a l r z.low)
        (f z.letter z.within)

  -- One class more than there is room for.

  pub one_too_many : (ts : List Tree) (t : Tree) (n : ℕ) → length ts ≡ n → AllMarked A ts → Apart A ts
      → Marked A.marks t → (Has A ts t → ⊥) → MoreThan A n
  one_too_many ts t n e ks apart k new = record {
    trees = push ts t;
    count = omega (arith, length_push ts t);
    marks = push_all (λ _ x. Marked A.marks x) ts t ks k;
    apart = λ i j h g. push_all (λ i x. Alike A x (at (push ts t) j) → i ≡ j) ts t
        (λ i u. push_all (λ j y. Alike A (at ts i) y → i ≡ j) ts t (λ j v. apart i j u v)
        (λ q. absurd (new (record { place = i; within = u; alike = q }))) j g)
        (push_all (λ j y. Alike A t y → length ts ≡ j) ts t
        (λ j v q. absurd (new (record { place = j; within = v; alike = sym q }))) (λ _. refl) j g) i h;
  }
