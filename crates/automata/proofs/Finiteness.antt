-- All classes, each with its least tree, exist wherever signatures have codes below a bound: the search is run over the
-- list of all leaves and all nodes over the settled trees. It ends, since settled trees have different codes.
use Rattle.std.proofs.Common.{◌≡◌, ℕ, zero, suc, ◌+◌, ◌<◌, ◌≤◌, ◌⊎◌, List, [], ◌∷◌, ◌++◌, length, sym, refl, ap, subst, inl, inr, arith}
use native.Mathlib.Decide.{ℕ_discrete}
use Rattle.std.proofs.lemmas.List.{length_push}
use Rattle.model.specs.Trees.{Tree, leaf, node, Marked}
use Rattle.automata.specs.Automata.{TreeAutomaton, sig}
use Rattle.automata.specs.Classes.{at, Le, Has, AllMarked}
use Rattle.automata.specs.Frontier.{Settled, Covered}
use Rattle.automata.specs.Laws.{Coded, Finite}
use Rattle.automata.proofs.Comparing.{le_le}
use Rattle.automata.proofs.Pigeonhole.{pigeonhole}
use Rattle.automata.proofs.Pushing.{push}
use Rattle.automata.proofs.Growing.{has_or_not, none_settled, settled_apart, settle, open_below, all_settled}
use Rattle.model.proofs.Order.{tree_order}

-- Lists of candidates.

abbrev In : Tree → List Tree → Type 0
In x [] = ⊥
In x (y ∷ ys) = (x ≡ y) ⊎ In x ys

in_left : (xs ys : List Tree) (x : Tree) → In x xs → In x (xs ++ ys)
in_left [] ys x h = absurd h
in_left (y ∷ xs) ys x (inl e) = inl e
in_left (y ∷ xs) ys x (inr h) = inr (in_left xs ys x h)

in_right : (xs ys : List Tree) (x : Tree) → In x ys → In x (xs ++ ys)
in_right [] ys x h = h
in_right (y ∷ xs) ys x h = inr (in_right xs ys x h)

in_either : (xs ys : List Tree) (x : Tree) → In x (xs ++ ys) → In x xs ⊎ In x ys
in_either [] ys x h = inr h
in_either (y ∷ xs) ys x (inl e) = inl (inl e)
in_either (y ∷ xs) ys x (inr h) = elim (in_either xs ys x h) [ inl u ↦ inl (inr u) | inr u ↦ inr u ]

-- f 0 .. f (n - 1), joined
abbrev gathered : (ℕ → List Tree) → ℕ → List Tree
gathered f zero = []
gathered f (suc n) = f n ++ gathered f n

in_gathered : (f : ℕ → List Tree) (n i : ℕ) (x : Tree) → i < n → In x (f i) → In x (gathered f n)
in_gathered f zero i x h k = absurd (omega arith)
in_gathered f (suc n) i x h k =
    elim (ℕ_discrete i n) [
      | yes e ↦ in_left (f n) (gathered f n) x (subst (λ (j : ℕ). In x (f j)) e k)
      | no e ↦ in_right (f n) (gathered f n) x (in_gathered f n i x (omega arith) k)
    ]

gathered_all : (P : Tree → Type 0) (f : ℕ → List Tree) (n : ℕ)
    → ((i : ℕ) (x : Tree) → i < n → In x (f i) → P x) → (x : Tree) → In x (gathered f n) → P x
gathered_all P f zero g x h = absurd h
gathered_all P f (suc n) g x h =
    elim (in_either (f n) (gathered f n) x h) [
      | inl u ↦ g n x (omega arith) u
      | inr u ↦ gathered_all P f n (λ i y k. g i y (omega arith)) x u
    ]

abbrev nodes_over : List Tree → ℕ → ℕ → ℕ → List Tree
nodes_over S a p q = node a (at S p) (at S q) ∷ []

-- all leaves, and all nodes over S
abbrev candidates : ℕ → List Tree → List Tree
candidates m S =
    gathered (λ a. leaf a ∷ []) m ++ gathered (λ a. gathered (λ p. gathered (nodes_over S a p) (length S)) (length S)) m

leaf_in : (m : ℕ) (S : List Tree) (a : ℕ) → a < m → In (leaf a) (candidates m S)
leaf_in m S a h = in_left _ _ (leaf a) (in_gathered (λ a. leaf a ∷ []) m a (leaf a) h (inl refl))

node_in : (m : ℕ) (S : List Tree) (a p q : ℕ) → a < m → p < length S → q < length S → In (node a (at S p) (at S q)) (candidates m S)
node_in m S a p q h k i =
    in_right (gathered (λ a. leaf a ∷ []) m) _ (node a (at S p) (at S q))
    (in_gathered (λ a. gathered (λ p. gathered (nodes_over S a p) (length S)) (length S)) m a _ h
    (in_gathered (λ p. gathered (nodes_over S a p) (length S)) (length S) p _ k
    (in_gathered (nodes_over S a p) (length S) q _ i (inl refl))))

is_the_one : (P : Tree → Type 0) (x y : Tree) → P y → In x (y ∷ []) → P x
is_the_one P x y p (inl e) = subst P (sym e) p
is_the_one P x y p (inr h) = absurd h

candidates_marked : (m : ℕ) (S : List Tree) → ((i : ℕ) → i < length S → Marked m (at S i)) → (x : Tree) → In x (candidates m S) → Marked m x
candidates_marked m S f x h =
    elim (in_either (gathered (λ a. leaf a ∷ []) m) _ x h) [
      | inl u ↦ gathered_all (Marked m) (λ a. leaf a ∷ []) m (λ a y l. is_the_one (Marked m) y (leaf a) l) x u
      | inr u ↦ gathered_all (Marked m) (λ a. gathered (λ p. gathered (nodes_over S a p) (length S)) (length S)) m
          (λ a y la. gathered_all (Marked m) (λ p. gathered (nodes_over S a p) (length S)) (length S)
          (λ p z lp. gathered_all (Marked m) (nodes_over S a p) (length S)
          (λ q v lq. is_the_one (Marked m) v (node a (at S p) (at S q)) (la, f p lp, f q lq)) z) y) x u
    ]

place_in : (ts : List Tree) (x : Tree) → In x ts → (i : ℕ) × (i < length ts) × (at ts i ≡ x)
place_in [] x h = absurd h
place_in (y ∷ ts) x (inl e) = (zero, omega arith, sym e)
place_in (y ∷ ts) x (inr h) = let r = place_in ts x h in (suc r.0, omega (arith, r.1), r.2)

at_in : (ts : List Tree) (i : ℕ) → i < length ts → In (at ts i) ts
at_in [] i h = absurd (omega arith)
at_in (y ∷ ts) zero h = inl refl
at_in (y ∷ ts) (suc i) h = inr (at_in ts i (omega arith))

module _ (A : TreeAutomaton) where
  in_covered : (ts : List Tree) (x : Tree) → In x ts → Covered A ts x
  in_covered ts x h = let r = place_in ts x h in record { place = r.0; within = r.1; alike = ap (sig A) r.2; le = inr r.2 }

  -- The least tree of the first n whose class is not settled.

  record LeastOpen (S ts : List Tree) (n : ℕ) : Type 0 where
    place : ℕ
    within : place < n
    new : Has A S (at ts place) → ⊥
    low : (i : ℕ) → i < n → (Has A S (at ts i) → ⊥) → Le (at ts place) (at ts i)

  abbrev NoneOpen : List Tree → List Tree → ℕ → Type 0
  NoneOpen S ts n = (i : ℕ) → i < n → Has A S (at ts i)

  module _ (S ts : List Tree) where
    last_open : (n : ℕ) → (Has A S (at ts n) → ⊥) → ((i : ℕ) → i < n → (Has A S (at ts i) → ⊥) → Le (at ts n) (at ts i)) → LeastOpen S ts (suc n)
    last_open n new f = record {
      place = n;
      within = omega arith;
      new = new;
      low = λ i h k. elim (ℕ_discrete i n) [ yes e ↦ inr (ap (at ts) (sym e)) | no e ↦ f i (omega arith) k ];
    }

    keep_open : (n : ℕ) (o : LeastOpen S ts n) → ((Has A S (at ts n) → ⊥) → Le (at ts o.place) (at ts n)) → LeastOpen S ts (suc n)
    keep_open n o f = record {
      place = o.place;
      within = omega (arith, o.within);
      new = o.new;
      low = λ i h k. elim (ℕ_discrete i n) [
        | yes e ↦ subst (λ (j : ℕ). Le (at ts o.place) (at ts j)) (sym e) (f (λ g. k (subst (λ (j : ℕ). Has A S (at ts j)) (sym e) g)))
        | no e ↦ o.low i (omega arith) k
      ];
    }

    least_open : (n : ℕ) → LeastOpen S ts n ⊎ NoneOpen S ts n
    least_open zero = inr (λ i h. absurd (omega arith))
    least_open (suc n) =
        elim (least_open n) [
          | inr all ↦ elim (has_or_not A S (at ts n)) [
            | yes h ↦ inr (λ i l. elim (ℕ_discrete i n) [ yes e ↦ subst (λ (j : ℕ). Has A S (at ts j)) (sym e) h | no e ↦ all i (omega arith) ])
            | no k ↦ inl (last_open n k (λ i l j. absurd (j (all i l))))
          ]
          | inl o ↦ elim (has_or_not A S (at ts n)) [
            | yes h ↦ inl (keep_open n o (λ k. absurd (k h)))
            | no k ↦ elim (tree_order.order.total (at ts n) (at ts o.place)) [
              | inl u ↦ inl (last_open n k (λ i l j. le_le (at ts n) (at ts o.place) (at ts i) (inl u) (o.low i l j)))
              | inr w ↦ inl (keep_open n o (λ _. elim w [ inl e ↦ inr (sym e) | inr u ↦ inl u ]))
            ]
          ]
        ]

  -- One more settled tree, as long as there are open ones.

  module _ (bound : ℕ) (code : List ℕ → ℕ) (coded : Coded A bound code) where
    few_settled : (S : List Tree) → Settled A S → length S ≤ bound
    few_settled S s =
        pigeonhole bound (length S) (λ i. code (sig A (at S i))) (λ i h. coded.bounded (at S i) (s.marks i h))
        (λ i k u h e. omega (arith, settled_apart A S s i k (omega arith) h (coded.faithful (at S i) (at S k) (s.marks i (omega arith)) (s.marks k h) e)))

    module _ (S : List Tree) (s : Settled A S) where
      ts : List Tree
      ts = candidates A.marks S

      all_marked : AllMarked A ts
      unfolding ts
      all_marked i h = candidates_marked A.marks S s.marks (at ts i) (at_in ts i h)

      leaves : (a : ℕ) → a < A.marks → Covered A ts (leaf a)
      unfolding ts
      leaves a h = in_covered ts (leaf a) (leaf_in A.marks S a h)

      nodes : (a p q : ℕ) → a < A.marks → p < length S → q < length S → Covered A ts (node a (at S p) (at S q))
      unfolding ts
      nodes a p q h k i = in_covered ts _ (node_in A.marks S a p q h k i)

      more : LeastOpen S ts (length ts) → (t : Tree) × Settled A (push S t)
      more o = (
        at ts o.place,
        settle A S s (at ts o.place) (all_marked o.place o.within) o.new
            (λ y k n. let b = open_below A S ts s leaves nodes y k n in le_le _ (at ts b.place) y (o.low b.place b.within b.new) b.le),
      )

      done : NoneOpen S ts (length ts) → Finite A bound
      done f = record { trees = S; classes = all_settled A S ts s leaves nodes f; few = few_settled S s }

    grow : (fuel : ℕ) (S : List Tree) → Settled A S → bound ≤ fuel + length S → Finite A bound
    grow zero S s h =
        elim (least_open S (ts S s) (length (ts S s))) [
          | inr f ↦ done S s f
          | inl o ↦ let m = more S s o in absurd (omega (arith, few_settled (push S m.0) m.1, length_push S m.0))
        ]
    grow (suc fuel) S s h =
        elim (least_open S (ts S s) (length (ts S s))) [
          | inr f ↦ done S s f
          | inl o ↦ let m = more S s o in grow fuel (push S m.0) m.1 (omega (arith, length_push S m.0))
        ]

    pub finite : Finite A bound
    finite = grow bound [] (none_settled A) (omega arith)
