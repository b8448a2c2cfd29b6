-- Subtrees of a tree in lent words: each is found from those behind it, and where one cannot be found, no tree has these words,
-- since in a tree's row a subtree begins with every leaf and node.
use Rattle.std.proofs.Common.{◌≡◌, ℕ, zero, suc, ◌+◌, ◌-◌, ◌*◌, ◌/◌, ◌%◌, ◌<◌, ◌≤◌, ◌≢◌, ◌⊎◌, List, [], ◌∷◌, ◌++◌, length, get_or, drop, set, Some, sym, refl, ap, ◌∙◌, subst, inl, inr, append_assoc, arith, length-drop}
use mathlib.Core.List.{tail-eq_of_cons-eq}
use Rattle.std.proofs.lemmas.List.{append-nil, drop_all, drop-drop, drop_at, get_or-set_same, get_or-set_other}
use Rattle.std.proofs.lemmas.Bool.{cases_lt, cases_eq}
use Rattle.model.specs.Trees.{Tree, leaf, node, size, Marked}
use Rattle.model.specs.Types.{TreeType, kind_of_leaf, kind_of_node, WellFormedType}
use Rattle.model.specs.Rows.{tree_row}
use Rattle.model.proofs.KindsBelow.{kind_below}
use Rattle.model.proofs.Order.{size_positive}
use Rattle.model.proofs.Prefix.{trees_apart, tree_words}
use Rattle.rows.specs.declared.trees.Item.{Item}
use Rattle.rows.specs.declared.trees.Item.TheVariants.{Leaf, Node}
use Rattle.rows.specs.Numbered.{number, Noted}
use Rattle.rows.specs.Standing.{Stands, Absent}
use Rattle.rows.specs.Subtrees.{ItemAt, SubtreeAt, Subtrees, TreeKnown}
use Rattle.rows.proofs.Stood.{uncons, both, ends_within}

pub subtree_below : (t : TreeType) (m : ℕ) (s : List ℕ) {i end k : ℕ} → WellFormedType m t → SubtreeAt t m s i end k → k < t.kinds
subtree_below t m s w x = omega (arith, x.of_kind, kind_below m t w x.tree)

pub as_item : (s : List ℕ) (i : ℕ) (x y : Item) → x ≡ y → ItemAt s i (Some x) → ItemAt s i (Some y)
as_item s i x y e h = subst (λ (z : Item). ItemAt s i (Some z)) e h

-- what the words of a leaf or node tell of the tree that begins with them, before the words `rest`
abbrev pub ItemTells : List ℕ → ℕ → Item → Tree → List ℕ → Type 0
ItemTells s i (Leaf a) x rest = x ≡ leaf a
ItemTells s i (Node a) x rest = (l : Tree) × (r : Tree) × (x ≡ node a l r) × (drop (2 * (i + 1)) s ≡ tree_row l ++ (tree_row r ++ rest))

pub item_tells : (s : List ℕ) (i : ℕ) (y : Item) (x : Tree) (rest : List ℕ) → ItemAt s i (Some y) → drop (2 * i) s ≡ tree_row x ++ rest → ItemTells s i y x rest
item_tells s i (Leaf a) (leaf b) rest st e = let e' = sym st.words ∙ e in cc
item_tells s i (Leaf a) (node b l r) rest st e = let e' = sym st.words ∙ e in let z : ◌≡◌ {A = ℕ} 0 1 = cc in absurd (omega arith)
item_tells s i (Node a) (leaf b) rest st e = let e' = sym st.words ∙ e in let z : ◌≡◌ {A = ℕ} 0 1 = cc in absurd (omega arith)
item_tells s i (Node a) (node b l r) rest st e =
    let e' = sym st.words ∙ e in
    let next : 2 * (i + 1) ≡ 2 * i + 2 = omega arith in
    (l, r, cc, ap (λ (k : ℕ). drop k s) next ∙ tail-eq_of_cons-eq (tail-eq_of_cons-eq e') ∙ append_assoc (tree_row l) (tree_row r) rest)

-- how a tree's row begins
pub tree_front : (s : List ℕ) (at : ℕ) (x : Tree) (rest : List ℕ) → drop at s ≡ tree_row x ++ rest → (at + 2 ≤ length s) × (get_or s at 0 ≤ 1)
tree_front s at (leaf a) rest e =
    let u = uncons s at (at + 1) 0 (a ∷ rest) refl e in
    (ends_within s (0 ∷ a ∷ []) rest at (omega arith) e, omega (arith, u.word))
tree_front s at (node a l r) rest e =
    let u = uncons s at (at + 1) 1 (a ∷ ((tree_row l ++ tree_row r) ++ rest)) refl e in
    (ends_within s (1 ∷ a ∷ []) ((tree_row l ++ tree_row r) ++ rest) at (omega arith) e, omega (arith, u.word))

pub none_item : (s : List ℕ) (at : ℕ) → 1 < get_or s at 0 → Absent tree_row (λ _. Unit {0}) s at
none_item s at h x rest u e = omega (arith, (tree_front s at x rest e).1)

drop_equal : (s : List ℕ) (j k : ℕ) → j ≡ k → drop j s ≡ drop k s
drop_equal s j k e = ap (λ (i : ℕ). drop i s) e

-- a subtree begins with every leaf and node of a tree
record Within (m : ℕ) (s : List ℕ) (i : ℕ) : Type 0 where
  subtree : Tree
  marked : Marked m subtree
  rest : List ℕ
  words : drop (2 * i) s ≡ tree_row subtree ++ rest

subtree_within : (m : ℕ) (x : Tree) (us : List ℕ) (i : ℕ) → Marked m x → i < size x → Within m (tree_row x ++ us) i
subtree_within m (leaf a) us i h l =
    record { subtree = leaf a; marked = h; rest = us; words = drop_equal (0 ∷ a ∷ us) (2 * i) 0 (omega arith) }
subtree_within m (node a p q) us zero h l = record { subtree = node a p q; marked = h; rest = us; words = refl }
subtree_within m (node a p q) us (suc j) h l =
    let s = tree_row p ++ (tree_row q ++ us) in
    let shift : drop (2 * suc j) (tree_row (node a p q) ++ us) ≡ drop (2 * j) s =
    drop_equal (tree_row (node a p q) ++ us) (2 * suc j) (suc (suc (2 * j))) (omega arith) ∙ ap (drop (2 * j)) (append_assoc (tree_row p) (tree_row q) us) in
    elim (cases_lt j (size p)) [
      | inl lt ↦
          let w = subtree_within m p (tree_row q ++ us) j h.1 lt in
          record { subtree = w.subtree; marked = w.marked; rest = w.rest; words = shift ∙ w.words }
      | inr ge ↦
          let w = subtree_within m q us (j - size p) h.2 (omega arith) in
          let jump : drop (2 * j) s ≡ drop (2 * (j - size p)) (tree_row q ++ us) =
          drop_equal s (2 * j) (length (tree_row p) + 2 * (j - size p)) (omega (arith, tree_words p))
          ∙ sym (drop-drop (2 * (j - size p)) (length (tree_row p)) s) ∙ ap (drop (2 * (j - size p))) (drop_at (tree_row p) (tree_row q ++ us) (length (tree_row p)) refl) in
          record { subtree = w.subtree; marked = w.marked; rest = w.rest; words = shift ∙ jump ∙ w.words }
    ]

module _ (t : TreeType) (m : ℕ) (s : List ℕ) (i : ℕ) where
  pub none_leaf : (a : ℕ) → ItemAt s i (Some (Leaf a)) → m ≤ a → Absent tree_row (Marked m) s (2 * i)
  none_leaf a st h x rest k e = let k' = subst (Marked m) (item_tells s i (Leaf a) x rest st e) k in omega arith

  pub some_leaf : (a k : ℕ) → ItemAt s i (Some (Leaf a)) → a < m → k ≡ kind_of_leaf t a → SubtreeAt t m s i (i + 1) k
  some_leaf a k st h e =
      let next : 2 * i + 2 ≡ 2 * (i + 1) = omega arith in
      record { tree = leaf a; marked = h; stands = subst (λ (z : ℕ). Stands s (2 * i) z (0 ∷ a ∷ [])) next st; of_kind = e }

  module _ (a : ℕ) (st : ItemAt s i (Some (Node a))) where
    pub none_mark : m ≤ a → Absent tree_row (Marked m) s (2 * i)
    none_mark h x rest k e = let t = item_tells s i (Node a) x rest st e in let k' = subst (Marked m) t.2 k in omega (arith, k'.0)

    pub none_left : length s ≤ 2 * (i + 1) → Absent tree_row (Marked m) s (2 * i)
    none_left h x rest k e = let t = item_tells s i (Node a) x rest st e in omega (arith, (tree_front s (2 * (i + 1)) t.0 (tree_row t.1 ++ rest) t.3).0)

    module _ (mid kl : ℕ) (left : SubtreeAt t m s (i + 1) mid kl) where
      pub none_right : length s ≤ 2 * mid → Absent tree_row (Marked m) s (2 * i)
      none_right h x rest k e =
          let t = item_tells s i (Node a) x rest st e in
          let behind : drop (2 * mid) s ≡ tree_row t.1 ++ rest = (trees_apart left.tree t.0 (drop (2 * mid) s) (tree_row t.1 ++ rest) (sym left.stands.words ∙ t.3)).1 in
          omega (arith, (tree_front s (2 * mid) t.1 rest behind).0)

      pub some_node : (end kr k : ℕ) → a < m → SubtreeAt t m s mid end kr → k ≡ kind_of_node t a kl kr → SubtreeAt t m s i end k
      some_node end kr k h right e =
          let next : 2 * i + 2 ≡ 2 * (i + 1) = omega arith in
          let here : Stands s (2 * i) (2 * (i + 1)) (1 ∷ a ∷ []) = subst (λ (z : ℕ). Stands s (2 * i) z (1 ∷ a ∷ [])) next st in
          let l = left.tree in
          let r = right.tree in
          record {
            tree = node a l r;
            marked = (h, left.marked, right.marked);
            stands = both s (1 ∷ a ∷ []) (tree_row l ++ tree_row r) (2 * i) (2 * (i + 1)) (2 * end) here (both s (tree_row l) (tree_row r) (2 * (i + 1)) (2 * mid) (2 * end) left.stands right.stands);
            of_kind = same_node left.of_kind right.of_kind e;
          }
        where
          same_node : {x y : ℕ} → kl ≡ x → kr ≡ y → {k : ℕ} → k ≡ kind_of_node t a kl kr → k ≡ kind_of_node t a x y
          same_node p q e = cc

module _ (t : TreeType) (m : ℕ) (s ends kinds : List ℕ) (i mid : ℕ) (known : Subtrees t m s ends kinds (i + 1)) where
  -- the parts of a node, among those that are known
  pub left_part : mid ≡ number ends (i + 1) → 2 * (i + 1) < length s → SubtreeAt t m s (i + 1) mid (get_or kinds (i + 1) 0)
  left_part e h = subst (λ (z : ℕ). SubtreeAt t m s (i + 1) z (get_or kinds (i + 1) 0)) (sym e) (known (i + 1) (omega arith) h)

  pub right_part : (kl : ℕ) → SubtreeAt t m s (i + 1) mid kl → 2 * mid < length s → SubtreeAt t m s mid (number ends mid) (get_or kinds mid 0)
  right_part kl left h = known mid (omega (arith, left.stands.long)) h

module _ (t : TreeType) (m : ℕ) (s : List ℕ) where
  -- one subtree more is noted
  pub one_more : (i next end k : ℕ) (ends kinds ends' : List ℕ) → i < length kinds → next ≤ i + 1 → Subtrees t m s ends kinds next → SubtreeAt t m s i end k → Noted ends ends' i end
      → Subtrees t m s ends' (set kinds i k) i
  one_more i next end k ends kinds ends' h n known x noted j low high =
      elim (cases_eq j i) [
        | inl e ↦
            let e1 : end ≡ number ends' j = sym (ap (number ends') e ∙ noted.here) in
            let e2 : k ≡ get_or (set kinds i k) j 0 = sym (ap (λ (z : ℕ). get_or (set kinds i k) z 0) e ∙ get_or-set_same kinds i k 0 h) in
            subst (λ (z : ℕ). SubtreeAt t m s j z (get_or (set kinds i k) j 0)) e1 (subst (SubtreeAt t m s j end) e2 (subst (λ (z : ℕ). SubtreeAt t m s z end k) (sym e) x))
        | inr ne ↦
            let above : next ≤ j = omega arith in
            subst (λ (z : ℕ). SubtreeAt t m s j z (get_or (set kinds i k) j 0)) (sym (noted.others j ne))
            (subst (SubtreeAt t m s j (number ends j)) (sym (get_or-set_other kinds i j k 0 ne)) (known j above high))
      ]

  pub none_subtree : (i : ℕ) → 2 * i < length s → Absent tree_row (Marked m) s (2 * i) → (x : Tree) → Marked m x → tree_row x ≡ s → ⊥
  none_subtree i h absent x k e =
      let here : tree_row x ++ [] ≡ s = append-nil (tree_row x) ∙ e in
      let w = subst (λ (l : List ℕ). Within m l i) here (subtree_within m x [] i k (omega (arith, tree_words x, ap length e))) in
      absent w.subtree w.rest w.marked w.words

  pub none_length : (length s / 2 ≡ 0) ⊎ (length s % 2 ≢ 0) → (x : Tree) → Marked m x → tree_row x ≡ s → ⊥
  none_length h x k e =
      let even : length s ≡ 2 * size x = sym (ap length e) ∙ tree_words x in
      elim h [ inl z ↦ omega (arith, size_positive x) | inr z ↦ z (omega arith) ]

  module _ (ends kinds : List ℕ) (known : Subtrees t m s ends kinds 0) (count : ℕ) (long : length s ≡ 2 * count) (some : 0 < count) where
    whole : SubtreeAt t m s 0 (number ends 0) (get_or kinds 0 0)
    whole = known 0 (omega arith) (omega arith)

    pub none_end : (number ends 0 ≡ count → ⊥) → (x : Tree) → Marked m x → tree_row x ≡ s → ⊥
    none_end other x k e =
        let w = whole in
        let nothing : drop (2 * number ends 0) s ≡ [] = (trees_apart w.tree x (drop (2 * number ends 0) s) [] (sym w.stands.words ∙ sym e ∙ sym (append-nil (tree_row x)))).1 in
        let left : length s - 2 * number ends 0 ≡ 0 = sym (length-drop (2 * number ends 0) s) ∙ ap length nothing in
        other (omega (arith, w.stands.within))

    pub some_tree : number ends 0 ≡ count → TreeKnown t m s ends kinds (get_or kinds 0 0)
    some_tree e =
        let w = whole in
        let last : drop (2 * number ends 0) s ≡ [] = drop_all (2 * number ends 0) s (omega arith) in
        record {
          tree = w.tree;
          marked = w.marked;
          row = sym (w.stands.words ∙ ap (λ (l : List ℕ). tree_row w.tree ++ l) last ∙ append-nil (tree_row w.tree));
          of_kind = w.of_kind;
          subtrees = known;
        }
