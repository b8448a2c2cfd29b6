-- Rows say one thing only: no row is the beginning of another. Each row begins with a word that tells how it goes on, so
-- equal words are taken apart from the front, with the rest behind them carried along.
use Rattle.std.proofs.Common.{◌≡◌, ℕ, ◌*◌, List, [], ◌∷◌, ◌++◌, length, sym, refl, ap, ◌∙◌, append_assoc, arith, length-append}
use mathlib.Core.List.{tail-eq_of_cons-eq}
use Rattle.std.specs.List.{flat_map}
use Rattle.model.specs.Trees.{Tree, leaf, node, size}
use Rattle.model.specs.Types.{TreeType, WellFormedType}
use Rattle.model.specs.Turns.{Side, left, right, Pattern, p_leaf, p_node, p_part, Turn, WellFormedTurn}
use Rattle.model.specs.Jobs.{WellFormedJob}
use Rattle.model.specs.Rows.{tree_row, side_word, pattern_row, patterns_row, type_row, turn_row, job_row}
use Rattle.model.specs.Laws.{PrefixFree, RowLaws}

-- two lists with fronts of one length
pub split : {A : Type 0} (xs ys us vs : List A) → length xs ≡ length ys → xs ++ us ≡ ys ++ vs → (xs ≡ ys) × (us ≡ vs)
split [] [] us vs n e = (refl, e)
split [] (y ∷ ys) us vs n e = absurd (omega arith)
split (x ∷ xs) [] us vs n e = absurd (omega arith)
split (x ∷ xs) (y ∷ ys) us vs n e =
    let t : xs ++ us ≡ ys ++ vs = cc in
    let r = split xs ys us vs (omega arith) t in
    (cc r.0, r.1)

pub trees_apart : (x y : Tree) (us vs : List ℕ) → tree_row x ++ us ≡ tree_row y ++ vs → (x ≡ y) × (us ≡ vs)
trees_apart (leaf a) (leaf b) us vs e = (cc, cc)
trees_apart (leaf a) (node b l r) us vs e = let z : ◌≡◌ {A = ℕ} 0 1 = cc in absurd (omega arith)
trees_apart (node a l r) (leaf b) us vs e = let z : ◌≡◌ {A = ℕ} 0 1 = cc in absurd (omega arith)
trees_apart (node a l r) (node b k s) us vs e =
    let e' = simp append_assoc at e in
    let p = trees_apart l k (tree_row r ++ us) (tree_row s ++ vs) (cc) in
    let q = trees_apart r s us vs p.1 in
    (cc (p.0, q.0), q.1)

pub side_words : (s t : Side) → side_word s ≡ side_word t → s ≡ t
side_words left left e = refl
side_words left right e = absurd (omega arith)
side_words right left e = absurd (omega arith)
side_words right right e = refl

pub patterns_apart : (o p : Pattern) (us vs : List ℕ) → pattern_row o ++ us ≡ pattern_row p ++ vs → (o ≡ p) × (us ≡ vs)
patterns_apart (p_leaf a) (p_leaf b) us vs e = (cc, cc)
patterns_apart (p_leaf a) (p_node b x y) us vs e = let z : ◌≡◌ {A = ℕ} 0 1 = cc in absurd (omega arith)
patterns_apart (p_leaf a) (p_part q s) us vs e = let z : ◌≡◌ {A = ℕ} 0 2 = cc in absurd (omega arith)
patterns_apart (p_node a x y) (p_leaf b) us vs e = let z : ◌≡◌ {A = ℕ} 0 1 = cc in absurd (omega arith)
patterns_apart (p_node a x y) (p_node b z w) us vs e =
    let e' = simp append_assoc at e in
    let p = patterns_apart x z (pattern_row y ++ us) (pattern_row w ++ vs) (cc) in
    let q = patterns_apart y w us vs p.1 in
    (cc (p.0, q.0), q.1)
patterns_apart (p_node a x y) (p_part q s) us vs e = let z : ◌≡◌ {A = ℕ} 1 2 = cc in absurd (omega arith)
patterns_apart (p_part q s) (p_leaf b) us vs e = let z : ◌≡◌ {A = ℕ} 0 2 = cc in absurd (omega arith)
patterns_apart (p_part q s) (p_node b x y) us vs e = let z : ◌≡◌ {A = ℕ} 1 2 = cc in absurd (omega arith)
patterns_apart (p_part q s) (p_part p t) us vs e =
    let w : side_word s ≡ side_word t = cc in
    (cc (side_words s t w), cc)

-- as many things, written one behind the other
pub joined_apart : {A : Type 0} (row : A → List ℕ) → ((x y : A) (us vs : List ℕ) → row x ++ us ≡ row y ++ vs → (x ≡ y) × (us ≡ vs))
    → (xs ys : List A) (us vs : List ℕ) → length xs ≡ length ys → flat_map row xs ++ us ≡ flat_map row ys ++ vs → (xs ≡ ys) × (us ≡ vs)
joined_apart row apart [] [] us vs n e = (refl, e)
joined_apart row apart [] (y ∷ ys) us vs n e = absurd (omega arith)
joined_apart row apart (x ∷ xs) [] us vs n e = absurd (omega arith)
joined_apart row apart (x ∷ xs) (y ∷ ys) us vs n e =
    let p = apart x y (flat_map row xs ++ us) (flat_map row ys ++ vs) (simp append_assoc at e) in
    let q = joined_apart row apart xs ys us vs (omega arith) p.1 in
    (cc (p.0, q.0), q.1)

pub types_apart : (m : ℕ) (t u : TreeType) (us vs : List ℕ) → WellFormedType m t → WellFormedType m u → type_row t ++ us ≡ type_row u ++ vs → (t ≡ u) × (us ≡ vs)
types_apart m t u us vs f g e =
    let k : t.kinds ≡ u.kinds = cc in
    let e0 : (t.leaves ++ (t.nodes ++ (length t.wanted ∷ t.wanted))) ++ us ≡ (u.leaves ++ (u.nodes ++ (length u.wanted ∷ u.wanted))) ++ vs = cc in
    let r1 = split t.leaves u.leaves _ _ (f.leaf_count ∙ sym g.leaf_count) (simp append_assoc at e0) in
    let n : length t.nodes ≡ length u.nodes = f.node_count ∙ ap (λ (x : ℕ). m * (x * x)) k ∙ sym g.node_count in
    let r2 = split t.nodes u.nodes _ _ n r1.1 in
    let e2 = r2.1 in
    let w : length t.wanted ≡ length u.wanted = cc in
    let r3 = split t.wanted u.wanted us vs w (cc) in
    (λ i. record { kinds = k i; leaves = r1.0 i; nodes = r2.0 i; wanted = r3.0 i }, r3.1)

pub turns_apart : (m : ℕ) (t u : Turn) (us vs : List ℕ) → WellFormedTurn m t → WellFormedTurn m u → turn_row t ++ us ≡ turn_row u ++ vs → (t ≡ u) × (us ≡ vs)
turns_apart m t u us vs f g e =
    let n : t.states ≡ u.states = cc in
    let e0 : (patterns_row t.on_leaf ++ patterns_row t.on_node) ++ us ≡ (patterns_row u.on_leaf ++ patterns_row u.on_node) ++ vs = cc in
    let many = ap (λ (x : ℕ). x * m) n in
    let r1 = joined_apart pattern_row patterns_apart t.on_leaf u.on_leaf _ _ (f.leaf_count ∙ many ∙ sym g.leaf_count) (simp append_assoc at e0) in
    let r2 = joined_apart pattern_row patterns_apart t.on_node u.on_node us vs (f.node_count ∙ many ∙ sym g.node_count) r1.1 in
    (λ i. record { states = n i; on_leaf = r1.0 i; on_node = r2.0 i }, r2.1)

regroup : (a b c us : List ℕ) → (a ++ (b ++ c)) ++ us ≡ a ++ (b ++ (c ++ us))
regroup a b c us = append_assoc a (b ++ c) us ∙ ap (λ (l : List ℕ). a ++ l) (append_assoc b c us)

pub jobs_apart : PrefixFree job_row WellFormedJob
jobs_apart j k us vs f g e =
    let m : j.marks ≡ k.marks = cc in
    let e0 = tail-eq_of_cons-eq e in
    let e1 = sym (regroup (type_row j.from) (turn_row j.turn) (type_row j.to) us) ∙ e0 ∙ regroup (type_row k.from) (turn_row k.turn) (type_row k.to) vs in
    let r1 = types_apart j.marks j.from k.from (turn_row j.turn ++ (type_row j.to ++ us)) (turn_row k.turn ++ (type_row k.to ++ vs)) f.first (rw m g.first) e1 in
    let r2 = turns_apart j.marks j.turn k.turn (type_row j.to ++ us) (type_row k.to ++ vs) f.turns (rw m g.turns) r1.1 in
    let r3 = types_apart j.marks j.to k.to us vs f.second (rw m g.second) r2.1 in
    (λ i. record { marks = m i; from = r1.0 i; turn = r2.0 i; to = r3.0 i }, r3.1)

-- the same with nothing behind
alone : {s t : List ℕ} → s ≡ t → s ++ [] ≡ t ++ []
alone e = ap (λ (l : List ℕ). l ++ []) e

pub tree_words : (x : Tree) → length (tree_row x) ≡ 2 * size x
tree_words (leaf a) = refl
tree_words (node a l r) = omega (arith, length-append (tree_row l) (tree_row r), tree_words l, tree_words r)

pub row_laws : RowLaws
row_laws = record {
  trees_apart = λ x y us vs _ _ e. trees_apart x y us vs e;
  one_tree = λ x y e. (trees_apart x y [] [] (alone e)).0;
  tree_words = tree_words;
  jobs_apart = jobs_apart;
  one_job = λ s j k p q. (jobs_apart j k [] [] p.well_formed q.well_formed (alone (p.row ∙ sym q.row))).0;
}
