-- What a leaf, a node and the end of a part are to words that begin a row, and to the open nodes: each lemma by cases of the list of open
-- nodes, or by appending the words of the leaf or node.
use Rattle.std.proofs.Common.{◌≡◌, ℕ, ◌+◌, ◌<◌, List, [], ◌∷◌, ◌++◌, length, Some, sym, refl, ap, ◌∙◌, subst, append_assoc, append-nil, length-append, arith}
use Rattle.std.specs.List.{flat_map}
use Rattle.model.specs.Trees.{leaf, node}
use Rattle.model.specs.Rows.{tree_row}
use Rattle.terms.specs.declared.parts.Part.{Part}
use Rattle.terms.specs.declared.parts.Part.TheVariants.{Left, Right}
use Rattle.terms.specs.Beginnings.{IsTree, Begins, ReadTo, Leaves, Closes, to_come}

-- the row of a tree is that of any words equal to it
same_tree : (m : ℕ) (s u : List ℕ) → s ≡ u → IsTree m s → IsTree m u
same_tree m s u e t = record { tree = t.tree; marked = t.marked; row = t.row ∙ e }

-- no words, and one tree to come
started : (m : ℕ) → Begins m 1 []
started m [] n h = absurd (omega arith)
started m (t ∷ []) n h = record { tree = t; marked = h.0; row = sym (append-nil (tree_row t)) }
started m (t ∷ x ∷ ts) n h = absurd (omega arith)

-- a leaf more, and one tree fewer to come
leaf_read : (m k a : ℕ) (s u : List ℕ) → u ≡ s ++ (0 ∷ a ∷ []) → a < m → Begins m (k + 1) s → Begins m k u
leaf_read m k a s u e lt g ts l h =
    let R : List ℕ = flat_map tree_row ts in
    let w : (s ++ (0 ∷ a ∷ [])) ++ R ≡ s ++ ((0 ∷ a ∷ []) ++ R) = append_assoc s (0 ∷ a ∷ []) R in
    same_tree m _ _ (sym w ∙ ap (λ (x : List ℕ). x ++ R) (sym e)) (g (leaf a ∷ ts) (omega arith) (lt, h))

-- a node more, and its two parts to come in place of itself
node_read : (m k a : ℕ) (s u : List ℕ) → u ≡ s ++ (1 ∷ a ∷ []) → a < m → Begins m (k + 1) s → Begins m (k + 1 + 1) u
node_read m k a s u e lt g [] l h = absurd (omega arith)
node_read m k a s u e lt g (x ∷ []) l h = absurd (omega arith)
node_read m k a s u e lt g (x ∷ y ∷ ts) l h =
    let R : List ℕ = tree_row x ++ (tree_row y ++ flat_map tree_row ts) in
    let w : (s ++ (1 ∷ a ∷ [])) ++ R ≡ s ++ ((1 ∷ a ∷ []) ++ R) = append_assoc s (1 ∷ a ∷ []) R in
    let v : tree_row x ++ tree_row y ++ flat_map tree_row ts ≡ R = append_assoc (tree_row x) (tree_row y) (flat_map tree_row ts) in
    same_tree m _ _
    (ap (λ (z : List ℕ). s ++ (1 ∷ a ∷ z)) v ∙ (sym w ∙ ap (λ (z : List ℕ). z ++ R) (sym e)))
    (g (node a x y ∷ ts) (omega arith) ((lt, h.0, h.1.0), h.1.1))

-- no tree is to come
whole : (m k : ℕ) (s : List ℕ) → k ≡ 0 → Begins m k s → IsTree m s
whole m k s e g = same_tree m _ _ (append-nil s) (g [] (sym e) tt)

-- a left part brings one part to come, a right part none
pub to_come-left : (ps : List Part) → to_come (ps ++ Left ∷ []) ≡ to_come ps + 1
to_come-left [] = refl
to_come-left (Left ∷ ps) = ap (λ (n : ℕ). n + 1) (to_come-left ps)
to_come-left (Right ∷ ps) = to_come-left ps

pub to_come-right : (ps : List Part) → to_come (ps ++ Right ∷ []) ≡ to_come ps
to_come-right [] = refl
to_come-right (Left ∷ ps) = ap (λ (n : ℕ). n + 1) (to_come-right ps)
to_come-right (Right ∷ ps) = to_come-right ps

-- behind a part, with the nodes that stay open
pub left_ends : (ps qs rs : List Part) → ps ≡ rs ++ Left ∷ [] → qs ≡ rs ++ Right ∷ [] → Leaves ps (Some Left) qs
left_ends ps qs rs e f =
    (rw f (omega (arith, length-append rs (Right ∷ []))), rw (f, e) (omega (arith, to_come-left rs, to_come-right rs)))

pub right_ends : (ps qs : List Part) → ps ≡ qs ++ Right ∷ [] → Leaves ps (Some Right) qs
right_ends ps qs e = (rw e (omega (arith, length-append qs (Right ∷ []))), rw e (sym (to_come-right qs)))

-- behind a leaf, and behind the opening of a node
read_behind : (m : ℕ) (s : List ℕ) (ps qs : List Part) → Begins m (to_come ps) s → Closes ps qs → ReadTo m s qs
read_behind m s ps [] b h = whole m (to_come ps) s h b
read_behind m s ps (q ∷ qs) b h = subst (λ (n : ℕ). Begins m n s) (sym h) b

read_into : (m k : ℕ) (s : List ℕ) (qs : List Part) → Begins m (k + 1) s → 0 < length qs → to_come qs ≡ k → ReadTo m s qs
read_into m k s [] b l e = absurd (omega arith)
read_into m k s (q ∷ qs) b l e = subst (λ (n : ℕ). Begins m (n + 1) s) (sym e) b

-- a leaf or a node is read, with the open nodes as they were before it and as they are behind it
pub leaf_read_on : (m a : ℕ) (s u : List ℕ) (ps rs qs : List Part) → u ≡ s ++ (0 ∷ a ∷ []) → rs ≡ ps → a < m → Closes rs qs → Begins m (to_come ps + 1) s → ReadTo m u qs
leaf_read_on m a s u ps rs qs e f lt h b =
    read_behind m u rs qs
    (leaf_read m (to_come rs) a s u e lt (subst (λ (x : List Part). Begins m (to_come x + 1) s) (sym f) b)) h

pub node_read_on : (m a : ℕ) (s u : List ℕ) (ps rs qs : List Part) → u ≡ s ++ (1 ∷ a ∷ []) → rs ≡ ps → a < m → 0 < length qs → to_come qs ≡ to_come rs + 1 → Begins m (to_come ps + 1) s → ReadTo m u qs
node_read_on m a s u ps rs qs e f lt l h b =
    read_into m (to_come ps + 1) u qs (node_read m (to_come ps) a s u e lt b) l
    (h ∙ ap (λ (x : List Part). to_come x + 1) f)

-- no node is open, and no word is read yet
pub none_read : (m : ℕ) (s : List ℕ) (ps : List Part) → ps ≡ [] → s ≡ [] → Begins m (to_come ps + 1) s
none_read m s ps e f = rw (e, f) (started m)

-- where a node is open, a part follows
pub still_begins : (m : ℕ) (s : List ℕ) (qs : List Part) → (qs ≡ [] → ⊥) → ReadTo m s qs → Begins m (to_come qs + 1) s
still_begins m s [] n r = absurd (n refl)
still_begins m s (q ∷ qs) n r = r

-- the words so far with an item more, of which the rest stands behind
pub item_behind : (all s rest behind i : List ℕ) → all ≡ s ++ rest → rest ≡ i ++ behind → all ≡ (s ++ i) ++ behind
item_behind all s rest behind i e f = e ∙ (ap (λ (x : List ℕ). s ++ x) f ∙ sym (append_assoc s i behind))
