-- Entering a subtree in a state: the frame of its pattern, which the index finds by state and mark.
-- The words at the subtree's number tell whether it is a leaf or a node, and its mark.
use Rattle.std.proofs.Common.{◌≡◌, ℕ, ◌+◌, ◌*◌, ◌<◌, Bool, List, [], ◌∷◌, length, get_or, Some, None, Option, sym, refl, ap, ◌∙◌, subst, arith}
use Rattle.std.specs.List.{AllByRecursion}
use Rattle.std.proofs.lemmas.List.{append-nil}
use Rattle.std.proofs.lemmas.Nat.{mul-add-lt}
use Rattle.std.proofs.ByRecursion.{All-get_or}
use Rattle.model.specs.Trees.{Tree, leaf, node, Marked}
use Rattle.model.specs.Turns.{Pattern, p_leaf, pattern_place, WellFormedPattern}
use Rattle.model.specs.Rows.{tree_row, pattern_row, patterns_row}
use Rattle.rows.specs.declared.trees.Item.{Item}
use Rattle.rows.specs.declared.trees.Item.TheVariants.{Leaf, Node}
use Rattle.std.specs.Option.{IsSome}
use Rattle.rows.specs.Numbered.{number}
use Rattle.rows.specs.Standing.{Stands}
use Rattle.rows.specs.Jobs.{Begins, Indexed, item_mark, item_place}
use Rattle.rows.specs.Subtrees.{ItemAt, SubtreeAt}
use Rattle.rows.specs.Known.{from_of}
use Rattle.rows.proofs.SubtreeReads.{item_tells, tree_front}
use Rattle.transduce.specs.declared.source.Source.{Source}
use Rattle.transduce.specs.Tasks.{has_parts, pattern_for}
use Rattle.transduce.specs.Framed.{SourceKnown, FrameKnown}

-- one of the patterns that the index notes
noted : (s index : List ℕ) (first i at : ℕ) (ps : List Pattern) → Indexed s index first ps → i < length ps → at ≡ number index (first + i) → Begins s at (pattern_row (get_or ps i (p_leaf 0)))
noted s index first i at ps f h e = subst (λ (z : ℕ). Begins s z (pattern_row (get_or ps i (p_leaf 0)))) (sym e) (f i h)

alone : (s : List ℕ) (at : ℕ) (p : Pattern) → Begins s at (pattern_row p) → Stands s at (at + length (pattern_row p)) (patterns_row (p ∷ []))
alone s at p st = subst (Stands s at (at + length (pattern_row p))) (sym (append-nil (pattern_row p))) st

module _ (src : Source) (k : SourceKnown src) where
  abbrev pub subtree_at : (i : ℕ) → 2 * i < length src.tree.now → SubtreeAt (from_of src.job) src.job.places.marks src.tree.now i (number src.ends.now i) (get_or k.kinds i 0)
  subtree_at i h = k.tree.subtrees i (omega arith) h

  pub item_within : (i : ℕ) → 2 * i < length src.tree.now → 2 * i + 1 < length src.tree.now
  item_within i h = let x = subtree_at i h in omega (arith, (tree_front src.tree.now (2 * i) x.tree _ x.stands.words).0)

  pub some_item : (i : ℕ) → 2 * i < length src.tree.now → (r : Option Item) → ItemAt src.tree.now i r → IsSome r
  some_item i h None absent = let x = subtree_at i h in absurd (absent x.tree _ tt x.stands.words)
  some_item i h (Some y) st = refl

  pub mark_below : (i : ℕ) (item : Item) → 2 * i < length src.tree.now → ItemAt src.tree.now i (Some item) → item_mark item < src.job.places.marks
  mark_below i (Leaf a) h st =
      let x = subtree_at i h in
      subst (Marked src.job.places.marks) (item_tells src.tree.now i (Leaf a) x.tree _ st x.stands.words) x.marked
  mark_below i (Node a) h st =
      let x = subtree_at i h in
      let t = item_tells src.tree.now i (Node a) x.tree _ st x.stands.words in
      (subst (Marked src.job.places.marks) t.2 x.marked).0

  -- the pattern for a state and a mark lies in the list
  below : (q a : ℕ) → q < src.job.places.turn.states → a < src.job.places.marks → q * src.job.places.marks + a < k.job.turns.states * src.job.places.marks
  below q a p h =
      let same : k.job.turns.states * src.job.places.marks ≡ src.job.places.turn.states * src.job.places.marks = ap (λ (n : ℕ). n * src.job.places.marks) k.job.states in
      omega (arith, mul-add-lt q src.job.places.marks a src.job.places.turn.states p h)

  formed : (parts : Bool) (ps : List Pattern) (i : ℕ) → i < length ps → AllByRecursion (WellFormedPattern src.job.places.marks k.job.turns.states parts) ps
      → WellFormedPattern src.job.places.marks src.job.places.turn.states parts (get_or ps i (p_leaf 0))
  formed parts ps i h all =
      subst (λ (n : ℕ). WellFormedPattern src.job.places.marks n parts (get_or ps i (p_leaf 0))) k.job.states
      (All-get_or (WellFormedPattern src.job.places.marks k.job.turns.states parts) ps i (p_leaf 0) h all)

  -- the frame of one of the turn's patterns
  entered : (i at first place : ℕ) (ps : List Pattern) (x : Tree) → Indexed src.job.words.now src.job.index.now first ps → place < length ps → at ≡ number src.job.index.now (first + place)
      → AllByRecursion (WellFormedPattern src.job.places.marks k.job.turns.states (has_parts x)) ps → Marked src.job.places.marks x → Begins src.tree.now (2 * i) (tree_row x)
      → FrameKnown src k (record { node = i; at = at; count = 1 }) (record { tree = x; patterns = get_or ps place (p_leaf 0) ∷ [] })
  entered i at first place ps x places inside e all h st = record {
    marked = h;
    subtree = st;
    end = at + length (pattern_row (get_or ps place (p_leaf 0)));
    stands = alone src.job.words.now at (get_or ps place (p_leaf 0)) (noted src.job.words.now src.job.index.now first place at ps places inside e);
    well_formed = (formed (has_parts x) ps place inside all, tt);
    counted = refl;
    some = omega arith;
  }

  abbrev Enters : ℕ → ℕ → ℕ → Tree → Type 0
  Enters i at q x = FrameKnown src k (record { node = i; at = at; count = 1 }) (record { tree = x; patterns = pattern_for src.job.places.marks k.job.turns x q ∷ [] })

  pub enter_item : (i q at : ℕ) (item : Item) → q < src.job.places.turn.states → at ≡ number src.job.index.now (item_place src.job.places item q) → ItemAt src.tree.now i (Some item)
      → (x : Tree) → Marked src.job.places.marks x → Begins src.tree.now (2 * i) (tree_row x) → Enters i at q x
  enter_item i q at (Leaf a) p e item x h st =
      let is_leaf : x ≡ leaf a = item_tells src.tree.now i (Leaf a) x _ item st.words in
      let w = k.job.rows.well_formed.turns in
      let place = pattern_place src.job.places.marks q a in
      let h' : a < src.job.places.marks = subst (Marked src.job.places.marks) is_leaf h in
      let inside : place < length k.job.turns.on_leaf = omega (arith, w.leaf_count, below q a p h') in
      let from_zero : at ≡ number src.job.index.now (0 + place) = e ∙ ap (number src.job.index.now) {x = place} (omega arith) in
      subst (Enters i at q) (sym is_leaf)
      (entered i at 0 place k.job.turns.on_leaf (leaf a) k.job.leaf_places inside from_zero w.leaf_patterns h' (subst (λ (y : Tree). Begins src.tree.now (2 * i) (tree_row y)) is_leaf st))
  enter_item i q at (Node a) p e item x h st =
      let tells = item_tells src.tree.now i (Node a) x _ item st.words in
      let w = k.job.rows.well_formed.turns in
      let place = pattern_place src.job.places.marks q a in
      let h' = subst (Marked src.job.places.marks) tells.2 h in
      let inside : place < length k.job.turns.on_node = omega (arith, w.node_count, below q a p h'.0) in
      subst (Enters i at q) (sym tells.2)
      (entered i at (src.job.places.turn.states * src.job.places.marks) place k.job.turns.on_node (node a tells.0 tells.1) k.job.node_places inside e w.node_patterns h' (subst (λ (y : Tree). Begins src.tree.now (2 * i) (tree_row y)) tells.2 st))
