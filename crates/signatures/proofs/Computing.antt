-- The automaton of a job computes signatures: the kind of a filled pattern is found from the kinds of its parts, by induction
-- on the pattern, and the state of a tree from those of its parts, by induction on the tree.
use Rattle.std.proofs.Common.{◌≡◌, ℕ, zero, suc, ◌+◌, ◌<◌, Bool, true, false, List, [], ◌∷◌, map, get_or, sym, refl, ap, ◌∙◌, arith}
use Rattle.std.specs.List.{range_with_len, AllByRecursion}
use Rattle.std.proofs.lemmas.List.FromFn.{get_or-map-range_with_len}
use Rattle.model.specs.Trees.{Tree, leaf, node}
use Rattle.model.specs.Types.{TreeType, kind}
use Rattle.model.specs.Turns.{Side, left, right, Pattern, p_leaf, p_node, p_part, filled, of_parts, no_part, leaf_pattern, node_pattern, pattern_place, WellFormedPattern}
use Rattle.model.specs.Jobs.{Job, made_by, Alike, WellFormedJob}
use Rattle.automata.specs.Automata.{sig}
use Rattle.signatures.specs.Signatures.{signature, pattern_kind, state_kind, part_kind, no_part_kind, job_automaton}

filled_kind : (t : TreeType) (part : ℕ → Side → Tree) (kinds : ℕ → Side → ℕ) (m n : ℕ) (parts : Bool) (p : Pattern) → WellFormedPattern m n parts p
    → ((q : ℕ) (s : Side) → q < n → kind t (part q s) ≡ kinds q s) → kind t (filled part p) ≡ pattern_kind t kinds p
filled_kind t part kinds m n parts (p_leaf a) w f = refl
filled_kind t part kinds m n parts (p_node a x y) w f =
    let e = filled_kind t part kinds m n parts x w.1 f in
    let g = filled_kind t part kinds m n parts y w.2 f in
    cc
filled_kind t part kinds m n parts (p_part q s) w f = f q s w.0

-- a pattern of a table, or the one that stands for what is not there
pattern_fits : (m n : ℕ) (parts : Bool) (ps : List Pattern) (i : ℕ) → 0 < m → AllByRecursion (WellFormedPattern m n parts) ps → WellFormedPattern m n parts (get_or ps i (p_leaf 0))
pattern_fits m n parts [] i h w = h
pattern_fits m n parts (p ∷ ps) zero h w = w.0
pattern_fits m n parts (p ∷ ps) (suc i) h w = pattern_fits m n parts ps i h w.1

-- equal at each state
listed_same : (f g : ℕ → ℕ) (n a : ℕ) → ((q : ℕ) → q < a + n → f q ≡ g q) → map f (range_with_len a n) ≡ map g (range_with_len a n)
listed_same f g zero a h = refl
listed_same f g (suc n) a h =
    let e : f a ≡ g a = h a (omega arith) in
    let t = listed_same f g n (a + 1) (λ q l. h q (omega arith)) in
    cc

pub kind_of_state : (j : Job) (x : Tree) (q : ℕ) → q < j.turn.states → state_kind (signature j x) q ≡ kind j.to (made_by j x q)
kind_of_state j x q h = place (q + 1) q (omega arith) h
  where
    place : (i q : ℕ) → i ≡ suc q → q < j.turn.states → get_or (signature j x) i 0 ≡ kind j.to (made_by j x q)
    place i q e h = ap (λ (k : ℕ). get_or (signature j x) k 0) e ∙ get_or-map-range_with_len (λ q. kind j.to (made_by j x q)) 0 j.turn.states q q 0 h (omega arith)

module _ (j : Job) (w : WellFormedJob j) where
  some_mark : 0 < j.marks
  some_mark = omega (arith, w.some_mark)

  part_kinds : (l r : Tree) (q : ℕ) (s : Side) → q < j.turn.states
      → kind j.to (of_parts (made_by j l) (made_by j r) q s) ≡ part_kind (signature j l) (signature j r) q s
  part_kinds l r q left h = sym (kind_of_state j l q h)
  part_kinds l r q right h = sym (kind_of_state j r q h)

  on_leaf_signs : (a : ℕ) → (job_automaton j).on_leaf a ≡ signature j (leaf a)
  on_leaf_signs a =
      ap (λ (xs : List ℕ). kind j.from (leaf a) ∷ xs)
      (listed_same _ _ j.turn.states 0 (λ q h. sym (filled_kind j.to no_part (no_part_kind j.to) j.marks j.turn.states false (leaf_pattern j.marks j.turn q a)
      (pattern_fits j.marks j.turn.states false j.turn.on_leaf (pattern_place j.marks q a) some_mark w.turns.leaf_patterns) (λ q s h. refl))))

  on_node_signs : (a : ℕ) (l r : Tree) → (job_automaton j).on_node a (signature j l) (signature j r) ≡ signature j (node a l r)
  on_node_signs a l r =
      ap (λ (xs : List ℕ). kind j.from (node a l r) ∷ xs)
      (listed_same _ _ j.turn.states 0 (λ q h. sym (filled_kind j.to (of_parts (made_by j l) (made_by j r)) (part_kind (signature j l) (signature j r)) j.marks j.turn.states true (node_pattern j.marks j.turn q a)
      (pattern_fits j.marks j.turn.states true j.turn.on_node (pattern_place j.marks q a) some_mark w.turns.node_patterns) (part_kinds l r))))

  pub computed : (x : Tree) → sig (job_automaton j) x ≡ signature j x
  computed (leaf a) = on_leaf_signs a
  computed (node a l r) = by_both ((job_automaton j).on_node a) _ _ _ _ (computed l) (computed r) ∙ on_node_signs a l r
    where
      by_both : (f : List ℕ → List ℕ → List ℕ) (s s' t t' : List ℕ) → s ≡ s' → t ≡ t' → f s t ≡ f s' t'
      by_both f s s' t t' e g = cc

-- alike is having one signature

pub alike_signed : (j : Job) (x y : Tree) → Alike j x y → signature j x ≡ signature j y
alike_signed j x y h =
    let e = h.same_kind in
    let t = listed_same (λ q. kind j.to (made_by j x q)) (λ q. kind j.to (made_by j y q)) j.turn.states 0 (λ q l. h.same_made q (omega arith)) in
    cc

pub signed_alike : (j : Job) (x y : Tree) → signature j x ≡ signature j y → Alike j x y
signed_alike j x y e = record {
  same_kind = ap (λ (s : List ℕ). get_or s 0 0) e;
  same_made = λ q h. sym (kind_of_state j x q h) ∙ (ap (λ (s : List ℕ). state_kind s q) e ∙ kind_of_state j y q h);
}
