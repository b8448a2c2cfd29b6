-- The two calls together. Rows say one job, so that both calls speak of the same; and what a well-formed turn makes of a tree
-- has marks of the job, by induction on the pattern and on the tree.
use Rattle.std.proofs.Common.{◌≡◌, ℕ, ◌*◌, ◌<◌, Bool, true, false, get_or, sym, subst, arith}
use Rattle.std.proofs.lemmas.Bool.{false≢true}
use Rattle.std.proofs.lemmas.Nat.{mul-add-lt}
use Rattle.std.proofs.ByRecursion.{All-get_or}
use Rattle.model.specs.Trees.{Tree, leaf, node, Marked}
use Rattle.model.specs.Turns.{Side, left, right, Pattern, p_leaf, p_node, p_part, Turn, filled, of_parts, no_part, made, pattern_place, WellFormedPattern, WellFormedTurn}
use Rattle.model.specs.Jobs.{Job, Comes, Good, result}
use Rattle.model.proofs.Prefix.{row_laws}
use Rattle.turned.specs.Judging.{CallsTogether}

filled_marked : (m n : ℕ) (parts : Bool) (part : ℕ → Side → Tree) → (parts ≡ true → (q : ℕ) (s : Side) → q < n → Marked m (part q s))
    → (p : Pattern) → WellFormedPattern m n parts p → Marked m (filled part p)
filled_marked m n parts part f (p_leaf a) w = w
filled_marked m n parts part f (p_node a x y) w = (w.0, filled_marked m n parts part f x w.1, filled_marked m n parts part f y w.2)
filled_marked m n parts part f (p_part q s) w = f w.1 q s w.0

module _ (m : ℕ) (t : Turn) (w : WellFormedTurn m t) where
  place_within : (q a : ℕ) → q < t.states → a < m → pattern_place m q a < t.states * m
  place_within q a h k = omega (arith, mul-add-lt q m a t.states h k)

  both_marked : (l r : ℕ → Tree) → ((q : ℕ) → q < t.states → Marked m (l q)) → ((q : ℕ) → q < t.states → Marked m (r q)) → (q : ℕ) (s : Side) → q < t.states → Marked m (of_parts l r q s)
  both_marked l r f g q left h = f q h
  both_marked l r f g q right h = g q h

  made_marked : (x : Tree) → Marked m x → (q : ℕ) → q < t.states → Marked m (made m t x q)
  made_marked (leaf a) k q h =
      filled_marked m t.states false no_part (λ e. absurd (false≢true e)) (get_or t.on_leaf (pattern_place m q a) (p_leaf 0))
      (All-get_or (WellFormedPattern m t.states false) t.on_leaf (pattern_place m q a) (p_leaf 0) (omega (arith, w.leaf_count, place_within q a h k)) w.leaf_patterns)
  made_marked (node a l r) k q h =
      filled_marked m t.states true (of_parts (made m t l) (made m t r)) (λ _. both_marked (made m t l) (made m t r) (made_marked l k.1) (made_marked r k.2)) (get_or t.on_node (pattern_place m q a) (p_leaf 0))
      (All-get_or (WellFormedPattern m t.states true) t.on_node (pattern_place m q a) (p_leaf 0) (omega (arith, w.node_count, place_within q a h k.0)) w.node_patterns)

pub judged_and_turned : CallsTogether
judged_and_turned s t t' a o o' n v w k judged done =
    let g = done.says in
    let j = g.taken.job in
    let fit = judged.says in
    let same : fit.judging.job ≡ j = row_laws.one_job s fit.judging.job j fit.judging.rows g.taken.rows in
    let fits = subst (λ (i : Job). (x : Tree) → Comes i x → Good i x) same fit.fits in
    record {
      job = j;
      rows = g.taken.rows;
      tree = result j g.taken.tree;
      row = sym g.written;
      marked = made_marked j.marks j.turn g.taken.rows.well_formed.turns g.taken.tree g.taken.comes.marked 0 (omega (arith, g.taken.rows.well_formed.turns.some_state));
      of_type = fits g.taken.tree g.taken.comes;
    }
