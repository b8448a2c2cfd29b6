-- A row that is not settled, or a new one, gets another tree of its class: the table is then that of the search with this
-- tree in its place, and it covers what it covered before if the tree is not greater than the one it replaces.
use Rattle.std.proofs.Common.{◌≡◌, ℕ, ◌<◌, ◌≤◌, List, length, get_or, sym, refl, ap, ◌∙◌, subst, inr, arith}
use native.Mathlib.Decide.{ℕ_discrete}
use Rattle.model.specs.Trees.{Tree, size, Marked}
use Rattle.automata.specs.Automata.{TreeAutomaton, sig, Alike}
use Rattle.automata.specs.Classes.{at, Le, Apart}
use Rattle.automata.specs.Frontier.{Covered, Keeps}
use Rattle.automata.specs.Links.{Link, Linked}
use Rattle.automata.proofs.Comparing.{le_le}
use Rattle.table.specs.declared.Table.{Table}
use Rattle.table.specs.Tables.{room_of, sig_at, tree_at, rank_at, ranked_at, Put}
use Rattle.table.specs.Chains.{Chains}
use Rattle.reach.specs.Searching.{RowOfRank, RankOfRow, State, Describes, Grown}
use Rattle.reach.proofs.Placing.{put, at_put, at_others, put_longer, put_all}

module _ (A : TreeAutomaton) (S : List Tree) (old new : Table) (s : State A S old) (k : ℕ) (x : Tree) (key : List ℕ) (link : Link)
    (within : k ≤ length s.trees) (unranked : rank_at old k ≡ 0) (d : Describes A S key link x)
    (only : (i : ℕ) → i < length s.trees → Alike A (at s.trees i) x → i ≡ k) (p : Put k key link old new) where
  -- the trees then
  abbrev us : List Tree
  us = put s.trees k x

  rank_same : (j : ℕ) → rank_at new j ≡ rank_at old j
  rank_same j = ap (λ (xs : List ℕ). get_or xs j 0) p.same_ranks

  order_same : (r : ℕ) → ranked_at new r ≡ ranked_at old r
  order_same r = ap (λ (xs : List ℕ). get_or xs r 0) p.same_order

  us_apart : Apart A us
  us_apart i j a b =
      put_all s.trees k x within (λ i y. Alike A y (at us j) → i ≡ j)
      (λ i u n. put_all s.trees k x within (λ j y. Alike A (at s.trees i) y → i ≡ j) (λ j v m. s.apart i j u v) (λ e. only i u e) j b)
      (put_all s.trees k x within (λ j y. Alike A x y → k ≡ j) (λ j v n e. sym (only j v (sym e))) (λ _. refl) j b) i a

  -- a settled row is another one
  ranked_other : (r : ℕ) → RowOfRank S s.trees old r → ranked_at old r ≡ k → ⊥
  ranked_other r g e = omega (arith, g.known, unranked, ap (rank_at old) e)

  us_row_of : (r : ℕ) → r < length S → RowOfRank S us new r
  us_row_of r h =
      let g = s.row_of r h in
      let e = order_same r in
      record {
        within = omega (arith, e, g.within, (put_longer s.trees k x within).0);
        stands = ap (at us) e ∙ (at_others s.trees k x (ranked_at old r) g.within (ranked_other r g) ∙ g.stands);
        known = rank_same (ranked_at new r) ∙ (ap (rank_at old) e ∙ g.known);
      }

  us_rank_of : (j : ℕ) → 0 < rank_at new j → RankOfRow S new j
  us_rank_of j h =
      let o = s.rank_of j (omega (arith, rank_same j, h)) in
      record { rank = o.rank; within = o.within; is = order_same o.rank ∙ o.is }

  module _ (rows : length us ≡ new.count) (chains : Chains new) where
    put_state : State A S new
    put_state = record {
      trees = us;
      rows = rows;
      ranks = s.ranks ∙ sym p.same_settled;
      room = room_of new;
      chains = chains;
      settled_trees = s.settled_trees;
      marks = put_all s.trees k x within (λ _ y. Marked A.marks y) (λ i u n. s.marks i u) d.marked;
      apart = us_apart;
      signed = put_all s.trees k x within (λ i y. sig_at new i ≡ sig A y) (λ i u n. p.other_sigs i n ∙ s.signed i u) (p.here_sig ∙ sym d.signed);
      sized = put_all s.trees k x within (λ i y. (tree_at new i).size ≡ size y)
          (λ i u n. ap (λ (l : Link). l.size) (p.other_trees i n) ∙ s.sized i u) (ap (λ (l : Link). l.size) p.here_tree ∙ d.sized);
      linked = put_all s.trees k x within (λ i y. Linked S (tree_at new i) y)
          (λ i u n. subst (λ (l : Link). Linked S l (at s.trees i)) (sym (p.other_trees i n)) (s.linked i u))
          (subst (λ (l : Link). Linked S l x) (sym p.here_tree) d.linked);
      row_of = us_row_of;
      rank_of = us_rank_of;
    }

    put_keeps : (k < length s.trees → Le x (at s.trees k) × Alike A x (at s.trees k)) → Keeps A s.trees us
    put_keeps f y c =
        elim (ℕ_discrete c.place k) [
          | yes e ↦
              let u : k < length s.trees = omega (arith, c.within) in
              let here = at_put s.trees k x within in
              let same : at s.trees c.place ≡ at s.trees k = ap (at s.trees) e in
              record {
                place = k;
                within = (put_longer s.trees k x within).1;
                alike = ap (sig A) here ∙ ((f u).1 ∙ (ap (sig A) (sym same) ∙ c.alike));
                le = subst (λ (t : Tree). Le t y) (sym here) (le_le x (at s.trees k) y (f u).0 (subst (λ (t : Tree). Le t y) same c.le));
              }
          | no n ↦
              let there = at_others s.trees k x c.place c.within n in
              record {
                place = c.place;
                within = omega (arith, c.within, (put_longer s.trees k x within).0);
                alike = ap (sig A) there ∙ c.alike;
                le = subst (λ (t : Tree). Le t y) (sym there) c.le;
              }
        ]

    pub put_grown : (k < length s.trees → Le x (at s.trees k) × Alike A x (at s.trees k)) → Grown A S old new s (λ us. Covered A us x)
    unfolding put_state
    put_grown f = record {
      state = put_state;
      keeps = put_keeps f;
      brings = record {
        place = k;
        within = (put_longer s.trees k x within).1;
        alike = ap (sig A) (at_put s.trees k x within);
        le = inr (at_put s.trees k x within);
      };
    }
