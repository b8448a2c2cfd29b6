-- The start of the search, the settling of the least open row, and the end. A row that is open and least by its link has
-- the least tree of all classes that are not settled, since no such tree is less than all open ones.
use Rattle.std.proofs.Common.{◌≡◌, ℕ, ◌+◌, ◌<◌, ◌≢◌, List, [], length, get_or, sym, ap, ◌∙◌, subst, arith}
use native.Mathlib.Decide.{ℕ_discrete, dec_lt}
use Rattle.std.proofs.lemmas.List.{get_or-set_same, get_or-set_other, length_push}
use Rattle.model.specs.Trees.{Tree, leaf, node, Marked}
use Rattle.automata.specs.Automata.{TreeAutomaton, sig}
use Rattle.automata.specs.Classes.{at, Le, Has}
use Rattle.automata.specs.Frontier.{Covered, Keeps, LeavesCovered, NodesCovered}
use Rattle.automata.specs.Links.{Link, Placed, Linked}
use Rattle.automata.proofs.Comparing.{le_le}
use Rattle.automata.proofs.Pushing.{push, at_before, at_last}
use Rattle.automata.proofs.Growing.{none_settled, settle, open_below, all_settled}
use Rattle.table.specs.declared.Table.{Table}
use Rattle.table.specs.Tables.{room_of, tree_at, rank_at, ranked_at, Empty, LeastOpen, Settles}
use Rattle.table.specs.Chains.{Chains}
use Rattle.reach.specs.Searching.{RowOfRank, RankOfRow, State, Searching, PairsCovered}
use Rattle.reach.specs.Promise.{AllFound}
use Rattle.reach.proofs.TakingUp.{row_describes, not_after_le}
use Rattle.reach.proofs.Ranks.{few_settled, open_unranked, one_open}
use Rattle.reach.proofs.Steps.{Progress}

-- the search between two turns: all leaves, and all nodes over settled trees, have been offered
pub record Turn (A : TreeAutomaton) (t : Table) : Type 0 where
  pub settled_list : List Tree
  pub state : State A settled_list t
  pub leaves : LeavesCovered A state.trees
  pub nodes : NodesCovered A settled_list state.trees

-- The start.

pub no_rows : (A : TreeAutomaton) (t : Table) → Empty t → Chains t → State A [] t
no_rows A t e chains = record {
  trees = [];
  rows = sym e.no_row;
  ranks = sym e.none_settled;
  room = room_of t;
  chains = chains;
  settled_trees = none_settled A;
  marks = λ i h. absurd (omega arith);
  apart = λ i k h. absurd (omega arith);
  signed = λ k h. absurd (omega arith);
  sized = λ k h. absurd (omega arith);
  linked = λ k h. absurd (omega arith);
  row_of = λ r h. absurd (omega arith);
  rank_of = λ k h. absurd (omega (arith, e.no_rank k));
}

pub first_turn : (A : TreeAutomaton) (old new : Table) → State A [] old → Progress A old new (λ S us. LeavesCovered A us) → Turn A new
first_turn A old new s f =
    let g = f [] s in
    record { settled_list = []; state = g.state; leaves = g.brings; nodes = λ a p q ha hp. absurd (omega arith) }

-- Links into a list hold into a longer one.

placed_more : (S : List Tree) (x : Tree) (p : ℕ) (y : Tree) → Placed S p y → Placed (push S x) p y
placed_more S x p y a = record {
  place = a.place;
  counted = a.counted;
  within = omega (arith, a.within, length_push S x);
  stands = at_before S x a.place a.within ∙ a.stands;
}

linked_more : (S : List Tree) (x : Tree) (k : Link) (y : Tree) → Linked S k y → Linked (push S x) k y
linked_more S x k (leaf a) e = e
linked_more S x k (node a l r) e = (e.0, placed_more S x _ l e.1, placed_more S x _ r e.2)

-- The least open row is settled.

module _ (A : TreeAutomaton) (old : Table) (u : Turn A old) where
  abbrev S : List Tree
  S = u.settled_list

  abbrev s : State A S old
  s = u.state

  -- a row with a rank has a settled class
  ranked_has : (k : ℕ) → k < length s.trees → 0 < rank_at old k → Has A S (at s.trees k)
  ranked_has k h z =
      let o = s.rank_of k z in
      record { place = o.rank; within = o.within; alike = ap (sig A) (sym (s.row_of o.rank o.within).stands ∙ ap (at s.trees) o.is) }

  -- and an open row has none
  open_new : (k : ℕ) → k < length s.trees → rank_at old k ≡ 0 → Has A S (at s.trees k) → ⊥
  open_new k h z g =
      let r = s.row_of g.place g.within in
      open_unranked A S old s k z g.place g.within (s.apart (ranked_at old g.place) k r.within h (ap (sig A) r.stands ∙ g.alike))

  pub rank_free : (k : ℕ) → LeastOpen old old.count k → old.settled < old.shape.most
  rank_free k least = omega (arith, one_open A S old s k least.within least.unranked, old.few_rows)

  pub finished : ((k : ℕ) → k < old.count → 0 < rank_at old k) → AllFound A old
  finished f = record {
    trees = S;
    classes = all_settled A S s.trees s.settled_trees u.leaves u.nodes (λ k h. ranked_has k h (f k (omega (arith, s.rows))));
    state = s;
    few = omega (arith, few_settled A S old s, old.few_rows);
    all_ranked = f;
  }

  module _ (new : Table) (k : ℕ) (least : LeastOpen old old.count k) (p : Settles k old new) (chains : Chains new) where
    k_within : k < length s.trees
    k_within = omega (arith, s.rows, least.within)

    abbrev x : Tree
    x = at s.trees k

    low : (y : Tree) → Marked A.marks y → (Has A S y → ⊥) → Le x y
    low y m n =
        let o = open_below A S s.trees s.settled_trees u.leaves u.nodes y m n in
        let z : rank_at old o.place ≡ 0 = unranked o.place o.within o.new in
        let below : Le x (at s.trees o.place) = not_after_le A S old s _ _ _ _ _ _ (row_describes A S old s k k_within) (row_describes A S old s o.place o.within) (least.low o.place (omega (arith, s.rows, o.within)) z) in
        le_le x (at s.trees o.place) y below o.le
      where
        unranked : (j : ℕ) → j < length s.trees → (Has A S (at s.trees j) → ⊥) → rank_at old j ≡ 0
        unranked j h n = elim (dec_lt 0 (rank_at old j)) [ yes z ↦ absurd (n (ranked_has j h z)) | no z ↦ omega arith ]

    fewer : old.settled < old.count
    fewer = one_open A S old s k least.within least.unranked

    rank_here : rank_at new k ≡ old.settled + 1
    rank_here = ap (λ (xs : List ℕ). get_or xs k 0) p.ranks_are ∙ get_or-set_same _ k (old.settled + 1) 0 (omega (arith, least.within, old.few_rows, old.for_ranks))

    rank_other : (j : ℕ) → j ≢ k → rank_at new j ≡ rank_at old j
    rank_other j n = ap (λ (xs : List ℕ). get_or xs j 0) p.ranks_are ∙ get_or-set_other _ k j (old.settled + 1) 0 n

    row_here : ranked_at new old.settled ≡ k
    row_here = ap (λ (xs : List ℕ). get_or xs old.settled 0) p.order_is ∙ get_or-set_same _ old.settled k 0 (omega (arith, fewer, old.few_rows, old.for_order))

    row_other : (r : ℕ) → r ≢ old.settled → ranked_at new r ≡ ranked_at old r
    row_other r n = ap (λ (xs : List ℕ). get_or xs r 0) p.order_is ∙ get_or-set_other _ old.settled r k 0 n

    rows_then : (r : ℕ) → r < length (push S x) → RowOfRank (push S x) s.trees new r
    rows_then r h =
        elim (dec_lt r (length S)) [
          | yes v ↦
              let g = s.row_of r v in
              let e = row_other r (λ q. omega (arith, s.ranks)) in
              record {
                within = omega (arith, e, g.within);
                stands = ap (at s.trees) e ∙ (g.stands ∙ sym (at_before S x r v));
                known = ap (rank_at new) e ∙ (rank_other (ranked_at old r) (open_unranked A S old s k least.unranked r v) ∙ g.known);
              }
          | no v ↦
              let last : r ≡ length S = omega (arith, length_push S x) in
              let e : ranked_at new r ≡ k = ap (ranked_at new) (last ∙ s.ranks) ∙ row_here in
              record {
                within = omega (arith, e, k_within);
                stands = ap (at s.trees) e ∙ sym (ap (at (push S x)) last ∙ at_last S x);
                known = ap (rank_at new) e ∙ (rank_here ∙ omega (arith, s.ranks));
              }
        ]

    ranks_then : (j : ℕ) → 0 < rank_at new j → RankOfRow (push S x) new j
    ranks_then j h =
        elim (ℕ_discrete j k) [
          | yes e ↦ record { rank = old.settled; within = omega (arith, length_push S x, s.ranks); is = row_here ∙ sym e }
          | no n ↦
              let o = s.rank_of j (omega (arith, rank_other j n, h)) in
              record {
                rank = o.rank;
                within = omega (arith, length_push S x, o.within);
                is = row_other o.rank (λ q. omega (arith, s.ranks, o.within)) ∙ o.is;
              }
        ]

    pub settled_state : State A (push S x) new
    settled_state = record {
      trees = s.trees;
      rows = s.rows ∙ sym p.same_count;
      ranks = omega (arith, length_push S x, s.ranks, p.settled_is);
      room = room_of new;
      chains = chains;
      settled_trees = settle A S s.settled_trees x (s.marks k k_within) (open_new k k_within least.unranked) low;
      marks = s.marks;
      apart = s.apart;
      signed = λ j h. p.same_sigs j ∙ s.signed j h;
      sized = λ j h. ap (λ (l : Link). l.size) (p.same_trees j) ∙ s.sized j h;
      linked = λ j h. subst (λ (l : Link). Linked (push S x) l (at s.trees j)) (sym (p.same_trees j)) (linked_more S x (tree_at old j) (at s.trees j) (s.linked j h));
      row_of = rows_then;
      rank_of = ranks_then;
    }

    pub settled_searching : Searching A new
    settled_searching = record { settled_list = push S x; state = settled_state }

    nodes_then : (us : List Tree) → Keeps A s.trees us → PairsCovered A (push S x) us (length S) → NodesCovered A (push S x) us
    nodes_then us keeps pairs a i j ha hi hj =
        elim (dec_lt i (length S)) [
          | no n ↦
              let e : length S ≡ i = omega (arith, length_push S x) in
              subst (λ (m : ℕ). Covered A us (node a (at (push S x) m) (at (push S x) j))) e (pairs a j ha (omega (arith, length_push S x))).0
          | yes v ↦ elim (dec_lt j (length S)) [
            | no n ↦
                let e : length S ≡ j = omega (arith, length_push S x) in
                subst (λ (m : ℕ). Covered A us (node a (at (push S x) i) (at (push S x) m))) e (pairs a i ha (omega (arith, length_push S x))).1
            | yes w ↦ subst (Covered A us) (nodes_same a i j v w) (keeps _ (u.nodes a i j ha v w))
          ]
        ]
      where
        nodes_same : (a i j : ℕ) → i < length S → j < length S → node a (at S i) (at S j) ≡ node a (at (push S x) i) (at (push S x) j)
        nodes_same a i j v w = let e = at_before S x i v in let f = at_before S x j w in cc

    pub next_turn : (next : Table) → Progress A new next (λ T us. PairsCovered A T us old.settled) → Turn A next
    unfolding settled_state
    next_turn next f =
        let g = f (push S x) settled_state in
        record {
          settled_list = push S x;
          state = g.state;
          leaves = λ a h. g.keeps _ (u.leaves a h);
          nodes = nodes_then g.state.trees g.keeps (subst (PairsCovered A (push S x) g.state.trees) (sym s.ranks) g.brings);
        }
