-- What becomes of a tree that comes up: one class too many, a new row, a better tree in its row, or nothing new since its
-- row has a tree that is not greater. Rows are compared by their links, which is the order of trees.
use Rattle.std.proofs.Common.{◌≡◌, ℕ, ◌+◌, ◌<◌, ◌≤◌, ◌⊎◌, List, length, sym, ap, ◌∙◌, subst, inl, inr, arith, Option, None, Some, IsSomeAnd}
use native.Mathlib.Decide.{dec_lt}
use Rattle.model.specs.Trees.{Tree, Marked, Less}
use Rattle.automata.specs.Automata.{TreeAutomaton, sig, Alike}
use Rattle.automata.specs.Classes.{at, Le, MoreThan}
use Rattle.automata.specs.Frontier.{Covered}
use Rattle.automata.specs.Links.{Link, Precedes}
use Rattle.automata.proofs.Growing.{one_too_many, settled_le}
use Rattle.automata.proofs.Places.{precedes_less, ties_same}
use Rattle.table.specs.declared.Table.{Table}
use Rattle.table.specs.Tables.{sig_at, tree_at, rank_at, Put, NotAfter}
use Rattle.table.specs.Chains.{Chains, Has, Lacks, Located}
use Rattle.reach.specs.Searching.{State, Describes, Grown}
use Rattle.reach.proofs.Placing.{put_within, put_end}
use Rattle.reach.proofs.Rewriting.{put_grown}

module _ (A : TreeAutomaton) (S : List Tree) (t : Table) (s : State A S t) where
  -- links tell the order of trees
  pub before_less : (k h : Link) (x y : Tree) (key key' : List ℕ) → Describes A S key k x → Describes A S key' h y → Precedes k h → Less x y
  before_less k h x y key key' c d u = precedes_less S s.settled_trees.order k h x y c.sized d.sized c.linked d.linked u

  pub not_after_le : (k h : Link) (x y : Tree) (key key' : List ℕ) → Describes A S key k x → Describes A S key' h y → NotAfter k h → Le x y
  not_after_le k h x y key key' c d (inl u) = inl (before_less k h x y key key' c d u)
  not_after_le k h x y key key' c d (inr u) = inr (ties_same S s.settled_trees.order k h x y c.linked d.linked u)

  -- each row describes its tree
  pub row_describes : (k : ℕ) → k < length s.trees → Describes A S (sig_at t k) (tree_at t k) (at s.trees k)
  row_describes k h = record { marked = s.marks k h; signed = sym (s.signed k h); sized = s.sized k h; linked = s.linked k h }

  -- a settled row has the least tree of its class
  pub settled_covers : (k : ℕ) → k < length s.trees → 0 < rank_at t k → (x : Tree) → Marked A.marks x → sig_at t k ≡ sig A x → Covered A s.trees x
  settled_covers k h u x m e =
      let o = s.rank_of k u in
      let r = s.row_of o.rank o.within in
      let same : at S o.rank ≡ at s.trees k = sym r.stands ∙ ap (at s.trees) o.is in
      let alike : Alike A (at s.trees k) x = sym (s.signed k h) ∙ e in
      record {
        place = k;
        within = h;
        alike = alike;
        le = subst (λ (y : Tree). Le y x) same (settled_le A S s.settled_trees o.rank x o.within m (ap (sig A) same ∙ alike));
      }

  -- and so the row found for a signature
  pub settled_found : (key : List ℕ) (row : Option ℕ) → Located t key row → IsSomeAnd row (λ k. 0 < rank_at t k)
      → (x : Tree) → Marked A.marks x → key ≡ sig A x → Covered A s.trees x
  settled_found key None l u x m e = absurd u
  settled_found key (Some k) l u x m e = settled_covers k (omega (arith, s.rows, l.within)) u x m (l.signed ∙ e)

  -- a row beyond those in use has no rank
  beyond : (k : ℕ) → length s.trees ≤ k → rank_at t k ≡ 0
  beyond k h =
      elim (dec_lt 0 (rank_at t k)) [
        | yes u ↦ let o = s.rank_of k u in absurd (omega (arith, o.is, (s.row_of o.rank o.within).within))
        | no n ↦ omega arith
      ]

  module _ (key : List ℕ) (link : Link) (x : Tree) (d : Describes A S key link x) where
    module _ (lacks : Lacks t key) where
      lacking : (i : ℕ) → i < length s.trees → Alike A (at s.trees i) x → ⊥
      lacking i h q = lacks i (omega (arith, s.rows)) (s.signed i h ∙ (q ∙ d.signed))

      pub too_many : t.count ≡ t.shape.most → MoreThan A t.shape.most
      too_many full =
          one_too_many A s.trees x t.shape.most (omega (arith, s.rows)) s.marks s.apart d.marked (λ g. lacking g.place g.within g.alike)

      pub new_row : (new : Table) → Put t.count key link t new → new.count ≡ t.count + 1 → Chains new → Grown A S t new s (λ us. Covered A us x)
      new_row new p count chains =
          let end : t.count ≡ length s.trees = sym s.rows in
          put_grown A S t new s t.count x key link (omega arith) (beyond t.count (omega arith)) d
          (λ i h q. absurd (lacking i h q)) p (put_end s.trees t.count x end ∙ omega (arith, s.rows, count)) chains (λ h. absurd (omega arith))

    module _ (k : ℕ) (has : Has t key k) where
      here : k < length s.trees
      here = omega (arith, s.rows, has.within)

      alike_here : Alike A x (at s.trees k)
      alike_here = d.signed ∙ (sym has.signed ∙ s.signed k here)

      pub better : (new : Table) → rank_at t k ≡ 0 → Precedes link (tree_at t k) → Put k (sig_at t k) link t new → new.count ≡ t.count → Chains new
          → Grown A S t new s (λ us. Covered A us x)
      better new z u p count chains =
          put_grown A S t new s k x (sig_at t k) link (omega (arith, here)) z
          (record { marked = d.marked; signed = d.signed ∙ sym has.signed; sized = d.sized; linked = d.linked })
          (λ i v q. s.apart i k v here (q ∙ alike_here)) p (put_within s.trees k x here ∙ (s.rows ∙ sym count)) chains
          (λ v. (inl (before_less link (tree_at t k) x (at s.trees k) key (sig_at t k) d (row_describes k here) u), alike_here))

      pub nothing_new : (0 < rank_at t k) ⊎ NotAfter (tree_at t k) link → Covered A s.trees x
      nothing_new (inl u) = settled_covers k here u x d.marked (has.signed ∙ sym d.signed)
      nothing_new (inr u) = record {
        place = k;
        within = here;
        alike = sym alike_here;
        le = not_after_le (tree_at t k) link (at s.trees k) x (sig_at t k) key (row_describes k here) d u;
      }

  pub unchanged : (P : List Tree → Type 0) → P s.trees → Grown A S t t s P
  unchanged P p = record { state = s; keeps = λ y c. c; brings = p }
