-- Offers one after another. What the trees at hand cover they go on covering, so that steps compose and each loop adds to
-- what was reached; a step that finds one class too many does so for the steps before it.
use Rattle.std.proofs.Common.{◌≡◌, ℕ, ◌+◌, ◌<◌, Result, Ok, Err, IsErrAnd, List, sym, refl, ◌∙◌, subst, arith, below_more}
use Rattle.model.specs.Trees.{Tree, leaf}
use Rattle.automata.specs.Automata.{TreeAutomaton, Alphabet}
use Rattle.automata.specs.Classes.{MoreThan}
use Rattle.automata.specs.Frontier.{Covered, Keeps}
use Rattle.automata.proofs.Growing.{node_by_letters}
use Rattle.automata.proofs.Counting.{counted}
use Rattle.table.specs.declared.Shape.{Shape}
use Rattle.table.specs.declared.Table.{Table}
use Rattle.reach.specs.declared.TooMany.{TooMany}
use Rattle.reach.specs.declared.offers.Search.{Search}
use Rattle.reach.specs.Kept.{Kept}
use Rattle.reach.specs.Promise.{MoreClasses, Finds}
use Rattle.reach.specs.Searching.{State, Searching, Grown, Offered, BothWays, PairsCovered}

-- what two steps keep, and what is kept where nothing was done
module _ {X : Type 0} {a : _} where
  pub kept_then : (old mid new : Search X a) → Kept old mid → Kept mid new → Kept old new
  kept_then old mid new k l = record {
    automaton = l.automaton ∙ k.automaton;
    same_table = l.same_table ∙ k.same_table;
    shape = l.shape ∙ k.shape;
    settled = l.settled ∙ k.settled;
  }

  pub kept_none : (s : Search X a) → Kept s s
  kept_none s = record { automaton = refl; same_table = refl; shape = refl; settled = refl }

-- a step that went well, by what then holds of the settled trees and the trees at hand
abbrev pub Progress : TreeAutomaton → Table → Table → (List Tree → List Tree → Type 0) → Type 0
Progress A old new P = (S : List Tree) (s : State A S old) → Grown A S old new s (P S)

abbrev pub Overflow : TreeAutomaton → Table → Type 0
Overflow A t = (S : List Tree) → State A S t → MoreThan A t.shape.most

-- What is said of the automaton that a later search has is said of the same automaton.
module _ (A B : TreeAutomaton) (same : B ≡ A) where
  pub searching_same : (t : Table) → Searching A t → Searching B t
  searching_same t = subst (λ (C : TreeAutomaton). Searching C t) (sym same)

  pub offered_same : (old new : Table) (P : TreeAutomaton → List Tree → List Tree → Type 0) (r : Result (Unit {0}) TooMany)
      → Offered B old new (P B) r → Offered A old new (P A) r
  offered_same old new P r = subst (λ (C : TreeAutomaton). Offered C old new (P C) r) same

  pub progress_same : (old new : Table) (P : TreeAutomaton → List Tree → List Tree → Type 0) → Progress B old new (P B) → Progress A old new (P A)
  progress_same old new P = subst (λ (C : TreeAutomaton). Progress C old new (P C)) same

  pub overflow_same : (t : Table) → Overflow B t → Overflow A t
  overflow_same t = subst (λ (C : TreeAutomaton). Overflow C t) same

module _ (A : TreeAutomaton) where
  pub no_step : (t : Table) (P : List Tree → List Tree → Type 0) → ((S us : List Tree) → P S us) → Progress A t t P
  no_step t P p S s = record { state = s; keeps = λ y c. c; brings = p S s.trees }

  pub and_then : (old mid new : Table) (P Q R : List Tree → List Tree → Type 0) → Progress A old mid P → Progress A mid new Q
      → ((S ts us : List Tree) → P S ts → Keeps A ts us → Q S us → R S us) → Progress A old new R
  and_then old mid new P Q R f g h S s =
      let a = f S s in
      let b = g S a.state in
      record { state = b.state; keeps = λ y c. b.keeps y (a.keeps y c); brings = h S a.state.trees b.state.trees a.brings b.keeps b.brings }

  pub weaken : (old new : Table) (P Q : List Tree → List Tree → Type 0) → Progress A old new P → ((S us : List Tree) → P S us → Q S us) → Progress A old new Q
  weaken old new P Q f h S s = let a = f S s in record { state = a.state; keeps = a.keeps; brings = h S a.state.trees a.brings }

  pub goes_on : (old new : Table) (P : List Tree → List Tree → Type 0) → Progress A old new P → Searching A old → Searching A new
  goes_on old new P f s = record { settled_list = s.settled_list; state = (f s.settled_list s.state).state }

  pub overflows : (old mid : Table) (P : List Tree → List Tree → Type 0) → Progress A old mid P → mid.shape ≡ old.shape → Overflow A mid → Overflow A old
  overflows old mid P f k h S s = subst (λ (sh : Shape). MoreThan A sh.most) k (h S (f S s).state)

  -- more classes than the table has rows
  pub overflown : (old : Table) (shape : Shape) → Overflow A old → shape ≡ old.shape → Searching A old → MoreClasses A shape.most
  overflown old shape h k s =
      let more : MoreThan A shape.most = subst (λ (sh : Shape). MoreThan A sh.most) (sym k) (h s.settled_list s.state) in
      record { more = more; longer = λ ts o. counted A shape.most ts more o }

  -- the search then ends with that
  pub finds_more : (Q : TooMany → Type 0) (t : Table) (r : Result (Unit {0}) TooMany) → IsErrAnd r Q → MoreClasses A t.shape.most → Finds A t r
  finds_more Q t (Ok _) e m = absurd e
  finds_more Q t (Err _) e m = m

  -- a step whose outcome is handed on
  pub offered_then : (old mid new : Table) (P Q R : List Tree → List Tree → Type 0) (r : Result (Unit {0}) TooMany) → Progress A old mid P → mid.shape ≡ old.shape → Offered A mid new Q r
      → ((S ts us : List Tree) → P S ts → Keeps A ts us → Q S us → R S us) → Offered A old new R r
  offered_then old mid new P Q R (Ok _) f k g h = and_then old mid new P Q R f g h
  offered_then old mid new P Q R (Err _) f k g h = overflows old mid P f k g

  -- a step that ends since one did: there are more classes, as that one says
  pub fails : (Q : TooMany → Type 0) (old new : Table) (P : List Tree → List Tree → Type 0) (r : Result (Unit {0}) TooMany) → IsErrAnd r Q → Overflow A old → Offered A old new P r
  fails Q old new P (Ok _) e h = absurd e
  fails Q old new P (Err _) e h = h

  both_kept : (S ts us : List Tree) (a k i : ℕ) → Keeps A ts us → BothWays A S ts a k i → BothWays A S us a k i
  both_kept S ts us a k i f b = (f _ b.0, f _ b.1)

  pub pairs_more : (S ts us : List Tree) (a k i : ℕ) → ((j : ℕ) → j < i → BothWays A S ts a k j) → Keeps A ts us → BothWays A S us a k i
      → (j : ℕ) → j < i + 1 → BothWays A S us a k j
  pairs_more S ts us a k i f g b = below_more (λ j. BothWays A S us a k j) i (λ j u. both_kept S ts us a k j g (f j u)) b

  pub letters_more : (S ts us : List Tree) (mark_of : ℕ → ℕ) (k n a : ℕ) → a ≡ mark_of n → ((i j : ℕ) → i < n → j < k + 1 → BothWays A S ts (mark_of i) k j)
      → Keeps A ts us → ((j : ℕ) → j < k + 1 → BothWays A S us a k j) → (i j : ℕ) → i < n + 1 → j < k + 1 → BothWays A S us (mark_of i) k j
  letters_more S ts us mark_of k n a e f g b i j h u =
      below_more (λ i. BothWays A S us (mark_of i) k j) n (λ i v. both_kept S ts us (mark_of i) k j g (f i j v u)) (subst (λ (m : ℕ). BothWays A S us m k j) e (b j u)) i h

  pub leaves_more : (ts us : List Tree) (mark_of : ℕ → ℕ) (n a : ℕ) → a ≡ mark_of n → ((i : ℕ) → i < n → Covered A ts (leaf (mark_of i)))
      → Keeps A ts us → Covered A us (leaf a) → (i : ℕ) → i < n + 1 → Covered A us (leaf (mark_of i))
  leaves_more ts us mark_of n a e f g c =
      below_more (λ i. Covered A us (leaf (mark_of i))) n (λ i v. g _ (f i v)) (subst (λ (m : ℕ). Covered A us (leaf m)) e c)

  pub pairs_covered : (S us : List Tree) (letters : ℕ) (mark_of : ℕ → ℕ) (k n : ℕ) → Alphabet A letters mark_of → letters ≡ n
      → ((i j : ℕ) → i < n → j < k + 1 → BothWays A S us (mark_of i) k j) → PairsCovered A S us k
  pairs_covered S us letters mark_of k n alphabet e f a j h u = (
    node_by_letters A letters mark_of alphabet us _ _ (λ i v. (f i j (omega arith) u).0) a h,
    node_by_letters A letters mark_of alphabet us _ _ (λ i v. (f i j (omega arith) u).1) a h,
  )
