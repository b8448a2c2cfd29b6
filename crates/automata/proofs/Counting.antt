-- Trees of which no two are alike are no more than one tree of each class, by the pigeonhole principle on the places at
-- which their classes stand.
use Rattle.std.proofs.Common.{◌≡◌, ℕ, ◌+◌, ◌<◌, ◌≤◌, List, length, sym, ap, ◌∙◌, arith}
use Rattle.model.specs.Trees.{Tree}
use Rattle.automata.specs.Automata.{TreeAutomaton, sig, Alike}
use Rattle.automata.specs.Classes.{at, Has, OneOfEach, MoreThan}
use Rattle.automata.proofs.Pigeonhole.{pigeonhole}
use Rattle.automata.proofs.Growing.{has_or_not}

-- where a list has a tree's class
place_of : (A : TreeAutomaton) (ts : List Tree) (y : Tree) → Dec (Has A ts y) → ℕ
place_of A ts y (yes h) = h.place
place_of A ts y (no n) = 0

place_is : (A : TreeAutomaton) (ts : List Tree) (y : Tree) (d : Dec (Has A ts y)) → Has A ts y
    → (place_of A ts y d < length ts) × Alike A (at ts (place_of A ts y d)) y
unfolding place_of
place_is A ts y (yes h) g = (h.within, h.alike)
place_is A ts y (no n) g = absurd (n g)

pub counted : (A : TreeAutomaton) (n : ℕ) (ts : List Tree) → MoreThan A n → OneOfEach A ts → n < length ts
counted A n ts m o =
    let le : n + 1 ≤ length ts = pigeonhole (length ts) (n + 1) place (λ i h. (stands i h).0) different in omega arith
  where
    place : ℕ → ℕ
    place i = place_of A ts (at m.trees i) (has_or_not A ts (at m.trees i))

    stands : (i : ℕ) → i < n + 1 → (place i < length ts) × Alike A (at ts (place i)) (at m.trees i)
    stands i h = place_is A ts (at m.trees i) (has_or_not A ts (at m.trees i)) (o.all _ (m.marks i (omega (arith, m.count))))

    different : (i k : ℕ) → i < k → k < n + 1 → place i ≡ place k → ⊥
    different i k u h e =
        let alike : Alike A (at m.trees i) (at m.trees k) = sym (stands i (omega arith)).1 ∙ (ap (λ (j : ℕ). sig A (at ts j)) e ∙ (stands k h).1) in
        omega (arith, m.apart i k (omega (arith, m.count)) (omega (arith, m.count)) alike)
