-- The laws of automata, put together. That one tree of each class tells all, and that none is missed, are shown here: the
-- first since a test on the signature cannot tell alike trees apart, the second by induction on the tree.
use Rattle.std.proofs.Common.{◌≡◌, ℕ, suc, ◌+◌, ◌^◌, ◌<◌, Bool, true, List, length, sym, ap, ◌∙◌, arith}
use Rattle.model.specs.Trees.{Tree, leaf, node, size, Marked}
use Rattle.automata.specs.Automata.{TreeAutomaton, sig}
use Rattle.automata.specs.Classes.{at, Has, OneOfEach, Classes}
use Rattle.automata.specs.Laws.{AutomatonLaws, Closed}
use Rattle.automata.proofs.Growing.{alike_nodes, has_alike, plain_alphabet}
use Rattle.automata.proofs.Places.{by_places, parts_before, parts_least, settled_sizes, classes_settled}
use Rattle.automata.proofs.Counting.{counted}
use Rattle.automata.proofs.Finiteness.{finite}

one_tells_all : (A : TreeAutomaton) (test : List ℕ → Bool) (ts : List Tree) → OneOfEach A ts
    → ((i : ℕ) → i < length ts → test (sig A (at ts i)) ≡ true) → (y : Tree) → Marked A.marks y → test (sig A y) ≡ true
one_tells_all A test ts o f y k = let h = o.all y k in sym (ap test h.alike) ∙ f h.place h.within

pub none_missed : (A : TreeAutomaton) (ts : List Tree) → Closed A ts → (y : Tree) → Marked A.marks y → Has A ts y
none_missed A ts c (leaf a) k = c.leaves a k
none_missed A ts c (node a l r) k =
    let g = none_missed A ts c l k.1 in
    let h = none_missed A ts c r k.2 in
    has_alike A ts (node a (at ts g.place) (at ts h.place)) (node a l r) (alike_nodes A a _ l _ r g.alike h.alike)
    (c.nodes a g.place h.place k.0 g.within h.within)

sizes : (A : TreeAutomaton) (ts : List Tree) → Classes A ts → (i : ℕ) → i < length ts → size (at ts i) < 2 ^ (i + 1)
sizes A ts c i h =
    let e : 2 ^ suc i ≡ 2 ^ (i + 1) = ap (λ (n : ℕ). 2 ^ n) (omega arith) in omega (arith, settled_sizes A ts (classes_settled A ts c) i h, e)

pub laws : AutomatonLaws
laws = record {
  by_parts = alike_nodes;
  plain_letters = plain_alphabet;
  finite = finite;
  one_tells = λ A test x y e. ap test e;
  one_tells_all = one_tells_all;
  none_missed = none_missed;
  parts_least = parts_least;
  by_places = λ S rising. by_places S rising;
  parts_before = parts_before;
  sizes = sizes;
  counted = counted;
}
