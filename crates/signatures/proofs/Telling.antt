-- The laws of a job's classes, from those of its automaton: alike by the job is alike by the automaton. Whether a tree comes
-- in, and whether what becomes of it is good, is read off its signature, so that one tree of a class tells of the others.
use Rattle.std.proofs.Common.{◌≡◌, ℕ, zero, suc, ◌+◌, ◌*◌, ◌^◌, ◌<◌, ◌≤◌, List, length, sym, ap, ◌∙◌, arith}
use Rattle.model.specs.Trees.{Tree, leaf, node, Marked}
use Rattle.model.specs.Types.{contains}
use Rattle.model.specs.Jobs.{Job, Alike, Comes, Good, FitsAll, WellFormedJob}
use Rattle.automata.specs.Automata.{TreeAutomaton, sig}
use Rattle.automata.specs.Classes.{at, Has, Least, OneOfEach, Classes}
use Rattle.automata.specs.Laws.{Finite}
use Rattle.automata.proofs.Growing.{alike_nodes}
use Rattle.automata.proofs.Finiteness.{finite}
use Rattle.automata.proofs.Counting.{counted}
use Rattle.automata.proofs.Places.{parts_least}
use Rattle.automata.proofs.Theory.{none_missed}
use Rattle.signatures.specs.Signatures.{job_automaton}
use Rattle.signatures.specs.JobClasses.{HasAlike, LeastAlike, JobClasses, FewClasses, ManyClasses, ClosedAlike}
use Rattle.signatures.specs.Laws.{SignatureLaws, JobLaws}
use Rattle.signatures.proofs.Computing.{computed, alike_signed, signed_alike}
use Rattle.signatures.proofs.Codes.{code, signatures_coded}

each_below : (k m : ℕ) → ((n : ℕ) → k ≡ n + 1 → n < m) → k ≤ m
each_below zero m f = omega arith
each_below (suc n) m f = omega (arith, f n (omega arith))

module _ (j : Job) (w : WellFormedJob j) where
  abbrev A : TreeAutomaton
  A = job_automaton j

  -- alike by the job is alike by its automaton
  pub to_states : (x y : Tree) → Alike j x y → sig A x ≡ sig A y
  to_states x y h = computed j w x ∙ (alike_signed j x y h ∙ sym (computed j w y))

  pub from_states : (x y : Tree) → sig A x ≡ sig A y → Alike j x y
  from_states x y e = signed_alike j x y (sym (computed j w x) ∙ (e ∙ computed j w y))

  from_has : (ts : List Tree) (y : Tree) → Has A ts y → HasAlike j ts y
  from_has ts y h = record { place = h.place; within = h.within; alike = from_states (at ts h.place) y h.alike }

  to_has : (ts : List Tree) (y : Tree) → HasAlike j ts y → Has A ts y
  to_has ts y h = record { place = h.place; within = h.within; alike = to_states (at ts h.place) y h.alike }

  from_least : (x : Tree) → Least A x → LeastAlike j x
  from_least x h y m u e = h y m u (to_states y x e)

  to_least : (x : Tree) → LeastAlike j x → Least A x
  to_least x h y m u e = h y m u (from_states y x e)

  pub from_classes : (ts : List Tree) → Classes A ts → JobClasses j ts
  from_classes ts c = record {
    marks = c.one_of_each.marks;
    apart = λ i k h g e. c.one_of_each.apart i k h g (to_states (at ts i) (at ts k) e);
    all = λ y m. from_has ts y (c.one_of_each.all y m);
    least = λ i h. from_least (at ts i) (c.least i h);
    order = c.order;
  }

  to_each : (ts : List Tree) → JobClasses j ts → OneOfEach A ts
  to_each ts c = record {
    marks = c.marks;
    apart = λ i k h g e. c.apart i k h g (from_states (at ts i) (at ts k) e);
    all = λ y m. to_has ts y (c.all y m);
  }

  by_parts : (a : ℕ) (l l' r r' : Tree) → Alike j l l' → Alike j r r' → Alike j (node a l r) (node a l' r')
  by_parts a l l' r r' h k =
      from_states (node a l r) (node a l' r') (alike_nodes A a l l' r r' (to_states l l' h) (to_states r r' k))

  few_signatures : Finite A (j.from.kinds * j.to.kinds ^ j.turn.states)
  few_signatures = finite A _ (code j.to.kinds) (signatures_coded j w)

  pub all_classes : FewClasses j (j.from.kinds * j.to.kinds ^ j.turn.states)
  all_classes =
      let f = few_signatures in
      record { trees = f.trees; classes = from_classes f.trees f.classes; few = f.few }

  -- any number of classes fewer than there are is passed by some trees that are not alike
  pub more_classes : (n : ℕ) → ((ts : List Tree) → OneOfEach A ts → n < length ts) → ManyClasses j n
  more_classes n longer =
      record { trees = all_classes.trees; classes = all_classes.classes; many = longer all_classes.trees (to_each all_classes.trees all_classes.classes) }

  not_fewer : (ts us : List Tree) → JobClasses j ts → JobClasses j us → length ts ≤ length us
  not_fewer ts us c d =
      each_below (length ts) (length us) (λ n e. counted A n us (record { trees = ts; count = e; marks = c.marks; apart = (to_each ts c).apart }) (to_each us d))

  pub one_tells : (x y : Tree) → Marked j.marks x → Alike j x y → (Comes j x → Good j x) → Comes j y → Good j y
  one_tells x y m h f c =
      ap (contains j.to.wanted) (sym (h.same_made 0 (omega (arith, w.turns.some_state))))
      ∙ f (record { marked = m; of_type = ap (contains j.from.wanted) h.same_kind ∙ c.of_type })

  one_tells_each : (ts : List Tree) → OneOfEach A ts → ((i : ℕ) → i < length ts → Comes j (at ts i) → Good j (at ts i)) → FitsAll j
  one_tells_each ts o f y c =
      let h = o.all y c.marked in
      one_tells (at ts h.place) y (o.marks h.place h.within) (from_states (at ts h.place) y h.alike) (f h.place h.within) c

  pub one_tells_all : (ts : List Tree) → JobClasses j ts → ((i : ℕ) → i < length ts → Comes j (at ts i) → Good j (at ts i)) → FitsAll j
  one_tells_all ts o = one_tells_each ts (to_each ts o)

  no_class_missed : (ts : List Tree) → ClosedAlike j ts → (y : Tree) → Marked j.marks y → HasAlike j ts y
  no_class_missed ts c y m =
      from_has ts y (none_missed A ts (record { leaves = λ a h. to_has ts (leaf a) (c.leaves a h); nodes = λ a i k h p q. to_has ts (node a (at ts i) (at ts k)) (c.nodes a i k h p q) }) y m)

  least_parts : (a : ℕ) (l r : Tree) → Marked j.marks (node a l r) → LeastAlike j (node a l r) → LeastAlike j l × LeastAlike j r
  least_parts a l r m h = let p = parts_least A a l r m (to_least (node a l r) h) in (from_least l p.0, from_least r p.1)

pub laws : SignatureLaws
laws = record {
  computed = computed;
  alike = λ j x y. (alike_signed j x y, signed_alike j x y);
  by_parts = by_parts;
  finite = few_signatures;
  one_tells = one_tells;
  one_tells_all = one_tells_each;
}

pub job_laws : JobLaws
job_laws = record {
  by_parts = by_parts;
  finite = all_classes;
  counted = λ j w ts us c d. omega (arith, not_fewer j w ts us c d, not_fewer j w us ts d c);
  one_tells = one_tells;
  one_tells_all = one_tells_all;
  none_missed = no_class_missed;
  parts_least = least_parts;
}
