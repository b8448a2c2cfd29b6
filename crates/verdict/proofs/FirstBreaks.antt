-- The first of the least trees that breaks a job is the least of all that break it: another that does so is alike to one of the
-- list, which breaks the job too, and so stands no earlier; and it is not less than that one.
use Rattle.std.proofs.Common.{◌≡◌, ℕ, ◌<◌, Bool, true, false, not, ◌&&◌, List, length, sym, ap, ◌∙◌, subst, inl, inr, arith}
use Rattle.std.proofs.lemmas.Bool.{true≢false, not-true, not_from_false, and_parts, and_from, cases_order}
use Rattle.model.specs.Trees.{Tree, Less}
use Rattle.model.specs.Types.{contains, is_of}
use Rattle.model.specs.Jobs.{Job, Alike, Comes, Good, FitsAll, result, WellFormedJob}
use Rattle.automata.specs.Classes.{at}
use Rattle.automata.proofs.Comparing.{transitive}
use Rattle.signatures.specs.JobClasses.{JobClasses, LeastBreak}
use Rattle.signatures.proofs.Telling.{one_tells_all}

-- the tree is of the first type, and what becomes of it is not of the second
abbrev pub breaks : Job → Tree → Bool
breaks j x = is_of j.from x && not (is_of j.to (result j x))

not_good : (b : Bool) → (b ≡ true → ⊥) → b ≡ false
not_good true f = absurd (f (λ _. true))
not_good false f = λ _. false

good_unless : (a b : Bool) → (a && not b) ≡ false → a ≡ true → b ≡ true
good_unless true true e h = λ _. true
good_unless true false e h = absurd (true≢false e)
good_unless false b e h = absurd (true≢false (sym h))

module _ (j : Job) (w : WellFormedJob j) (ts : List Tree) (c : JobClasses j ts) where
  pub none_breaks : ((i : ℕ) → i < length ts → breaks j (at ts i) ≡ false) → FitsAll j
  none_breaks f = one_tells_all j w ts c (λ i h comes. good_unless (is_of j.from (at ts i)) (is_of j.to (result j (at ts i))) (f i h) comes.of_type)

  same_breaks : (x y : Tree) → Alike j x y → breaks j x ≡ breaks j y
  same_breaks x y h =
      let first = ap (contains j.from.wanted) h.same_kind in
      let made = ap (contains j.to.wanted) (h.same_made 0 (omega (arith, w.turns.some_state))) in
      cc

  bad_breaks : (y : Tree) → Comes j y → (Good j y → ⊥) → breaks j y ≡ true
  bad_breaks y comes bad =
      and_from (is_of j.from y) (not (is_of j.to (result j y))) comes.of_type
      (not_from_false (is_of j.to (result j y)) (not_good (is_of j.to (result j y)) bad))

  pub first_breaks : (r : ℕ) → r < length ts → breaks j (at ts r) ≡ true → ((k : ℕ) → k < r → breaks j (at ts k) ≡ false) → LeastBreak j (at ts r)
  first_breaks r h e f =
      let p = and_parts (is_of j.from (at ts r)) (not (is_of j.to (result j (at ts r)))) e in
      record {
        comes = record { marked = c.marks r h; of_type = p.0 };
        bad = λ good. true≢false (sym good ∙ not-true (is_of j.to (result j (at ts r))) p.1);
        least = least;
      }
    where
      least : (y : Tree) → Comes j y → (Good j y → ⊥) → Less y (at ts r) → ⊥
      least y comes bad less =
          let g = c.all y comes.marked in
          let k = g.place in
          let too : breaks j (at ts k) ≡ true = same_breaks (at ts k) y g.alike ∙ bad_breaks y comes bad in
          let back = sym_alike (at ts k) y g.alike in
          elim (cases_order k r) [
            | inl q ↦ c.least k g.within y comes.marked (subst (λ (i : ℕ). Less y (at ts i)) (sym q) less) back
            | inr (inl u) ↦ true≢false (sym too ∙ f k u)
            | inr (inr q) ↦ c.least k g.within y comes.marked (transitive y (at ts r) (at ts k) less (c.order r k q g.within)) back
          ]
        where
          sym_alike : (x z : Tree) → Alike j x z → Alike j z x
          sym_alike x z a = record { same_kind = sym a.same_kind; same_made = λ q b. sym (a.same_made q b) }
