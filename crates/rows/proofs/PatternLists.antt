-- Patterns one behind the other: as long as each is found, a list of patterns that stands there begins with those found,
-- and what is left of it stands behind them. One more pattern found is one more at the end of the list.
use Rattle.std.proofs.Common.{◌≡◌, ℕ, ◌+◌, ◌<◌, ◌≤◌, List, [], ◌∷◌, ◌++◌, length, get_or, take, drop, Some, sym, refl, ap, ◌∙◌, subst, inl, inr, append_assoc, arith, length-drop, take-append-drop, length-take}
use Rattle.std.specs.List.{flat_map, AllByRecursion}
use Rattle.std.proofs.lemmas.List.{append-nil, get_or_append_left, get_or_push, length_push}
use Rattle.std.proofs.ByRecursion.{All-push, All-drop}
use Rattle.std.proofs.lemmas.Bool.{cases_eq}
use Rattle.model.specs.Turns.{Pattern, p_leaf}
use Rattle.model.specs.Rows.{pattern_row, patterns_row}
use Rattle.model.proofs.Prefix.{patterns_apart, joined_apart}
use Rattle.rows.specs.declared.patterns.Bounds.{Bounds}
use Rattle.rows.specs.Numbered.{number, Noted}
use Rattle.rows.specs.Standing.{Stands, Absent, Ends}
use Rattle.rows.specs.Stepwise.{PatternOk}
use Rattle.rows.specs.Jobs.{Begins, PatternsOk, PatternsKnown}
use Rattle.rows.proofs.Stood.{both}

joined_append : {A : Type 0} (row : A → List ℕ) (xs ys : List A) → flat_map row (xs ++ ys) ≡ flat_map row xs ++ flat_map row ys
joined_append row [] ys = refl
joined_append row (x ∷ xs) ys = ap (λ (l : List ℕ). row x ++ l) (joined_append row xs ys) ∙ sym (append_assoc (row x) (flat_map row xs) (flat_map row ys))

-- the patterns behind the first i of those that stand at a place
pub behind : (s : List ℕ) (at here : ℕ) (xs ps : List Pattern) (rest : List ℕ) → Stands s at here (patterns_row xs) → length xs ≤ length ps
    → drop at s ≡ patterns_row ps ++ rest → drop here s ≡ patterns_row (drop (length xs) ps) ++ rest
behind s at here xs ps rest st l e =
    let n = length xs in
    let parts : patterns_row ps ≡ patterns_row (take n ps) ++ patterns_row (drop n ps) = ap patterns_row (sym (take-append-drop n ps)) ∙ joined_append pattern_row (take n ps) (drop n ps) in
    let e' : patterns_row xs ++ drop here s ≡ patterns_row (take n ps) ++ (patterns_row (drop n ps) ++ rest) =
    sym st.words ∙ e ∙ ap (λ (l : List ℕ). l ++ rest) parts ∙ append_assoc (patterns_row (take n ps)) (patterns_row (drop n ps)) rest in
    (joined_apart pattern_row patterns_apart xs (take n ps) (drop here s) (patterns_row (drop n ps) ++ rest) (sym (simp length-take (omega arith))) e').1

module _ (s old new : List ℕ) (at here first count i : ℕ) (b : Bounds) (known : PatternsKnown s old new at here first i b) where
  first_of : (qs : List Pattern) (rest : List ℕ) → 1 ≤ length qs → AllByRecursion (PatternOk 64 b) qs → drop here s ≡ patterns_row qs ++ rest → Absent pattern_row (PatternOk 64 b) s here → ⊥
  first_of [] rest l ok e absent = omega arith
  first_of (q ∷ qs) rest l ok e absent = absent q (patterns_row qs ++ rest) ok.0 (e ∙ append_assoc (pattern_row q) (patterns_row qs) rest)

  pub none_next : i < count → Absent pattern_row (PatternOk 64 b) s here → Absent patterns_row (PatternsOk count b) s at
  none_next h absent ps rest ok e =
      let xs = known.patterns in
      let n : length xs ≡ i = known.ok.long in
      let d = behind s at here xs ps rest known.stands (omega (arith, ok.long)) e in
      first_of (drop (length xs) ps) rest (simp length-drop (omega (arith, ok.long))) (All-drop (PatternOk 64 b) (length xs) ps ok.each) d absent

  pub one_more : (end : ℕ) (newer : List ℕ) → Ends pattern_row (PatternOk 64 b) s here (Some end) → Noted new newer (first + i) here → PatternsKnown s old newer at end first (i + 1) b
  one_more end newer r noted =
      let xs = known.patterns in
      let n : length xs ≡ i = known.ok.long in
      let p = r.0 in
      let as_row : pattern_row p ≡ patterns_row (p ∷ []) = sym (append-nil (pattern_row p)) in
      record {
        patterns = xs ++ p ∷ [];
        ok = record { long = omega (arith, length_push xs p); each = All-push (PatternOk 64 b) xs p known.ok.each r.1 };
        stands = subst (Stands s at end) (ap (λ (l : List ℕ). patterns_row xs ++ l) as_row ∙ sym (joined_append pattern_row xs (p ∷ [])))
            (both s (patterns_row xs) (pattern_row p) at here end known.stands r.2);
        indexed = λ k h. elim (cases_eq k i) [
          | inl same ↦
              let at_end : get_or (xs ++ p ∷ []) k (p_leaf 0) ≡ p = get_or_push xs p (p_leaf 0) k (omega arith) in
              let place : number newer (first + k) ≡ here = ap (λ (j : ℕ). number newer (first + j)) same ∙ noted.here in
              let whole : Begins s here (pattern_row p) = subst (λ (z : ℕ). Stands s here z (pattern_row p)) r.2.long r.2 in
              subst (λ (q : Pattern). Begins s (number newer (first + k)) (pattern_row q)) (sym at_end) (subst (λ (z : ℕ). Begins s z (pattern_row p)) (sym place) whole)
          | inr other ↦
              let below : k < length xs = omega (arith, length_push xs p) in
              let ne : first + k ≡ first + i → ⊥ = λ e. other (omega arith) in
              subst (λ (q : Pattern). Begins s (number newer (first + k)) (pattern_row q)) (sym (get_or_append_left xs (p ∷ []) (p_leaf 0) k below))
              (subst (λ (z : ℕ). Begins s z (pattern_row (get_or xs k (p_leaf 0)))) (sym (noted.others (first + k) ne)) (known.indexed k below))
        ];
        kept = λ k h. let ne : k ≡ first + i → ⊥ = λ e. omega arith in noted.others k ne ∙ known.kept k h;
      }

pub none_yet : (s old : List ℕ) (at first : ℕ) (b : Bounds) → at ≤ length s → PatternsKnown s old old at at first 0 b
none_yet s old at first b h = record {
  patterns = [];
  ok = record { long = refl; each = tt };
  stands = record { words = refl; long = omega arith; within = h };
  indexed = λ k l. absurd (omega arith);
  kept = λ k l. refl;
}
