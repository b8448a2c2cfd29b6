-- Signatures as numbers: the kinds are the digits, the kind in the first type the highest. Digits below the base give the
-- bound, and that different signatures have different numbers.
use Rattle.std.proofs.Common.{◌≡◌, ℕ, zero, suc, ◌+◌, ◌*◌, ◌/◌, ◌%◌, ◌^◌, ◌<◌, List, [], ◌∷◌, map, length, sym, refl, ap, ◌∙◌, subst, mul_assoc, mul-one, arith}
use native.Mathlib.Nat.{pow-succ', pow-zero}
use lib.Arith.{digits_lt, digits_div, digits_mod}
use Rattle.std.specs.List.{range_with_len}
use Rattle.std.proofs.lemmas.List.FromFn.{length-map-range_with_len}
use Rattle.model.proofs.KindsBelow.{kind_below}
use Rattle.model.specs.Trees.{Tree}
use Rattle.model.specs.Types.{kind, Below}
use Rattle.model.specs.Jobs.{Job, made_by, WellFormedJob}
use Rattle.automata.specs.Laws.{Coded}
use Rattle.signatures.specs.Signatures.{signature, job_automaton}
use Rattle.signatures.proofs.Computing.{computed}

-- digits behind h, to the base k
abbrev digits : ℕ → ℕ → List ℕ → ℕ
digits k h [] = h
digits k h (x ∷ xs) = digits k (h * k + x) xs

abbrev pub code : ℕ → List ℕ → ℕ
code k [] = 0
code k (x ∷ xs) = digits k x xs

digits_below : (k h n : ℕ) (xs : List ℕ) → h < n → Below k xs → digits k h xs < n * k ^ length xs
digits_below k h n [] l b = subst (λ (m : ℕ). h < m) (sym (ap (λ (m : ℕ). n * m) (pow-zero k) ∙ mul-one n)) l
digits_below k h n (x ∷ xs) l b =
    subst (λ (m : ℕ). digits k (h * k + x) xs < m) (mul_assoc n k (k ^ length xs) ∙ ap (λ (m : ℕ). n * m) (sym (pow-succ' k (length xs))))
    (digits_below k (h * k + x) (n * k) xs (digits_lt l b.0) b.1)

last_digit : (k a b c d : ℕ) → b < k → d < k → a * k + b ≡ c * k + d → (a ≡ c) × (b ≡ d)
last_digit k a b c d h i e =
    (sym (digits_div a h) ∙ (ap (λ (n : ℕ). n / k) e ∙ digits_div c i), sym (digits_mod a h) ∙ (ap (λ (n : ℕ). n % k) e ∙ digits_mod c i))

digits_same : (k g h : ℕ) (xs ys : List ℕ) → length xs ≡ length ys → Below k xs → Below k ys → digits k g xs ≡ digits k h ys → (g ≡ h) × (xs ≡ ys)
digits_same k g h [] [] l b d e = (e, refl)
digits_same k g h [] (y ∷ ys) l b d e = absurd (omega arith)
digits_same k g h (x ∷ xs) [] l b d e = absurd (omega arith)
digits_same k g h (x ∷ xs) (y ∷ ys) l b d e =
    let r = digits_same k (g * k + x) (h * k + y) xs ys (omega arith) b.1 d.1 e in
    let s = last_digit k g x h y b.0 d.0 r.0 in
    let first : x ≡ y = s.1 in
    let rest : xs ≡ ys = r.1 in
    (s.0, cc)

all_below : (k : ℕ) (f : ℕ → ℕ) → ((q : ℕ) → f q < k) → (n a : ℕ) → Below k (map f (range_with_len a n))
all_below k f h zero a = tt
all_below k f h (suc n) a = (h a, all_below k f h n (a + 1))

module _ (j : Job) (w : WellFormedJob j) where
  made_kinds : Tree → List ℕ
  made_kinds x = map (λ q. kind j.to (made_by j x q)) (range_with_len 0 j.turn.states)

  made_below : (x : Tree) → Below j.to.kinds (made_kinds x)
  unfolding made_kinds
  made_below x = all_below j.to.kinds (λ q. kind j.to (made_by j x q)) (λ q. kind_below j.marks j.to w.second (made_by j x q)) j.turn.states 0

  made_count : (x : Tree) → length (made_kinds x) ≡ j.turn.states
  unfolding made_kinds
  made_count x = length-map-range_with_len (λ q. kind j.to (made_by j x q)) 0 j.turn.states

  signature_below : (x : Tree) → code j.to.kinds (signature j x) < j.from.kinds * j.to.kinds ^ j.turn.states
  unfolding made_kinds
  signature_below x =
      subst (λ (n : ℕ). code j.to.kinds (signature j x) < j.from.kinds * j.to.kinds ^ n) (made_count x)
      (digits_below j.to.kinds (kind j.from x) j.from.kinds (made_kinds x) (kind_below j.marks j.from w.first x) (made_below x))

  signature_same : (x y : Tree) → code j.to.kinds (signature j x) ≡ code j.to.kinds (signature j y) → signature j x ≡ signature j y
  unfolding made_kinds
  signature_same x y e =
      let r = digits_same j.to.kinds (kind j.from x) (kind j.from y) (made_kinds x) (made_kinds y) (made_count x ∙ sym (made_count y)) (made_below x) (made_below y) e in
      let first = r.0 in
      let rest = r.1 in
      cc

  pub signatures_coded : Coded (job_automaton j) (j.from.kinds * j.to.kinds ^ j.turn.states) (code j.to.kinds)
  signatures_coded = record {
    bounded = λ x m. subst (λ (s : List ℕ). code j.to.kinds s < j.from.kinds * j.to.kinds ^ j.turn.states) (sym (computed j w x)) (signature_below x);
    faithful = λ x y m n e. computed j w x
        ∙ (signature_same x y (ap (code j.to.kinds) (sym (computed j w x)) ∙ (e ∙ ap (code j.to.kinds) (computed j w y))) ∙ sym (computed j w y));
  }
