-- Numbers f 0 .. f (n - 1) that are below m and pairwise different are at most m: the list of these values has none twice,
-- and the library counts such a list.
use Rattle.std.proofs.Common.{◌≡◌, ℕ, zero, suc, ◌<◌, ◌≤◌, Bool, true, false, ◌||◌, List, [], ◌∷◌, length, sym, refl, ap, subst, inl, inr, arith, eqb}
use Rattle.std.specs.List.{AllByRecursion, IsDistinct, list_any}
use Rattle.std.proofs.lemmas.Bool.{ne_eqb}
use Rattle.std.proofs.lemmas.Bool.Decides.{eqb_tells}
use Rattle.std.proofs.lemmas.Map.Steps.{length-le_from_distinct_below}

abbrev pub Different : ℕ → (ℕ → ℕ) → Type 0
Different n f = (i k : ℕ) → i < k → k < n → f i ≡ f k → ⊥

-- f (n - 1) down to f 0
abbrev values : (ℕ → ℕ) → ℕ → List ℕ
values f zero = []
values f (suc n) = f n ∷ values f n

length_values : (f : ℕ → ℕ) (n : ℕ) → length (values f n) ≡ n
length_values f zero = refl
length_values f (suc n) = ap suc (length_values f n)

apart : (f : ℕ → ℕ) (n x : ℕ) → ((i : ℕ) → i < n → f i ≡ x → ⊥) → AllByRecursion (λ y. eqb x y ≡ false) (values f n)
apart f zero x k = tt
apart f (suc n) x k = (ne_eqb x (f n) (λ e. k n (omega arith) (sym e)), apart f n x (λ i h. k i (omega arith)))

distinct : (f : ℕ → ℕ) (n : ℕ) → Different n f → IsDistinct eqb (values f n)
unfolding IsDistinct
distinct f zero d = tt
distinct f (suc n) d = (apart f n (f n) (λ i h. d i n h (omega arith)), distinct f n (λ i k u h. d i k u (omega arith)))

below : (f : ℕ → ℕ) (m n : ℕ) → ((i : ℕ) → i < n → f i < m) → (q : ℕ) → list_any (eqb q) (values f n) ≡ true → q < m
below f m zero b q h = grind arith
below f m (suc n) b q h =
    elim (eqb_tells q (f n)) [
      | inl u ↦ subst (λ (x : ℕ). x < m) (sym u.1) (b n (omega arith))
      | inr u ↦ below f m n (λ i l. b i (omega arith)) q (subst (λ (t : Bool). (t || list_any (eqb q) (values f n)) ≡ true) u.0 h)
    ]

pub pigeonhole : (m n : ℕ) (f : ℕ → ℕ) → ((i : ℕ) → i < n → f i < m) → Different n f → n ≤ m
pigeonhole m n f b d =
    let le = length-le_from_distinct_below (values f n) m (distinct f n d) (below f m n b) in omega (arith, length_values f n)

-- where one number below m is left over, there are fewer
pub one_left_over : (m n : ℕ) (f : ℕ → ℕ) (k : ℕ) → ((i : ℕ) → i < n → f i < m) → Different n f
    → k < m → ((i : ℕ) → i < n → f i ≡ k → ⊥) → n < m
unfolding IsDistinct
one_left_over m n f k b d h lacks =
    let le = length-le_from_distinct_below (k ∷ values f n) m apart_all all_below in omega (arith, length_values f n)
  where
    apart_all : IsDistinct eqb (k ∷ values f n)
    apart_all = (apart f n k lacks, distinct f n d)

    all_below : (q : ℕ) → list_any (eqb q) (k ∷ values f n) ≡ true → q < m
    all_below q e =
        elim (eqb_tells q k) [
          | inl u ↦ subst (λ (x : ℕ). x < m) (sym u.1) h
          | inr u ↦ below f m n b q (subst (λ (t : Bool). (t || list_any (eqb q) (values f n)) ≡ true) u.0 e)
        ]
