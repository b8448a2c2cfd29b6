-- How the value of a list of words changes with one word, how the words below a place make it up, and how the words from the last one
-- down order it: each by induction on the list, with the weight of a place as a power of 2 ^ 32.
use Rattle.std.proofs.Common.{◌≡◌, ℕ, zero, suc, ◌+◌, ◌-◌, ◌*◌, ◌^◌, ◌<◌, ◌≤◌, List, [], ◌∷◌, ◌++◌, length, get_or, take, drop, set, replicate, reverse, sym, refl, ap, ◌∙◌, subst, suc-le-suc, arith, pow-add, Ordering, Less, Equal, Greater, ◌≢◌, ◌⊎◌, inl, inr}
use Rattle.std.proofs.lemmas.List.{reverse-append, append_assoc, length-append, length-reverse}
use Rattle.std.proofs.lemmas.Cmp.{ranked}
use Rattle.std.specs.List.{push}
use Rattle.std.specs.Ordering.{MatchOrdering, ordering_then, nat_cmp}
use Rattle.std.specs.Cmp.{nat_cmp_is}
use Rattle.std.specs.Cmp.Lexicographic.{slice_cmp}
use mathlib.Core.List.{reverse-cons}
use native.Mathlib.Nat.{pow-succ'}
use Rattle.numbers.specs.Value.{value, weight}

-- Weights.

pub weight_more : (i : ℕ) → weight (i + 1) ≡ 2 ^ 32 * weight i
weight_more i = ap weight (omega arith) ∙ pow-succ' (2 ^ 32) i

pub weight_is_power : (n : ℕ) → weight n ≡ 2 ^ (32 * n)
weight_is_power zero = refl
weight_is_power (suc n) =
    pow-succ' (2 ^ 32) n ∙ (ap (λ (k : ℕ). 2 ^ 32 * k) (weight_is_power n) ∙ (sym (pow-add 2 32 (32 * n)) ∙ ap (λ (k : ℕ). 2 ^ k) (omega arith)))

-- One word written.

pub value_set : (xs : List ℕ) (i v : ℕ) → i < length xs → value (set xs i v) + get_or xs i 0 * weight i ≡ value xs + v * weight i
value_set [] i v h = elim h [ ]
value_set (x ∷ xs) zero v h = omega arith
value_set (x ∷ xs) (suc i) v (suc-le-suc h) =
    rw (pow-succ' (2 ^ 32) i) (omega (arith, ap (λ (n : ℕ). 2 ^ 32 * n) (value_set xs i v h)))

pub value_zeros : (n : ℕ) → value (replicate n 0) ≡ 0
value_zeros zero = refl
value_zeros (suc n) = omega (arith, value_zeros n)

pub value_small : (xs : List ℕ) (n v : ℕ) → xs ≡ replicate n 0 → 0 < n → value (set xs 0 v) ≡ v
value_small xs zero v e h = absurd (omega arith)
value_small xs (suc n) v e h = ap (λ (ys : List ℕ). value (set ys 0 v)) e ∙ omega (arith, value_zeros n)

-- The words below a place, and those from it on.

value_take : (xs : List ℕ) (i : ℕ) → i < length xs → value (take (suc i) xs) ≡ value (take i xs) + get_or xs i 0 * weight i
value_take [] i h = elim h [ ]
value_take (x ∷ xs) zero h = omega arith
value_take (x ∷ xs) (suc i) (suc-le-suc h) =
    rw (pow-succ' (2 ^ 32) i) (omega (arith, ap (λ (n : ℕ). 2 ^ 32 * n) (value_take xs i h)))

pub value_more : (xs : List ℕ) (i : ℕ) → i < length xs → value (take (i + 1) xs) ≡ value (take i xs) + get_or xs i 0 * weight i
value_more xs i h = let e : i + 1 ≡ suc i = omega arith in ap (λ (n : ℕ). value (take n xs)) e ∙ value_take xs i h

value_drop : (xs : List ℕ) (i : ℕ) → i < length xs → value (drop i xs) ≡ get_or xs i 0 + 2 ^ 32 * value (drop (suc i) xs)
value_drop [] i h = elim h [ ]
value_drop (x ∷ xs) zero h = refl
value_drop (x ∷ xs) (suc i) (suc-le-suc h) = value_drop xs i h

-- one place further down
pub value_from : (xs : List ℕ) (i : ℕ) → 0 < i → i ≤ length xs → value (drop (i - 1) xs) ≡ get_or xs (i - 1) 0 + 2 ^ 32 * value (drop i xs)
value_from xs i some h =
    let e : suc (i - 1) ≡ i = omega arith in
    value_drop xs (i - 1) (omega arith) ∙ ap (λ (n : ℕ). get_or xs (i - 1) 0 + 2 ^ 32 * value (drop n xs)) e

-- A turn of the sum; `w` is the weight of the place.

pub sum_turn : (w d s k low up v v' v₀ t c : ℕ)
    → v' + d * w ≡ v + low * w → v + k * w ≡ v₀ + t + c → d + s + k ≡ up * (2 ^ 32) + low → v' + up * (2 ^ 32 * w) ≡ v₀ + (t + s * w) + c
sum_turn w d s k low up v v' v₀ t c e f g = omega (arith, ap (λ (n : ℕ). n * w) g)

-- The words from the last one down.

then_equal : (r : Ordering) → ordering_then r Equal ≡ r
then_equal Less = refl
then_equal Equal = refl
then_equal Greater = refl

then_assoc : (r o p : Ordering) → ordering_then r (ordering_then o p) ≡ ordering_then (ordering_then r o) p
then_assoc Less o p = refl
then_assoc Equal o p = refl
then_assoc Greater o p = refl

cmp_push : (xs ys : List ℕ) (x y : ℕ) → length xs ≡ length ys
    → slice_cmp nat_cmp (xs ++ x ∷ []) (ys ++ y ∷ []) ≡ ordering_then (slice_cmp nat_cmp xs ys) (nat_cmp x y)
cmp_push [] [] x y h = then_equal (nat_cmp x y)
cmp_push [] (v ∷ ys) x y h = absurd (omega arith)
cmp_push (u ∷ xs) [] x y h = absurd (omega arith)
cmp_push (u ∷ xs) (v ∷ ys) x y h = ap (ordering_then (nat_cmp u v)) (cmp_push xs ys x y (omega arith)) ∙ then_assoc (nat_cmp u v) _ _

-- the words above decide, and only where they are equal the low word
low_word : (r o : Ordering) (n m x y : ℕ) → x < 2 ^ 32 → y < 2 ^ 32 → MatchOrdering r (n < m) (n ≡ m) (m < n) → MatchOrdering o (x < y) (x ≡ y) (y < x)
    → MatchOrdering (ordering_then r o) (x + 2 ^ 32 * n < y + 2 ^ 32 * m) (x + 2 ^ 32 * n ≡ y + 2 ^ 32 * m) (y + 2 ^ 32 * m < x + 2 ^ 32 * n)
low_word Less o n m x y hx hy high low = omega arith
low_word Equal Less n m x y hx hy high low = omega arith
low_word Equal Equal n m x y hx hy high low = omega arith
low_word Equal Greater n m x y hx hy high low = omega arith
low_word Greater o n m x y hx hy high low = omega arith

pub compares : (xs ys : List ℕ) → length xs ≡ length ys → ((k : ℕ) → get_or xs k 0 < 2 ^ 32) → ((k : ℕ) → get_or ys k 0 < 2 ^ 32)
    → MatchOrdering (slice_cmp nat_cmp (reverse xs) (reverse ys)) (value xs < value ys) (value xs ≡ value ys) (value ys < value xs)
compares [] [] h f g = refl
compares [] (y ∷ ys) h f g = absurd (omega arith)
compares (x ∷ xs) [] h f g = absurd (omega arith)
compares (x ∷ xs) (y ∷ ys) h f g =
    let e : slice_cmp nat_cmp (reverse (x ∷ xs)) (reverse (y ∷ ys)) ≡ ordering_then (slice_cmp nat_cmp (reverse xs) (reverse ys)) (nat_cmp x y) =
    ap (λ (zs : List ℕ). slice_cmp nat_cmp zs (reverse (y ∷ ys))) (reverse-cons x xs)
    ∙ (ap (slice_cmp nat_cmp (reverse xs ++ x ∷ [])) (reverse-cons y ys)
    ∙ cmp_push (reverse xs) (reverse ys) x y (omega (arith, length-reverse xs, length-reverse ys))) in
    subst (λ (r : Ordering). MatchOrdering r (value (x ∷ xs) < value (y ∷ ys)) (value (x ∷ xs) ≡ value (y ∷ ys)) (value (y ∷ ys) < value (x ∷ xs))) (sym e)
    (low_word (slice_cmp nat_cmp (reverse xs) (reverse ys)) (nat_cmp x y) (value xs) (value ys) x y (f 0) (g 0)
    (compares xs ys (omega arith) (λ k. f (suc k)) (λ k. g (suc k))) (ranked x y (nat_cmp x y) refl))

-- A turn of the comparison: `us` are the words gone by, the same in both.

pub word_next : (xs ws us vs : List ℕ) (x : ℕ) → vs ≡ us ++ reverse ws → ws ≡ push xs x → vs ≡ us ++ x ∷ reverse xs
word_next xs ws us vs x e f = e ∙ ap (λ (zs : List ℕ). us ++ zs) (ap reverse f ∙ reverse-append xs (x ∷ []))

pub word_gone : (xs ws us vs : List ℕ) (x : ℕ) → vs ≡ us ++ reverse ws → ws ≡ push xs x → vs ≡ (us ++ x ∷ []) ++ reverse xs
word_gone xs ws us vs x e f = word_next xs ws us vs x e f ∙ sym (append_assoc us (x ∷ []) (reverse xs))

then_decided : (r o : Ordering) (x y : ℕ) → MatchOrdering r (x < y) (x ≡ y) (y < x) → x ≢ y → ordering_then r o ≡ r
then_decided Less o x y m h = refl
then_decided Equal o x y m h = absurd (h m)
then_decided Greater o x y m h = refl

-- the first words that differ decide
pub first_decides : (us xs ys : List ℕ) (x y : ℕ) → x ≢ y → slice_cmp nat_cmp (us ++ x ∷ xs) (us ++ y ∷ ys) ≡ nat_cmp x y
first_decides [] xs ys x y h = then_decided (nat_cmp x y) (slice_cmp nat_cmp xs ys) x y (ranked x y (nat_cmp x y) refl) h
first_decides (u ∷ us) xs ys x y h =
    ap (λ (r : Ordering). ordering_then r (slice_cmp nat_cmp (us ++ x ∷ xs) (us ++ y ∷ ys))) (sym (nat_cmp_is u u Equal refl)) ∙ first_decides us xs ys x y h

gone_long : (xs us vs : List ℕ) → vs ≡ us ++ reverse xs → length vs ≡ length us + length xs
gone_long xs us vs e = ap length e ∙ (length-append us (reverse xs) ∙ ap (λ (n : ℕ). length us + n) (length-reverse xs))

-- where none differs, and one list is at its end, so is the other
pub none_differs : (xs ys us vs ws : List ℕ) → length vs ≡ length ws → vs ≡ us ++ reverse xs → ws ≡ us ++ reverse ys → (length xs ≡ 0) ⊎ (length ys ≡ 0) → vs ≡ ws
none_differs [] [] us vs ws h e f g = e ∙ sym f
none_differs [] (y ∷ ys) us vs ws h e f g = absurd (omega (arith, gone_long [] us vs e, gone_long (y ∷ ys) us ws f))
none_differs (x ∷ xs) [] us vs ws h e f g = absurd (omega (arith, gone_long (x ∷ xs) us vs e, gone_long [] us ws f))
none_differs (x ∷ xs) (y ∷ ys) us vs ws h e f (inl g) = absurd (omega arith)
none_differs (x ∷ xs) (y ∷ ys) us vs ws h e f (inr g) = absurd (omega arith)
