-- Tables at a place: the words there are a table exactly if there are enough of them and each is below the bound.
-- A table that is found is a slice of the list.
use Rattle.std.proofs.Common.{◌≡◌, ℕ, ◌+◌, ◌-◌, ◌*◌, ◌<◌, ◌≤◌, Bool, true, false, ◌||◌, eqb, ltb, List, [], ◌∷◌, ◌++◌, length, get_or, take, drop, Some, sym, refl, ap, ◌∙◌, subst, inl, inr, mul_assoc, mul_comm, arith, length-append, length-drop, take-append-drop, length-take}
use Rattle.std.specs.List.{list_all, list_any, slice_range}
use Rattle.std.specs.Bool.{then_some}
use Rattle.std.proofs.lemmas.List.{get_or-drop, get_or-take, drop-drop, take_all, take_at}
use Rattle.std.proofs.ByRecursion.{All-get_or}
use Rattle.std.proofs.lemmas.Nat.{mul-add-lt}
use Rattle.std.proofs.lemmas.Bool.{true≢false, cases_eq, eq-eqb, ne_eqb, lt-ltb, ltb-true, and_from, and_parts}
use Rattle.model.specs.Types.{Below, contains}
use Rattle.model.proofs.Prefix.{split}
use Rattle.rows.specs.Standing.{Stands, slice, Absent, Ends}
use Rattle.rows.specs.Tables.{Table}

pub slice_length : (s : List ℕ) (at n : ℕ) → at + n ≤ length s → length (slice at n s) ≡ n
slice_length s at n h = simp (length-take, length-drop) (omega arith)

pub slice_at : (s : List ℕ) (at n i : ℕ) → i < n → get_or (slice at n s) i 0 ≡ get_or s (at + i) 0
slice_at s at n i h = get_or-take n (drop at s) i 0 h ∙ get_or-drop at s i 0

-- a slice stands at its place
pub slice_stands : (s : List ℕ) (at n : ℕ) → at + n ≤ length s → Stands s at (at + n) (slice at n s)
slice_stands s at n h = record {
  words = sym (take-append-drop n (drop at s)) ∙ ap (λ (r : List ℕ). slice at n s ++ r) (drop-drop n at s);
  long = ap (λ (k : ℕ). at + k) (sym (slice_length s at n h));
  within = h;
}

-- words that stand at a place are the slice there
pub stands_slice : (s xs : List ℕ) (at end : ℕ) → Stands s at end xs → slice at (length xs) s ≡ xs
stands_slice s xs at end st = ap (take (length xs)) st.words ∙ take_at xs (drop end s) (length xs) refl

-- the test of a table's words passes exactly if each is below the bound
below_passes : (bound : ℕ) (xs : List ℕ) → Below bound xs → list_all (λ x. ltb x bound) xs ≡ true
below_passes bound [] b = refl
below_passes bound (x ∷ xs) b = and_from _ _ (lt-ltb x bound b.0) (below_passes bound xs b.1)

passes_below : (bound : ℕ) (xs : List ℕ) → list_all (λ x. ltb x bound) xs ≡ true → Below bound xs
passes_below bound [] e = tt
passes_below bound (x ∷ xs) e =
    let p = and_parts (ltb x bound) (list_all (λ y. ltb y bound) xs) e in (ltb-true x bound p.0, passes_below bound xs p.1)

module _ (s : List ℕ) (at count bound : ℕ) where
  pub none_long : length s - at < count → Absent (λ xs. xs) (Table count bound) s at
  none_long h xs rest ok e = omega (arith, ok.long, length-drop at s, ap length e, length-append xs rest)

  pub none_below : list_all (λ x. ltb x bound) (slice at count s) ≡ false → Absent (λ xs. xs) (Table count bound) s at
  none_below n xs rest ok e =
      let same : slice at count s ≡ xs = ap (take count) e ∙ take_at xs rest count ok.long in
      true≢false (sym (below_passes bound xs ok.below) ∙ sym (ap (list_all (λ x. ltb x bound)) same) ∙ n)

  pub some_table : at + count ≤ length s → list_all (λ x. ltb x bound) (slice at count s) ≡ true → Ends (λ xs. xs) (Table count bound) s at (Some (at + count))
  some_table h e = (
    slice at count s,
    record { long = slice_length s at count h; below = passes_below bound (slice at count s) e },
    slice_stands s at count h,
  )

  -- what a reader answers by that test
  pub ends_by : (b : Bool) → at + count ≤ length s → b ≡ list_all (λ x. ltb x bound) (slice at count s) → Ends (λ xs. xs) (Table count bound) s at (then_some b (at + count))
  ends_by true h e = some_table h (sym e)
  ends_by false h e = none_below (sym e)

-- a table cut out of what follows a place
pub cut_out : (s t : List ℕ) (at count : ℕ) → t ≡ slice_range (take (length s - at) (drop at s)) 0 count → t ≡ slice at count s
cut_out s t at count e =
    e ∙ ap (λ (xs : List ℕ). take (count - 0) xs) (take_all (length s - at) (drop at s) (omega (arith, length-drop at s)))
    ∙ ap (λ (n : ℕ). take n (drop at s)) {x = count - 0} (omega arith)

-- a table that was found
pub record TableAt (s : List ℕ) (at end count bound : ℕ) : Type 0 where
  pub ends : end ≡ at + count
  pub within : at + count ≤ length s
  pub below : Below bound (slice at count s)

pub table_at : (s : List ℕ) (at end count bound : ℕ) → Ends (λ xs. xs) (Table count bound) s at (Some end) → TableAt s at end count bound
table_at s at end count bound r =
    let n : length r.0 ≡ count = r.1.long in
    let e : end ≡ at + count = omega (arith, r.2.long) in
    let same : r.0 ≡ slice at count s = sym (stands_slice s r.0 at end r.2) ∙ ap (λ (k : ℕ). slice at k s) n in
    record { ends = e; within = omega (arith, r.2.within); below = subst (Below bound) same r.1.below }

-- equal tables in front of equal lists
pub table_front : (s : List ℕ) (at end count bound : ℕ) (xs rest : List ℕ) → Ends (λ xs. xs) (Table count bound) s at (Some end) → Table count bound xs
    → drop at s ≡ xs ++ rest → drop end s ≡ rest
table_front s at end count bound xs rest r ok e = (split r.0 xs (drop end s) rest (r.1.long ∙ sym ok.long) (sym r.2.words ∙ e)).1

-- a word of a slice is below what bounds them all
pub slice_below : (s : List ℕ) (at n i k : ℕ) → at + n ≤ length s → i < n → Below k (slice at n s) → get_or s (at + i) 0 < k
slice_below s at n i k h l b =
    let in_slice : i < length (slice at n s) = omega (arith, slice_length s at n h) in
    omega (arith, slice_at s at n i l, All-get_or (λ x. x < k) (slice at n s) i 0 in_slice b)

-- the place of a node's kind lies in the table
pub place_below : (a l r k m : ℕ) → a < m → l < k → r < k → (a * k + l) * k + r < m * (k * k)
place_below a l r k m p q w =
    let row : a * k + l < k * m = mul-add-lt a k l m p q in
    let all : (a * k + l) * k + r < k * (k * m) = mul-add-lt (a * k + l) k r (k * m) row w in
    let same : k * (k * m) ≡ m * (k * k) = sym (mul_assoc k k m) ∙ mul_comm (k * k) m in
    omega arith

-- looking for a number, in either order of the test
pub contains_by : (n : ℕ) (xs : List ℕ) → list_any (λ y. eqb y n) xs ≡ contains xs n
contains_by n [] = refl
contains_by n (x ∷ xs) = ap (λ (b : Bool). b || list_any (λ y. eqb y n) xs) (turned x) ∙ ap (λ (b : Bool). eqb n x || b) (contains_by n xs)
  where
    turned : (x : ℕ) → eqb x n ≡ eqb n x
    turned x = elim (cases_eq x n) [ inl e ↦ eq-eqb x n e ∙ sym (eq-eqb n x (sym e)) | inr e ↦ ne_eqb x n e ∙ sym (ne_eqb n x (λ q. e (sym q))) ]
