-- Rows of a region lie side by side: each fits in, and writing one leaves the others as they were, since a row before it
-- ends where it begins or earlier.
use Rattle.std.proofs.Common.{◌≡◌, ℕ, ◌+◌, ◌-◌, ◌*◌, ◌<◌, ◌≤◌, List, length, take, drop, sym, ap, ◌∙◌, inl, inr, arith}
use borrow.Rule.Slice.PartMut.{put_mid}
use Rattle.std.proofs.lemmas.Nat.{mul-le}
use Rattle.std.proofs.lemmas.Slice.{between_is, between-put_mid, take-put_mid_below, drop-put_mid}
use Rattle.std.proofs.lemmas.Bool.{cases_order}
use Rattle.table.specs.Rows.{Written}

pub row_fits : (w k most len : ℕ) → k < most → most * w ≤ len → k * w + w ≤ len
row_fits w k most len h f = omega (arith, mul-le (k + 1) w most w (omega arith) (omega arith))

row_before : (w j k : ℕ) → j < k → j * w + w ≤ k * w
row_before w j k h = omega (arith, mul-le (j + 1) w k w (omega arith) (omega arith))

pub written : (w k d : ℕ) (from old new : List ℕ) → d ≡ w → length from ≡ w → k * w + w ≤ length old → new ≡ from
    → Written w k from old (put_mid (k * w) d old new)
written w k d from old new e l f g = record {
  here = between-put_mid (k * w) d old new (k * w + w) (omega arith) (omega (arith, ap length g)) ∙ g;
  others = λ j n. elim (cases_order j k) [
    | inl q ↦ absurd (n q)
    | inr (inl u) ↦ between_is (put_mid (k * w) d old new) (j * w) (j * w + w)
        ∙ (ap (drop (j * w)) (take-put_mid_below (k * w) d old new (j * w + w) (row_before w j k u) (omega arith))
        ∙ sym (between_is old (j * w) (j * w + w)))
    | inr (inr u) ↦ ap (take (j * w + w - j * w))
        (drop-put_mid (k * w) d old new (j * w) (omega (arith, row_before w k j u)) (omega arith) (omega (arith, ap length g)))
  ];
}
