-- A tree put at a place of a list, which may be its end: it stands there, and the others where they stood, by induction on
-- the list. What holds of each of them holds of all.
use Rattle.std.proofs.Common.{◌≡◌, ℕ, zero, suc, ◌+◌, ◌<◌, ◌≤◌, List, [], ◌∷◌, length, sym, refl, ap, subst, suc-le-suc, arith}
use native.Mathlib.Decide.{ℕ_discrete, dec_lt}
use Rattle.model.specs.Trees.{Tree}
use Rattle.automata.specs.Classes.{at}

abbrev pub put : List Tree → ℕ → Tree → List Tree
put [] k x = x ∷ []
put (t ∷ ts) zero x = x ∷ ts
put (t ∷ ts) (suc k) x = t ∷ put ts k x

pub put_within : (ts : List Tree) (k : ℕ) (x : Tree) → k < length ts → length (put ts k x) ≡ length ts
put_within [] k x h = elim h [ ]
put_within (t ∷ ts) zero x h = refl
put_within (t ∷ ts) (suc k) x (suc-le-suc h) = ap suc (put_within ts k x h)

pub put_end : (ts : List Tree) (k : ℕ) (x : Tree) → k ≡ length ts → length (put ts k x) ≡ length ts + 1
put_end [] k x e = refl
put_end (t ∷ ts) zero x e = absurd (omega arith)
put_end (t ∷ ts) (suc k) x e = omega (arith, put_end ts k x (omega arith))

pub at_put : (ts : List Tree) (k : ℕ) (x : Tree) → k ≤ length ts → at (put ts k x) k ≡ x
at_put [] zero x h = refl
at_put [] (suc k) x h = elim h [ ]
at_put (t ∷ ts) zero x h = refl
at_put (t ∷ ts) (suc k) x (suc-le-suc h) = at_put ts k x h

pub at_others : (ts : List Tree) (k : ℕ) (x : Tree) (i : ℕ) → i < length ts → (i ≡ k → ⊥) → at (put ts k x) i ≡ at ts i
at_others [] k x i h n = elim h [ ]
at_others (t ∷ ts) zero x zero h n = absurd (n refl)
at_others (t ∷ ts) zero x (suc i) h n = refl
at_others (t ∷ ts) (suc k) x zero h n = refl
at_others (t ∷ ts) (suc k) x (suc i) (suc-le-suc h) n = at_others ts k x i h (λ e. n (ap suc e))

module _ (ts : List Tree) (k : ℕ) (x : Tree) (h : k ≤ length ts) where
  pub put_longer : (length ts ≤ length (put ts k x)) × (k < length (put ts k x))
  put_longer =
      elim (dec_lt k (length ts)) [
        | yes u ↦ (omega (arith, put_within ts k x u), omega (arith, put_within ts k x u))
        | no n ↦ let e : k ≡ length ts = omega arith in (omega (arith, put_end ts k x e), omega (arith, put_end ts k x e))
      ]

  -- another place than k was there before
  old_place : (i : ℕ) → i < length (put ts k x) → (i ≡ k → ⊥) → i < length ts
  old_place i u n =
      elim (dec_lt i (length ts)) [
        | yes v ↦ v
        | no v ↦ elim (dec_lt k (length ts)) [
          | yes w ↦ omega (arith, put_within ts k x w)
          | no w ↦ let e : k ≡ length ts = omega arith in absurd (n (omega (arith, put_end ts k x e)))
        ]
      ]

  pub put_all : (P : ℕ → Tree → Type 0) → ((i : ℕ) → i < length ts → (i ≡ k → ⊥) → P i (at ts i)) → P k x
      → (i : ℕ) → i < length (put ts k x) → P i (at (put ts k x) i)
  put_all P f p i u =
      elim (ℕ_discrete i k) [
        | yes e ↦ subst (λ (j : ℕ). P j (at (put ts k x) j)) (sym e) (subst (P k) (sym (at_put ts k x h)) p)
        | no n ↦ let v = old_place i u n in subst (P i) (sym (at_others ts k x i v n)) (f i v n)
      ]
