-- Lists of trees with one more at the end: what holds of each tree before and of the new one holds of all, since a place is
-- one of the old ones or the last.
use Rattle.std.proofs.Common.{◌≡◌, ℕ, ◌<◌, List, [], ◌∷◌, ◌++◌, length, sym, refl, subst, arith}
use native.Mathlib.Decide.{dec_lt}
use Rattle.std.proofs.lemmas.List.{get_or_append_left, get_or_push, length_push}
use Rattle.model.specs.Trees.{Tree, leaf}
use Rattle.automata.specs.Classes.{at}

abbrev pub push : List Tree → Tree → List Tree
push ts t = ts ++ t ∷ []

pub at_before : (ts : List Tree) (t : Tree) (i : ℕ) → i < length ts → at (push ts t) i ≡ at ts i
at_before ts t i h = get_or_append_left ts (t ∷ []) (leaf 0) i h

pub at_last : (ts : List Tree) (t : Tree) → at (push ts t) (length ts) ≡ t
at_last ts t = get_or_push ts t (leaf 0) (length ts) refl

pub push_all : (P : ℕ → Tree → Type 0) (ts : List Tree) (t : Tree)
    → ((i : ℕ) → i < length ts → P i (at ts i)) → P (length ts) t → (i : ℕ) → i < length (push ts t) → P i (at (push ts t) i)
push_all P ts t f p i h =
    elim (dec_lt i (length ts)) [
      | yes u ↦ subst (P i) (sym (at_before ts t i u)) (f i u)
      | no n ↦
          let e : length ts ≡ i = omega (arith, length_push ts t) in
          subst (P i) (sym (get_or_push ts t (leaf 0) i e)) (subst (λ (k : ℕ). P k t) e p)
    ]
