-- Words at a place: taken one by one, put together, and told from what stands elsewhere. By the laws of `drop`.
use Rattle.std.proofs.Common.{◌≡◌, ℕ, suc, ◌+◌, ◌-◌, ◌<◌, ◌≤◌, List, [], ◌∷◌, ◌++◌, length, get_or, drop, sym, refl, ap, ◌∙◌, inl, inr, append_assoc, arith, length-append, length-drop}
use mathlib.Core.List.{head-eq_of_cons-eq, tail-eq_of_cons-eq}
use Rattle.std.proofs.lemmas.List.{drop_more, drop_all, drop-drop, drop_at}
use Rattle.std.proofs.lemmas.Bool.{cases_lt}
use Rattle.rows.specs.Standing.{Stands}

-- the first word at a place, and what stands behind it
pub record Front (s : List ℕ) (at next w : ℕ) (ws : List ℕ) : Type 0 where
  pub within : at < length s
  pub word : get_or s at 0 ≡ w
  pub rest : drop next s ≡ ws

pub uncons : (s : List ℕ) (at next w : ℕ) (ws : List ℕ) → next ≡ at + 1 → drop at s ≡ w ∷ ws → Front s at next w ws
uncons s at next w ws n e =
    elim (cases_lt at (length s)) [
      | inl h ↦
          let d : get_or s at 0 ∷ drop (at + 1) s ≡ w ∷ ws = sym (drop_more s at 0 h) ∙ e in
          record { within = h; word = head-eq_of_cons-eq d; rest = ap (λ (i : ℕ). drop i s) n ∙ tail-eq_of_cons-eq d }
      | inr h ↦
          let d : [] ≡ w ∷ ws = sym (drop_all at s h) ∙ e in
          let z : 0 ≡ suc (length ws) = ap length d in absurd (omega arith)
    ]

-- a word, and what stands behind it
pub cons : (s : List ℕ) (at next w : ℕ) (ws : List ℕ) → next ≡ at + 1 → at < length s → get_or s at 0 ≡ w → drop next s ≡ ws → drop at s ≡ w ∷ ws
cons s at next w ws n h p q =
    let r : drop (at + 1) s ≡ ws = ap (λ (i : ℕ). drop i s) (sym n) ∙ q in
    drop_more s at 0 h ∙ cc

-- what stands behind some words
pub past : (s p rest : List ℕ) (at : ℕ) → drop at s ≡ p ++ rest → drop (at + length p) s ≡ rest
past s p rest at e = sym (drop-drop (length p) at s) ∙ ap (drop (length p)) e ∙ drop_at p rest (length p) refl

-- words at a place end within the list, where there are some
pub ends_within : (s p rest : List ℕ) (at : ℕ) → 1 ≤ length p → drop at s ≡ p ++ rest → at + length p ≤ length s
ends_within s p rest at h e =
    let l : length s - at ≡ length p + length rest = sym (length-drop at s) ∙ ap length e ∙ length-append p rest in
    omega arith

-- words with something behind them stand at their place
pub stands : (s p rest : List ℕ) (at : ℕ) → 1 ≤ length p → drop at s ≡ p ++ rest → Stands s at (at + length p) p
stands s p rest at h e = record {
  words = e ∙ ap (λ (r : List ℕ). p ++ r) (sym (past s p rest at e));
  long = refl;
  within = ends_within s p rest at h e;
}

-- words behind words
pub both : (s p q : List ℕ) (at mid end : ℕ) → Stands s at mid p → Stands s mid end q → Stands s at end (p ++ q)
both s p q at mid end a b = record {
  words = a.words ∙ ap (λ (r : List ℕ). p ++ r) b.words ∙ sym (append_assoc p q (drop end s));
  long = omega (arith, a.long, b.long, length-append p q);
  within = b.within;
}

-- one word
pub one : (s : List ℕ) (at next w : ℕ) → next ≡ at + 1 → at < length s → get_or s at 0 ≡ w → Stands s at next (w ∷ [])
one s at next w n h e = record { words = cons s at next w (drop next s) n h e refl; long = n; within = omega arith }

-- two words
pub two : (s : List ℕ) (at v w : ℕ) → at + 1 < length s → get_or s at 0 ≡ v → get_or s (at + 1) 0 ≡ w → Stands s at (at + 2) (v ∷ w ∷ [])
two s at v w h p q = both s (v ∷ []) (w ∷ []) at (at + 1) (at + 2) (one s at (at + 1) v refl (omega arith) p) (one s (at + 1) (at + 2) w (omega arith) h q)

pub three : (s : List ℕ) (at u v w : ℕ) → at + 2 < length s → get_or s at 0 ≡ u → get_or s (at + 1) 0 ≡ v → get_or s (at + 2) 0 ≡ w → Stands s at (at + 3) (u ∷ v ∷ w ∷ [])
three s at u v w h p q r = both s (u ∷ v ∷ []) (w ∷ []) at (at + 2) (at + 3) (two s at u v (omega arith) p q) (one s (at + 2) (at + 3) w (omega arith) h r)

-- what stands behind words that stand at a place
pub rest_stands : (s p q : List ℕ) (at end : ℕ) → Stands s at end (p ++ q) → Stands s (at + length p) end q
rest_stands s p q at end st = record {
  words = past s p (q ++ drop end s) at (st.words ∙ append_assoc p q (drop end s));
  long = omega (arith, st.long, length-append p q);
  within = st.within;
}
