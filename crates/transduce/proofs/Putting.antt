-- One leaf or node more is written behind the words that stand there: two writes at the end of them.
use Rattle.std.proofs.Common.{◌≡◌, ℕ, ◌+◌, ◌-◌, ◌<◌, ◌≤◌, ◌⊎◌, List, [], ◌∷◌, ◌++◌, length, get_or, drop, set, sym, refl, ap, ◌∙◌, inl, inr, append_assoc, arith, length-append, length-drop}
use Rattle.std.proofs.lemmas.List.{drop_more, set_at, length_push}
use Rattle.rows.specs.declared.trees.Item.{Item}
use Rattle.rows.specs.declared.trees.Item.TheVariants.{Leaf, Node}
use Rattle.rows.specs.Subtrees.{item_row}

pub item_long : (x : Item) → length (item_row x) ≡ 2
item_long (Leaf a) = refl
item_long (Node a) = refl

-- what was lent begins with the words ws, as many as `used`, and goes on as it was
abbrev pub Written : ℕ → List ℕ → List ℕ → List ℕ → Type 0
Written used orig out ws = length ws ≤ length orig → (used ≡ length ws) × (out ≡ ws ++ drop (length ws) orig)

module _ (used : ℕ) (orig out ws : List ℕ) (x : Item) (h : Written used orig out ws) (room : length (ws ++ item_row x) ≤ length orig) where
  long : length ws + 2 ≤ length orig
  long = omega (arith, length-append ws (item_row x), item_long x)

  same_length : length out ≡ length orig
  same_length =
      let w = h (omega (arith, long)) in
      omega (arith, ap length w.1, length-append ws (drop (length ws) orig), length-drop (length ws) orig, long)

  pub no_room : (length out ≤ used) ⊎ (length out - used < 2) → ⊥
  no_room s =
      let w = h (omega (arith, long)) in
      elim s [ inl l ↦ omega (arith, w.0, same_length, long) | inr l ↦ omega (arith, w.0, same_length, long) ]

  pub put_two : (row : List ℕ) → row ≡ item_row x → (used + 2 ≡ length (ws ++ item_row x)) × (set (set out used (get_or row 0 0)) (used + 1) (get_or row 1 0) ≡ (ws ++ item_row x) ++ drop (length (ws ++ item_row x)) orig)
  put_two row e =
      let w = h (omega (arith, long)) in
      let n = length ws in
      let l : n + 2 ≤ length orig = long in
      let v = get_or row 0 0 in
      let u = get_or row 1 0 in
      let y = get_or orig (n + 1) 0 in
      let zs = drop (n + 1 + 1) orig in
      let rest : drop n orig ≡ get_or orig n 0 ∷ y ∷ zs = drop_more orig n 0 (omega arith) ∙ ap (λ (t : List ℕ). get_or orig n 0 ∷ t) (drop_more orig (n + 1) 0 (omega arith)) in
      let out_is : out ≡ ws ++ get_or orig n 0 ∷ y ∷ zs = w.1 ∙ ap (λ (t : List ℕ). ws ++ t) rest in
      let first : set out used v ≡ ws ++ v ∷ y ∷ zs = ap (λ (t : List ℕ). set t used v) out_is ∙ set_at ws (get_or orig n 0) (y ∷ zs) v used (sym w.0) in
      let second : set (set out used v) (used + 1) u ≡ (ws ++ v ∷ []) ++ u ∷ zs =
      ap (λ (t : List ℕ). set t (used + 1) u) (first ∙ sym (append_assoc ws (v ∷ []) (y ∷ zs))) ∙ set_at (ws ++ v ∷ []) y zs u (used + 1) (omega (arith, length_push ws v, w.0)) in
      let is_row : item_row x ≡ v ∷ u ∷ [] = sym (two_words x) ∙ sym (ap (λ (r : List ℕ). get_or r 0 0 ∷ get_or r 1 0 ∷ []) e) in
      let count : length (ws ++ item_row x) ≡ n + 1 + 1 = omega (arith, length-append ws (item_row x), item_long x) in (
        omega (arith, w.0, count),
        second ∙ append_assoc ws (v ∷ []) (u ∷ zs) ∙ sym (append_assoc ws (v ∷ u ∷ []) zs) ∙ ap (λ (r : List ℕ). (ws ++ r) ++ zs) (sym is_row) ∙ ap (λ (i : ℕ). (ws ++ item_row x) ++ drop i orig) (sym count),
      )
    where
      two_words : (x : Item) → get_or (item_row x) 0 0 ∷ get_or (item_row x) 1 0 ∷ [] ≡ item_row x
      two_words (Leaf a) = refl
      two_words (Node a) = refl
