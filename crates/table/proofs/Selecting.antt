-- The least of the open rows, kept while rows are passed: a row that comes before the best so far comes before all that the
-- best comes before, since the comparison by size, mark and places is transitive.
use Rattle.std.proofs.Common.{◌≡◌, ℕ, ◌+◌, ◌<◌, ◌⊎◌, IfSome, Some, None, Option, sym, ap, ◌∙◌, subst, inl, inr, arith, MatchOption}
use native.Mathlib.Decide.{dec_lt}
use Rattle.model.specs.Trees.{Lex}
use Rattle.automata.specs.Links.{Link, Precedes, Ties}
use Rattle.table.specs.declared.Table.{Table}
use Rattle.table.specs.Tables.{tree_at, rank_at, NotAfter, LeastOpen}

lex_transitive : (a b c : ℕ) {Q Q' Q'' : Type 0} → (Q → Q' → Q'') → Lex (a < b) (a ≡ b) Q → Lex (b < c) (b ≡ c) Q' → Lex (a < c) (a ≡ c) Q''
lex_transitive a b c f (inl u) (inl v) = inl (omega arith)
lex_transitive a b c f (inl u) (inr v) = inl (omega (arith, v.0))
lex_transitive a b c f (inr u) (inl v) = inl (omega (arith, u.0))
lex_transitive a b c f (inr u) (inr v) = inr (u.0 ∙ v.0, f u.1 v.1)

precedes_transitive : (k h j : Link) → Precedes k h → Precedes h j → Precedes k j
precedes_transitive k h j =
    lex_transitive k.size h.size j.size
    (lex_transitive k.mark h.mark j.mark
    (lex_transitive k.left h.left j.left (λ (u : k.right < h.right) (v : h.right < j.right). omega arith)))

precedes_ties : (k h j : Link) → Precedes k h → Ties h j → Precedes k j
precedes_ties k h j (inl u) t = inl (omega (arith, t.size))
precedes_ties k h j (inr (e, inl u)) t = inr (e ∙ t.size, inl (omega (arith, t.mark)))
precedes_ties k h j (inr (e, inr (f, inl u))) t = inr (e ∙ t.size, inr (f ∙ t.mark, inl (omega (arith, t.left))))
precedes_ties k h j (inr (e, inr (f, inr (g, u)))) t = inr (e ∙ t.size, inr (f ∙ t.mark, inr (g ∙ t.left, omega (arith, t.right))))

precedes_not_after : (k h j : Link) → Precedes k h → NotAfter h j → NotAfter k j
precedes_not_after k h j u (inl v) = inl (precedes_transitive k h j u v)
precedes_not_after k h j u (inr t) = inl (precedes_ties k h j u t)

not_after_same : (k h : Link) → k ≡ h → NotAfter k h
not_after_same k h e = inr (record { size = ap (λ (x : Link). x.size) e; mark = ap (λ (x : Link). x.mark) e; left = ap (λ (x : Link). x.left) e; right = ap (λ (x : Link). x.right) e })

-- the choice among the first n rows
abbrev pub Chosen : Table → ℕ → Option ℕ → Type 0
Chosen t n best = MatchOption best ((j : ℕ) → j < n → 0 < rank_at t j) (λ b. LeastOpen t n b)

module _ (t : Table) (k : ℕ) where
  row_before : (j : ℕ) → j < k + 1 → (j < k) ⊎ (j ≡ k)
  row_before j h = elim (dec_lt j k) [ yes u ↦ inl u | no u ↦ inr (omega arith) ]

  -- row k is open and comes first
  first_taken : rank_at t k ≡ 0 → ((j : ℕ) → j < k → rank_at t j ≡ 0 → NotAfter (tree_at t k) (tree_at t j)) → LeastOpen t (k + 1) k
  first_taken z f = record {
    within = omega arith;
    unranked = z;
    low = λ j h y. elim (row_before j h) [ inl u ↦ f j u y | inr e ↦ not_after_same (tree_at t k) (tree_at t j) (ap (tree_at t) (sym e)) ];
  }

  taken : (best : Option ℕ) → Chosen t k best → (rank_at t k ≡ 0) × IfSome best (λ b. Precedes (tree_at t k) (tree_at t b)) → LeastOpen t (k + 1) k
  taken None all p = first_taken p.0 (λ j h y. absurd (omega (arith, all j h, y)))
  taken (Some b) l p = first_taken p.0 (λ j h y. precedes_not_after (tree_at t k) (tree_at t b) (tree_at t j) p.1 (l.low j h y))

  pub take_row : (best now_best : Option ℕ) → Chosen t k best → (rank_at t k ≡ 0) × IfSome best (λ b. Precedes (tree_at t k) (tree_at t b))
      → now_best ≡ Some k → Chosen t (k + 1) now_best
  take_row best now_best l p e = subst (Chosen t (k + 1)) (sym e) (taken best l p)

  kept : (best : Option ℕ) → Chosen t k best → (0 < rank_at t k) ⊎ MatchOption best ⊥ (λ b. NotAfter (tree_at t b) (tree_at t k)) → Chosen t (k + 1) best
  kept None all (inl p) = λ j h. elim (row_before j h) [ inl u ↦ all j u | inr e ↦ omega (arith, p, ap (rank_at t) e) ]
  kept None all (inr p) = absurd p
  kept (Some b) l (inl p) = record {
    within = omega (arith, l.within);
    unranked = l.unranked;
    low = λ j h y. elim (row_before j h) [ inl u ↦ l.low j u y | inr e ↦ absurd (omega (arith, p, y, ap (rank_at t) e)) ];
  }
  kept (Some b) l (inr p) = record {
    within = omega (arith, l.within);
    unranked = l.unranked;
    low = λ j h y. elim (row_before j h) [
      | inl u ↦ l.low j u y
      | inr e ↦ subst (λ (i : ℕ). NotAfter (tree_at t b) (tree_at t i)) (sym e) p
    ];
  }

  pub keep_row : (best now_best : Option ℕ) → Chosen t k best → (0 < rank_at t k) ⊎ MatchOption best ⊥ (λ b. NotAfter (tree_at t b) (tree_at t k))
      → now_best ≡ best → Chosen t (k + 1) now_best
  keep_row best now_best l p e = subst (Chosen t (k + 1)) (sym e) (kept best l p)
