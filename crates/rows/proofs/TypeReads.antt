-- Types at a place: a type's row is its number of kinds and three tables, and each of these is found or is absent.
-- What was found of the type so far stands in front of what is looked for next.
use Rattle.std.proofs.Common.{◌≡◌, ℕ, ◌+◌, ◌-◌, ◌*◌, ◌<◌, ◌≤◌, ◌⊎◌, List, [], ◌∷◌, ◌++◌, length, get_or, drop, Some, sym, refl, ap, ◌∙◌, subst, inl, inr, append_assoc, arith}
use Rattle.model.specs.Types.{TreeType, Below}
use Rattle.model.specs.Rows.{type_row}
use Rattle.rows.specs.Standing.{Stands, slice, Absent, Ends}
use Rattle.rows.specs.Tables.{Table, TypeOk, TypeRead}
use Rattle.rows.proofs.Stood.{Front, uncons, one, both}
use Rattle.rows.proofs.TableEnds.{slice_length, slice_stands, table_at, table_front}

module _ (s : List ℕ) (at m : ℕ) where
  -- the tables of a type whose row stands at the place, with k kinds
  record Whole (k : ℕ) (t : TreeType) (rest : List ℕ) : Type 0 where
    within : at < length s
    few : (1 ≤ k) × (k ≤ 64)
    words : drop (at + 1) s ≡ t.leaves ++ (t.nodes ++ (length t.wanted ∷ (t.wanted ++ rest)))
    leaves : Table m k t.leaves
    nodes : Table (m * (k * k)) k t.nodes
    wanted : Table (length t.wanted) k t.wanted

  whole : (k : ℕ) (t : TreeType) (rest : List ℕ) → get_or s at 0 ≡ k → TypeOk m t → drop at s ≡ type_row t ++ rest → Whole k t rest
  whole k t rest e ok d =
      let f = uncons s at (at + 1) t.kinds ((t.leaves ++ (t.nodes ++ (length t.wanted ∷ t.wanted))) ++ rest) refl d in
      let same : t.kinds ≡ k = sym f.word ∙ e in
      let w = ok.well_formed in
      let as_k : (xs : List ℕ) → Below t.kinds xs → Below k xs = λ xs b. subst (λ (n : ℕ). Below n xs) same b in
      record {
        within = f.within;
        few = (omega (arith, w.some_kind), omega (arith, ok.few_kinds));
        words = f.rest ∙ append_assoc t.leaves (t.nodes ++ (length t.wanted ∷ t.wanted)) rest ∙ ap (λ (l : List ℕ). t.leaves ++ l) (append_assoc t.nodes (length t.wanted ∷ t.wanted) rest);
        leaves = record { long = w.leaf_count; below = as_k t.leaves w.leaves_below };
        nodes = record { long = w.node_count ∙ ap (λ (n : ℕ). m * (n * n)) same; below = as_k t.nodes w.nodes_below };
        wanted = record { long = refl; below = as_k t.wanted w.wanted_below };
      }

  pub none_short : length s ≤ at → Absent type_row (TypeOk m) s at
  none_short h t rest ok d = let w = whole (get_or s at 0) t rest refl ok d in omega (arith, w.within)

  module _ (k : ℕ) (e : get_or s at 0 ≡ k) where
    pub none_kinds : (k ≡ 0) ⊎ (64 < k) → Absent type_row (TypeOk m) s at
    none_kinds h t rest ok d = let w = whole k t rest e ok d in elim h [ inl z ↦ omega (arith, w.few) | inr z ↦ omega (arith, w.few) ]

    pub none_leaves : Absent (λ xs. xs) (Table m k) s (at + 1) → Absent type_row (TypeOk m) s at
    none_leaves absent t rest ok d = let w = whole k t rest e ok d in absent t.leaves _ w.leaves w.words

    module _ (p : ℕ) (l : Ends (λ xs. xs) (Table m k) s (at + 1) (Some p)) where
      at_nodes : (t : TreeType) (rest : List ℕ) → Whole k t rest → drop p s ≡ t.nodes ++ (length t.wanted ∷ (t.wanted ++ rest))
      at_nodes t rest w = table_front s (at + 1) p m k t.leaves _ l w.leaves w.words

      pub none_nodes : Absent (λ xs. xs) (Table (m * (k * k)) k) s p → Absent type_row (TypeOk m) s at
      none_nodes absent t rest ok d = let w = whole k t rest e ok d in absent t.nodes _ w.nodes (at_nodes t rest w)

      module _ (q : ℕ) (n : Ends (λ xs. xs) (Table (m * (k * k)) k) s p (Some q)) where
        at_count : (t : TreeType) (rest : List ℕ) → Whole k t rest → Front s q (q + 1) (length t.wanted) (t.wanted ++ rest)
        at_count t rest w = uncons s q (q + 1) (length t.wanted) (t.wanted ++ rest) refl (table_front s p q (m * (k * k)) k t.nodes _ n w.nodes (at_nodes t rest w))

        pub none_count : length s ≤ q → Absent type_row (TypeOk m) s at
        none_count h t rest ok d = let f = at_count t rest (whole k t rest e ok d) in omega (arith, f.within)

        pub none_wanted : Absent (λ xs. xs) (Table (get_or s q 0) k) s (q + 1) → Absent type_row (TypeOk m) s at
        none_wanted absent t rest ok d =
            let w = whole k t rest e ok d in
            let f = at_count t rest w in
            absent t.wanted rest (record { long = sym f.word; below = w.wanted.below }) f.rest

        pub some_type : (z : ℕ) → at < length s → q < length s → 1 ≤ k → k ≤ 64 → m ≤ 64 → Ends (λ xs. xs) (Table (get_or s q 0) k) s (q + 1) (Some z)
            → TypeRead s at m (Some (record { kinds = k; leaves = at + 1; nodes = p; wanted = q + 1; end = z }))
        some_type z in_s in_q low high few r =
            let a = table_at s (at + 1) p m k l in
            let b = table_at s p q (m * (k * k)) k n in
            let c = table_at s (q + 1) z (get_or s q 0) k r in
            let count : z - (q + 1) ≡ get_or s q 0 = omega (arith, c.ends) in
            let as_end : (x : ℕ) (P : ℕ → Type 0) → P (get_or s q 0) → P (z - (q + 1)) = λ x P h. subst P (sym count) h in
            let long : length (slice (q + 1) (z - (q + 1)) s) ≡ get_or s q 0 = as_end z (λ (x : ℕ). length (slice (q + 1) x s) ≡ get_or s q 0) (slice_length s (q + 1) (get_or s q 0) c.within) in
            let wanted_stands : Stands s (q + 1) z (slice (q + 1) (z - (q + 1)) s) = as_end z (λ (x : ℕ). Stands s (q + 1) z (slice (q + 1) x s)) (subst (λ (x : ℕ). Stands s (q + 1) x (slice (q + 1) (get_or s q 0) s)) (sym c.ends) (slice_stands s (q + 1) (get_or s q 0) c.within)) in (
              record {
                few_marks = few;
                ok = record {
                  well_formed = record {
                    some_kind = low;
                    leaf_count = slice_length s (at + 1) m a.within;
                    node_count = slice_length s p (m * (k * k)) b.within;
                    leaves_below = a.below;
                    nodes_below = b.below;
                    wanted_below = as_end z (λ (x : ℕ). Below k (slice (q + 1) x s)) c.below;
                  };
                  few_kinds = high;
                };
                leaves_within = a.within;
                nodes_within = b.within;
                wanted_before = omega (arith, c.ends);
                wanted_within = omega (arith, c.ends, c.within);
              },
              both s (k ∷ []) _ at (at + 1) z (one s at (at + 1) k refl in_s e)
                  (both s (slice (at + 1) m s) _ (at + 1) p z (subst (λ (x : ℕ). Stands s (at + 1) x (slice (at + 1) m s)) (sym a.ends) (slice_stands s (at + 1) m a.within))
                  (both s (slice p (m * (k * k)) s) _ p q z (subst (λ (x : ℕ). Stands s p x (slice p (m * (k * k)) s)) (sym b.ends) (slice_stands s p (m * (k * k)) b.within))
                  (both s (length (slice (q + 1) (z - (q + 1)) s) ∷ []) _ q (q + 1) z (one s q (q + 1) _ refl in_q (sym long)) wanted_stands))),
            )
